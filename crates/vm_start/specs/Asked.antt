-- The fields and methods of a loaded class, as they are looked through.
use Rattle.std.specs.Prelude.{ℕ, List, [], slice_get}
use Rattle.class_record.specs.declared.record.FieldRecord.{FieldRecord}
use Rattle.class_record.specs.declared.record.MethodRecord.{MethodRecord}
use Rattle.class_record.specs.Facts.{Facts, with_class}

abbrev pub fields_at : List Facts → ℕ → List FieldRecord
fields_at fs id = with_class [] (λ f. f.fields) (slice_get fs id)

abbrev pub methods_at : List Facts → ℕ → List MethodRecord
methods_at fs id = with_class [] (λ f. f.methods) (slice_get fs id)
