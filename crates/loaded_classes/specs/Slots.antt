-- Auxiliary: the slots of the fields of a class file, one beside each field.
use Rattle.std.specs.Prelude.{ℕ, ◌+◌, ◌<◌, ◌^◌, List, [], ◌∷◌, length, if◌then◌else◌, Option, Some, None}
use Rattle.class_tree.specs.declared.constant_pool.PoolEntry.{PoolEntry}
use Rattle.class_tree.specs.declared.tree.CodeTree.{CodeTree}
use Rattle.class_tree.specs.declared.tree.FieldTree.{FieldTree}
use Rattle.class_tree.specs.declared.tree.Handler.{Handler}
use Rattle.class_tree.specs.declared.tree.MethodTree.{MethodTree}
use Rattle.class_record.specs.declared.record.FieldRecord.{FieldRecord}
use Rattle.class_record.specs.Records.{is_static, field_record}
use Rattle.class_record.specs.Trees.{bytes_of}

-- The next instance field gets the one slot, the next static field the other.
abbrev pub field_slots : ℕ → ℕ → List FieldTree → List ℕ
field_slots instance static [] = []
field_slots instance static (f ∷ fs) =
    if is_static f then static ∷ field_slots instance (static + 1) fs else instance ∷ field_slots (instance + 1) static fs

-- a field with the slot beside it
abbrev pub with_slot : List PoolEntry → Option ℕ → Option FieldTree → Option FieldRecord
with_slot pool None field = None
with_slot pool (Some slot) None = None
with_slot pool (Some slot) (Some field) = Some (field_record pool slot field)

abbrev pub IsShortCode : MethodTree → Type 0
IsShortCode m = length (bytes_of m.code) < 2 ^ 16

abbrev pub rows_of : Option CodeTree → List Handler
rows_of None = []
rows_of (Some c) = c.handlers
