use Rattle.std.proofs.Common.{◌≡◌, drop}
use Rattle.std.specs.List.{list_any}
use Rattle.class_record.specs.Required.{is_wanted}
use Rattle.vm_start.specs.Table.{wanted_of}
use Rattle.vm_start.specs.Asked.{fields_at}
use Rattle.vm_start.proofs.asked.has_instance_field.Given as goal

abbrev pub invariant-loop-k : goal.invariant-loop-k
invariant-loop-k g l =
    list_any (is_wanted (wanted_of l.wanted)) (drop l.k (fields_at (g.C.Classes.classes l.classes) l.id.0))
    ≡ list_any (is_wanted (wanted_of l.wanted)) (fields_at (g.C.Classes.classes l.classes) l.id.0)
