use Rattle.std.proofs.Common.{◌≡◌, drop}
use Rattle.std.specs.List.{list_any}
use Rattle.class_record.specs.Required.{is_initializer}
use Rattle.vm_start.specs.Asked.{methods_at}
use Rattle.vm_start.proofs.asked.has_initializer.Given as goal

abbrev pub invariant-loop-k : goal.invariant-loop-k
invariant-loop-k g l =
    list_any is_initializer (drop l.k (methods_at (g.C.Classes.classes l.classes) l.id.0)) ≡ list_any is_initializer (methods_at (g.C.Classes.classes l.classes) l.id.0)
