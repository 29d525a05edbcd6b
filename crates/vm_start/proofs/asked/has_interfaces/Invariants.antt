use Rattle.std.proofs.Common.{◌≡◌, ◌≤◌, drop, length, map}
use Rattle.class_record.specs.Facts.{interfaces_at}
use Rattle.class_record.specs.Required.{are_same}
use Rattle.vm_start.proofs.asked.has_interfaces.Given as goal

abbrev pub invariant-loop-name : goal.invariant-loop-name
invariant-loop-name g l = record {
  place : l.k ≡ l.name-index;
  within : l.k ≤ length (interfaces_at (g.C.Classes.classes l.classes) l.id.0);
  left :
      are_same (drop l.k (interfaces_at (g.C.Classes.classes l.classes) l.id.0)) (map (λ s. s.now) (drop l.k l.names))
      ≡ are_same (interfaces_at (g.C.Classes.classes l.classes) l.id.0) (map (λ s. s.now) l.names);
}
