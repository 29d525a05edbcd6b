use Rattle.std.proofs.Common.{◌≡◌, length}
use Rattle.verify_rules.specs.Assign.{component_assign}
use Rattle.type_verifier.proofs.assigning.component_assign.Given as goal

abbrev pub invariant-loop-from_left : goal.invariant-loop-from_left
invariant-loop-from_left l = record { same : component_assign l.from_left l.to_left ≡ component_assign l.from l.to; unasked : l.asks ≡ l.fn.asks }

abbrev pub decreases-loop-from_left : goal.decreases-loop-from_left
decreases-loop-from_left l = length l.from_left
