use Rattle.std.proofs.Common.{◌≡◌, ◌+◌, ◌≤◌, drop}
use Rattle.verify_rules.specs.Types.{units}
use Rattle.verify_rules.proofs.stack.units_within.Given as goal

abbrev pub invariant-loop-t : goal.invariant-loop-t
invariant-loop-t l = (l.taken + units (drop l.t-index l.types) ≡ units l.types) × (l.taken ≤ l.room)
