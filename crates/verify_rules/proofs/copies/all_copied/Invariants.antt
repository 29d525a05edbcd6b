use Rattle.std.proofs.Common.{◌≡◌, take}
use Rattle.verify_rules.proofs.copies.all_copied.Given as goal

abbrev pub invariant-loop-t : goal.invariant-loop-t
invariant-loop-t l = l.all ≡ take l.t-index l.types
