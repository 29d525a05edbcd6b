use Rattle.std.proofs.Common.{◌≡◌, None, length}
use Rattle.jsa_ops.proofs.KeyOrder.{ascending}
use Rattle.jsa_ops.proofs.keys.ascend.Given as goal

abbrev pub invariant-loop-key : goal.invariant-loop-key
invariant-loop-key l = ascending l.before l.rest ≡ ascending None l.fn.pairs

abbrev pub decreases-loop-key : goal.decreases-loop-key
decreases-loop-key l = length l.rest
