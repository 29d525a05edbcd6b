use Rattle.std.proofs.Common.{◌≡◌, length}
use Rattle.jsa_ops.specs.Spelling.{pairs}
use Rattle.jsa_ops.specs.Switches.{pair_distance}
use Rattle.jsa_ops.proofs.switches.pair_distance.Given as goal

abbrev pub invariant-loop-found : goal.invariant-loop-found
invariant-loop-found l = pair_distance l.fn.other (pairs l.rest) l.fn.key ≡ pair_distance l.fn.other (pairs l.fn.pairs) l.fn.key

abbrev pub decreases-loop-found : goal.decreases-loop-found
decreases-loop-found l = length l.rest
