use Rattle.std.proofs.Common.{length}
use Rattle.verify_rules.specs.Asking.{each}
use Rattle.verify_rules.specs.Flow.{target_fits, pair_distances}
use Rattle.type_verifier.proofs.Asked.{Leads}
use Rattle.type_verifier.proofs.flow.pair_distances_fit.Given as goal

abbrev pub invariant-loop-distance : goal.invariant-loop-distance
invariant-loop-distance l = Leads (each (target_fits l.declared l.place l.f) (pair_distances l.fn.pairs)) (each (target_fits l.declared l.place l.f) (pair_distances l.rest)) l.fn.asks l.asks

abbrev pub decreases-loop-distance : goal.decreases-loop-distance
decreases-loop-distance l = length l.rest
