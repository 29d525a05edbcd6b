use Rattle.std.proofs.Common.{length}
use Rattle.verify_rules.specs.Fits.{locals_fit}
use Rattle.type_verifier.proofs.Asked.{Leads}
use Rattle.type_verifier.proofs.fits.locals_fit.Given as goal

abbrev pub invariant-loop-from_left : goal.invariant-loop-from_left
invariant-loop-from_left l = Leads (locals_fit l.from l.to) (locals_fit l.from_left l.to_left) l.fn.asks l.asks

abbrev pub decreases-loop-from_left : goal.decreases-loop-from_left
decreases-loop-from_left l = length l.from_left
