use Rattle.std.proofs.Common.{drop, Ok}
use Rattle.verify_rules.specs.Asking.{Did}
use Rattle.verify_rules.specs.Fits.{operands_fit}
use Rattle.type_verifier.proofs.fits.operands_fit.Given as goal

abbrev pub invariant-loop-k : goal.invariant-loop-k
invariant-loop-k l = Did {U = Unit {0}} (operands_fit (drop l.k l.from) (drop l.k l.to)) l.fn.asks l.asks (Ok tt) tt
