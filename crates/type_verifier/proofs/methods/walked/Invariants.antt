use Rattle.std.proofs.Common.{drop}
use Rattle.verify_rules.specs.Places.{instructions}
use Rattle.verify_rules.specs.Methods.{walked}
use Rattle.type_verifier.proofs.Walks.{Finding}
use Rattle.type_verifier.proofs.methods.walked.Given as goal

abbrev pub invariant-loop-k : goal.invariant-loop-k
invariant-loop-k l = Finding (walked l.e l.declared l.fn.first (instructions l.places).placed (instructions l.places).bad) (walked l.e l.declared l.frame (drop l.k (instructions l.places).placed) (instructions l.places).bad) l.fn.asks l.asks
