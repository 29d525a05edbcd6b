use Rattle.std.proofs.Common.{length}
use Rattle.verify_rules.specs.Calls.{all_assign, operands}
use Rattle.type_verifier.proofs.Asked.{Leads}
use Rattle.type_verifier.proofs.Deepest.{still}
use Rattle.type_verifier.proofs.operands.operands_assign.Given as goal

abbrev pub invariant-loop-k : goal.invariant-loop-k
invariant-loop-k l = Leads (all_assign (operands (length l.wanted) l.stack) l.wanted) (still l.wanted l.stack l.k) l.fn.asks l.asks
