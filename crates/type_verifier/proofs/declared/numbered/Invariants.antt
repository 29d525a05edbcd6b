use Rattle.verify_rules.specs.Walking.{Numbers}
use Rattle.type_verifier.proofs.declared.numbered.Given as goal

abbrev pub invariant-loop-k : goal.invariant-loop-k
invariant-loop-k l = Numbers l.frames l.k l.numbers
