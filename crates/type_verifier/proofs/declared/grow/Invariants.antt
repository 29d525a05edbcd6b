use Rattle.std.proofs.Common.{◌≡◌, length}
use Rattle.verify_rules.specs.Walking.{SameNumbers}
use Rattle.type_verifier.proofs.declared.grow.Given as goal

abbrev pub invariant-loop : goal.invariant-loop
invariant-loop l = SameNumbers l.fn.numbers l.numbers × (length l.numbers ≡ l.counter)
