use Rattle.std.proofs.Common.{◌≡◌, drop}
use Rattle.type_verifier.proofs.operands.drop_items.Given as goal

abbrev pub invariant-loop : goal.invariant-loop
invariant-loop l = l.stack ≡ drop l.counter l.fn.stack
