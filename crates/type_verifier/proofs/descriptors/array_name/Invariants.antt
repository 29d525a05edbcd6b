use Rattle.std.proofs.Common.{◌≡◌, replicate}
use Rattle.type_verifier.proofs.descriptors.array_name.Given as goal

abbrev pub invariant-loop : goal.invariant-loop
invariant-loop l = l.name.items ≡ replicate l.counter 91
