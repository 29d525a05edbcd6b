use Rattle.std.proofs.Common.{◌≡◌, ◌-◌}
use Rattle.verify_rules.specs.Arrays.{pop_lengths}
use Rattle.type_verifier.proofs.arrays.pop_lengths.Given as goal

abbrev pub invariant-loop : goal.invariant-loop
invariant-loop l = pop_lengths (l.count - l.counter) l.stack ≡ pop_lengths l.count l.fn.stack
