use Rattle.std.proofs.Common.{◌≡◌, ◌-◌, length, take}
use Rattle.verify_types.proofs.frames.pop_all.Given as goal

abbrev pub invariant-loop : goal.invariant-loop
invariant-loop l = l.types ≡ take (length l.fn.types - l.counter) l.fn.types
