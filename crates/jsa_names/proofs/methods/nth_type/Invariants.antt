use Rattle.std.proofs.Common.{◌≡◌, ◌-◌, slice_get}
use Rattle.jsa_names.specs.Types.{front_types}
use Rattle.jsa_names.proofs.methods.nth_type.Given as goal

abbrev pub invariant-loop : goal.invariant-loop
invariant-loop l = slice_get (front_types l.rest) (l.k - l.counter) ≡ slice_get (front_types l.bytes) l.k
