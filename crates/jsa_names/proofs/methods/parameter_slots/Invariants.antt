use Rattle.std.proofs.Common.{◌≡◌, ◌+◌, ◌≤◌, length}
use Rattle.jsa_names.specs.Types.{front_types, slots_of, types_at}
use Rattle.jsa_names.proofs.methods.parameter_slots.Given as goal

abbrev pub invariant-loop-first : goal.invariant-loop-first
invariant-loop-first l =
    (l.slots + slots_of (front_types l.rest) ≡ slots_of (front_types l.bytes))
    × ((types_at (length l.rest) l.rest).1 ≡ (types_at (length l.bytes) l.bytes).1)
    × (l.slots ≤ 255)

abbrev pub decreases-loop-first : goal.decreases-loop-first
decreases-loop-first l = length l.rest
