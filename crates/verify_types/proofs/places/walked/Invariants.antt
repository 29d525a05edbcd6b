use Rattle.std.proofs.Common.{◌≡◌, ◌-◌, length}
use Rattle.verify_rules.specs.Places.{instructions_from}
use Rattle.verify_types.proofs.Marked.{Walks}
use Rattle.verify_types.proofs.places.walked.Given as goal

abbrev pub invariant-loop : goal.invariant-loop
invariant-loop l =
    (length l.marks ≡ length l.code)
    × Walks (instructions_from (length l.code) l.code 0) (length l.code) l.marks l.starts (instructions_from (length l.code - l.counter) l.code l.place)
