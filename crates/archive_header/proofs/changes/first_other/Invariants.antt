use Rattle.std.proofs.Common.{◌≡◌, ◌+◌, length}
use Rattle.std.specs.Option.{option_map}
use Rattle.archive_header.specs.Changes.{first_other}
use Rattle.archive_header.proofs.changes.first_other.Given as goal

abbrev pub invariant-loop-kept : goal.invariant-loop-kept
invariant-loop-kept l = (option_map (λ n. l.place + n) (first_other l.kept l.now) ≡ first_other l.fn.kept l.fn.now) × (l.place + length l.kept ≡ length l.fn.kept)

abbrev pub decreases-loop-kept : goal.decreases-loop-kept
decreases-loop-kept l = length l.kept
