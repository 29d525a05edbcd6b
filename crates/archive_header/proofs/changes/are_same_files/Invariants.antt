use Rattle.std.proofs.Common.{◌≡◌, length}
use Rattle.std.specs.Cmp.Lexicographic.{pointwise}
use Rattle.archive_header.specs.Changes.{is_same_file}
use Rattle.archive_header.proofs.changes.are_same_files.Given as goal

abbrev pub invariant-loop-kept : goal.invariant-loop-kept
invariant-loop-kept l = pointwise is_same_file l.kept l.now ≡ pointwise is_same_file l.fn.kept l.fn.now

abbrev pub decreases-loop-kept : goal.decreases-loop-kept
decreases-loop-kept l = length l.kept
