use Rattle.std.proofs.Common.{◌≡◌, length}
use Rattle.archive_header.specs.Folders.{ascends}
use Rattle.archive_header.proofs.folders.ascends.Given as goal

abbrev pub invariant-loop-rest : goal.invariant-loop-rest
invariant-loop-rest l = ascends l.rest ≡ ascends l.fn.files

abbrev pub decreases-loop-rest : goal.decreases-loop-rest
decreases-loop-rest l = length l.rest
