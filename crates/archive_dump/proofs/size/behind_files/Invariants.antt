use Rattle.std.proofs.Common.{◌≡◌, length}
use Rattle.std.specs.List.{flat_map}
use Rattle.archive_header.specs.ManifestBytes.{file_bytes}
use Rattle.archive_dump.specs.Room.{left_of}
use Rattle.archive_dump.proofs.size.behind_files.Given as goal

abbrev pub invariant-loop-rest : goal.invariant-loop-rest
invariant-loop-rest l = left_of l.room (length (flat_map file_bytes l.rest)) ≡ left_of l.fn.room (length (flat_map file_bytes l.fn.files))

abbrev pub decreases-loop-rest : goal.decreases-loop-rest
decreases-loop-rest l = length l.rest
