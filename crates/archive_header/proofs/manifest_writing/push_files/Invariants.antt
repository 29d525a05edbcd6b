use Rattle.std.proofs.Common.{◌≡◌, ◌++◌, length}
use Rattle.std.specs.List.{flat_map, AllByRecursion}
use Rattle.archive_header.specs.ManifestBytes.{file_bytes, HasShortName, FitsFile}
use Rattle.archive_header.proofs.manifest_writing.push_files.Given as goal

abbrev pub invariant-loop-rest : goal.invariant-loop-rest
invariant-loop-rest l =
    (l.bytes.items ++ flat_map file_bytes l.rest ≡ l.fn.bytes.items ++ flat_map file_bytes l.fn.files)
    × (AllByRecursion HasShortName l.rest × (AllByRecursion FitsFile l.rest → AllByRecursion FitsFile l.fn.files))

abbrev pub decreases-loop-rest : goal.decreases-loop-rest
decreases-loop-rest l = length l.rest
