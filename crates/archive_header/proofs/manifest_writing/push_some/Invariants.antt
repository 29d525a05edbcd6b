use Rattle.std.proofs.Common.{◌≡◌, ◌++◌, length}
use Rattle.std.specs.List.{flat_map, AllByRecursion}
use Rattle.archive_header.specs.ManifestBytes.{folder_bytes, HasShortTexts, HasFewFiles, FitsFolder}
use Rattle.archive_header.proofs.manifest_writing.push_some.Given as goal

abbrev pub invariant-loop-rest : goal.invariant-loop-rest
invariant-loop-rest l =
    (l.bytes.items ++ flat_map folder_bytes l.rest ≡ l.fn.bytes.items ++ flat_map folder_bytes l.fn.folders)
    × (AllByRecursion HasShortTexts l.rest × (AllByRecursion HasFewFiles l.rest × (AllByRecursion FitsFolder l.rest → AllByRecursion FitsFolder l.fn.folders)))

abbrev pub decreases-loop-rest : goal.decreases-loop-rest
decreases-loop-rest l = length l.rest
