use Rattle.archive_header.proofs.Places.{names_ascend}
use Rattle.archive_header.proofs.manifest_type.Manifest.entry_of.Goals as goal

pub place_of-requires : goal.place_of-requires
place_of-requires c = rw c.as_slice.ensures (names_ascend c.in-Some.folder.now c.in-Some.ensures.listed)
