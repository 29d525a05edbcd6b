use Rattle.std.proofs.Common.{length, refl, ◌∙◌}
use Rattle.std.specs.List.{flat_map}
use Rattle.archive_header.specs.ManifestBytes.{folder_bytes, one_or_none}
use Rattle.archive_dump.proofs.Room.{none_of, some_of, others_size}
use Rattle.archive_dump.proofs.size.behind_others.Goals as goal

pub returns-in_default : goal.returns-in_default
returns-in_default c = none_of c.args.room (length (flat_map folder_bytes (one_or_none c.args.folders.now.platform))) (length (flat_map folder_bytes c.args.folders.now.app)) _ c.in_default.ensures (others_size c.args.folders.now c.args.folders.now.app refl)

pub returns : goal.returns
returns c = c.behind_some.ensures ∙ some_of c.args.room (length (flat_map folder_bytes (one_or_none c.args.folders.now.platform))) (length (flat_map folder_bytes c.as_slice.result.now)) _ c.in-Some.room c.in-Some.ensures (others_size c.args.folders.now c.as_slice.result.now c.as_slice.ensures)
