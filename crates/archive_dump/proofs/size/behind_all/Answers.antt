use Rattle.std.proofs.Common.{length, ◌++◌, ◌∙◌}
use Rattle.std.specs.List.{flat_map}
use Rattle.archive_header.specs.ManifestBytes.{folder_bytes, one_or_none}
use Rattle.archive_dump.proofs.Room.{none_of, some_of, folders_size}
use Rattle.archive_dump.proofs.size.behind_all.Goals as goal

pub returns-in_default : goal.returns-in_default
returns-in_default c = none_of c.args.room (length (flat_map folder_bytes (one_or_none c.args.folders.now.boot))) (length (flat_map folder_bytes (one_or_none c.args.folders.now.platform) ++ flat_map folder_bytes c.args.folders.now.app)) _ c.in_default.ensures (folders_size c.args.folders.now)

pub returns : goal.returns
returns c = c.behind_others.ensures ∙ some_of c.args.room (length (flat_map folder_bytes (one_or_none c.args.folders.now.boot))) (length (flat_map folder_bytes (one_or_none c.args.folders.now.platform) ++ flat_map folder_bytes c.args.folders.now.app)) _ c.in-Some.room c.in-Some.ensures (folders_size c.args.folders.now)
