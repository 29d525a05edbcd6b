use Rattle.std.proofs.Common.{length, ◌∙◌, arith}
use Rattle.std.specs.List.{flat_map}
use Rattle.archive_header.specs.ManifestBytes.{folder_bytes, all_folders, unpadded}
use Rattle.archive_dump.proofs.Room.{none_of, some_of}
use Rattle.archive_dump.proofs.size.behind_unpadded.Goals as goal

pub returns-in_default : goal.returns-in_default
returns-in_default c = none_of c.args.room (12) (length (flat_map folder_bytes (all_folders c.args.folders.now))) (length (unpadded c.args.folders.now)) c.in_default.ensures (omega arith)

pub returns : goal.returns
returns c = c.behind_all.ensures ∙ some_of c.args.room (12) (length (flat_map folder_bytes (all_folders c.args.folders.now))) (length (unpadded c.args.folders.now)) c.in-Some.room c.in-Some.ensures (omega arith)
