use Rattle.std.proofs.Common.{length, ◌∙◌, arith}
use Rattle.std.specs.List.{flat_map}
use Rattle.jsa_base.specs.LowFirst.{low_counted}
use Rattle.archive_header.specs.ManifestBytes.{file_bytes}
use Rattle.archive_dump.proofs.Room.{none_of, some_of}
use Rattle.archive_dump.proofs.size.behind_counted.Goals as goal

pub returns-in_default : goal.returns-in_default
returns-in_default c = none_of c.args.room (4) (length (flat_map file_bytes c.args.files.now)) (length (low_counted file_bytes c.args.files.now)) c.in_default.ensures (omega arith)

pub returns : goal.returns
returns c = c.behind_files.ensures ∙ some_of c.args.room (4) (length (flat_map file_bytes c.args.files.now)) (length (low_counted file_bytes c.args.files.now)) c.in-Some.room c.in-Some.ensures (omega arith)
