use Rattle.std.proofs.Common.{length, ◌+◌, refl, ◌∙◌}
use Rattle.jsa_base.specs.LowFirst.{low_text}
use Rattle.archive_dump.proofs.Room.{none_of, some_of, file_size}
use Rattle.archive_dump.proofs.size.behind_file.Goals as goal

pub returns-in_default : goal.returns-in_default
returns-in_default c = none_of c.args.room (length (low_text c.as_slice.result.now)) (8 + length c.args.file.now.sha256) _ c.in_default.ensures (file_size c.args.file.now c.as_slice.result.now (length c.args.file.now.sha256) c.as_slice.ensures refl)

pub returns : goal.returns
returns c = c.behind.ensures ∙ some_of c.args.room (length (low_text c.as_slice.result.now)) (8 + c.digest_size.result) _ c.in-Some.room c.in-Some.ensures (file_size c.args.file.now c.as_slice.result.now c.digest_size.result c.as_slice.ensures c.digest_size.ensures.size)
