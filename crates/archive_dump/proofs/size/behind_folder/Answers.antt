use Rattle.std.proofs.Common.{length, refl, ◌∙◌}
use Rattle.jsa_base.specs.LowFirst.{low_text, low_counted}
use Rattle.archive_header.specs.ManifestBytes.{file_bytes}
use Rattle.archive_dump.proofs.Room.{none_of, some_of, folder_size}
use Rattle.archive_dump.proofs.size.behind_folder.Goals as goal

pub returns-in_default : goal.returns-in_default
returns-in_default c = none_of c.args.room (length (low_text c.as_slice.result.now)) (length (low_counted file_bytes c.args.folder.now.files)) _ c.in_default.ensures (folder_size c.args.folder.now c.as_slice.result.now c.args.folder.now.files c.as_slice.ensures refl)

pub returns : goal.returns
returns c = c.behind_counted.ensures ∙ some_of c.args.room (length (low_text c.as_slice.result.now)) (length (low_counted file_bytes c.as_slice-2.result.now)) _ c.in-Some.room c.in-Some.ensures (folder_size c.args.folder.now c.as_slice.result.now c.as_slice-2.result.now c.as_slice.ensures c.as_slice-2.ensures)
