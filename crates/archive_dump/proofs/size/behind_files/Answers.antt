use Rattle.archive_header.specs.ManifestBytes.{file_bytes}
use Rattle.archive_dump.proofs.Room.{ends, stops, goes_on}
use Rattle.archive_dump.proofs.size.behind_files.Goals as goal

pub returns-in_default : goal.returns-in_default
returns-in_default c = ends file_bytes c.loop-rest.room c.loop-rest.rest.now _ c.in_default.len_below c.loop-rest.invariant

pub returns-in_default-behind_file : goal.returns-in_default-behind_file
returns-in_default-behind_file c = stops file_bytes c.loop-rest.room c.loop-rest.rest.now c.file-item.result _ c.in-len1-up.len_at_least c.file-item.is c.in_default-behind_file.ensures c.loop-rest.invariant

pub loop-rest-preserved : goal.loop-rest-preserved
loop-rest-preserved c = goes_on file_bytes c.loop-rest.room c.in-Some.left c.loop-rest.rest.now c.file-item.result _ c.in-len1-up.len_at_least c.file-item.is c.in-Some.ensures c.loop-rest.invariant
