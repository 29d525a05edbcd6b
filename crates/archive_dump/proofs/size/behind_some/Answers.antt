use Rattle.archive_header.specs.ManifestBytes.{folder_bytes}
use Rattle.archive_dump.proofs.Room.{ends, stops, goes_on}
use Rattle.archive_dump.proofs.size.behind_some.Goals as goal

pub returns-in_default : goal.returns-in_default
returns-in_default c = ends folder_bytes c.loop-rest.room c.loop-rest.rest.now _ c.in_default.len_below c.loop-rest.invariant

pub returns-in_default-behind_folder : goal.returns-in_default-behind_folder
returns-in_default-behind_folder c = stops folder_bytes c.loop-rest.room c.loop-rest.rest.now c.folder-item.result _ c.in-len1-up.len_at_least c.folder-item.is c.in_default-behind_folder.ensures c.loop-rest.invariant

pub loop-rest-preserved : goal.loop-rest-preserved
loop-rest-preserved c = goes_on folder_bytes c.loop-rest.room c.in-Some.left c.loop-rest.rest.now c.folder-item.result _ c.in-len1-up.len_at_least c.folder-item.is c.in-Some.ensures c.loop-rest.invariant
