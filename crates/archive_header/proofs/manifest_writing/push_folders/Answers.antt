use Rattle.std.proofs.Common.{◌∙◌, ap, List, ◌++◌}
use Rattle.std.specs.List.{flat_map}
use Rattle.archive_header.specs.declared.folders.Folder.{Folder}
use Rattle.archive_header.specs.ManifestBytes.{folder_bytes, one_or_none, all_folders, counts}
use Rattle.archive_header.proofs.ManifestCodecs.{folders_in_turn}
use Rattle.archive_header.proofs.Places.{all_listed, all_few}
use Rattle.archive_header.proofs.Pushes.{on_ok_then, four}
use Rattle.archive_header.proofs.manifest_writing.push_folders.Goals as goal

pub push_some-requires-clause-few : goal.push_some-requires-clause-few
push_some-requires-clause-few c = rw c.as_slice.ensures (all_few c.args.folders.now.app (all_listed c.args.folders.now c.requires.listed).app)

pub returns-clause-written : goal.returns-clause-written
returns-clause-written c =
    let m = c.args.folders.now in
    let b0 = c.args.bytes.now.items in
    let last = ap (λ (fs : List Folder). c.push_one_or_none-2.new.bytes.items ++ flat_map folder_bytes fs) c.as_slice.ensures in
    on_ok_then c.push_some.result c.push_some.new.bytes.items c.push_one_or_none-2.new.bytes.items (flat_map folder_bytes c.as_slice.result.now) (b0 ++ (counts m ++ flat_map folder_bytes (all_folders m))) c.push_some.ensures.written
    (last ∙ four b0 c.push_counts.new.bytes.items c.push_one_or_none.new.bytes.items c.push_one_or_none-2.new.bytes.items (counts m) (flat_map folder_bytes (one_or_none m.boot)) (flat_map folder_bytes (one_or_none m.platform)) (flat_map folder_bytes m.app) (flat_map folder_bytes (all_folders m)) c.in_ok-push_counts.ensures c.in_ok-push_one_or_none.ensures.written c.in_ok-push_one_or_none-2.ensures.written (folders_in_turn m))
