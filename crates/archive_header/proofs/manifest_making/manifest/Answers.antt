use Rattle.std.proofs.Common.{ap, refl, Err, Ok}
use Rattle.loader_rules.specs.Lists.{FolderLists}
use Rattle.archive_header.proofs.Stages.{one_moved, boot_stops, platform_stops}
use Rattle.archive_header.proofs.manifest_making.manifest.Goals as goal

pub returns-in-Err-clause-answer : goal.returns-in-Err-clause-answer
returns-in-Err-clause-answer g c =
    let o = g.F.Files.store c.args.files.now in
    boot_stops o c.args.paths.now c.one_folder.new.count c.in-Err.fault
    (one_moved o o 0 c.one_folder.new.count c.paths.inside.boot c.args.paths.now.boot (Err c.in-Err.fault) refl (ap (λ (l : FolderLists). l.boot) c.paths.view_is) c.in-Err.ensures.answer)

pub returns-in-Err-one_folder-clause-answer : goal.returns-in-Err-one_folder-clause-answer
returns-in-Err-one_folder-clause-answer g c =
    let o = g.F.Files.store c.args.files.now in
    rw c.leave.ensures (platform_stops o c.args.paths.now c.one_folder.new.count c.one_folder-2.new.count c.in-Ok.folder c.in-Err-one_folder.fault
    (one_moved o o 0 c.one_folder.new.count c.paths.inside.boot c.args.paths.now.boot (Ok c.in-Ok.folder) refl (ap (λ (l : FolderLists). l.boot) c.paths.view_is) c.in-Ok.ensures.answer)
    (one_moved o (g.F.Files.store c.one_folder.new.files) c.one_folder.new.count c.one_folder-2.new.count c.paths.inside.platform c.args.paths.now.platform (Err c.in-Err-one_folder.fault) c.in-Ok.ensures.store (ap (λ (l : FolderLists). l.platform) c.paths.view_is) c.in-Err-one_folder.ensures.answer))
