use Rattle.std.proofs.Common.{◌≡◌, ◌+◌, length, ℕ, sym, ap, subst}
use Rattle.archive_header.specs.declared.folders.Folder.{Folder}
use Rattle.archive_header.specs.Making.{IsMade}
use Rattle.archive_header.proofs.Listed.{folder_made}
use Rattle.archive_header.proofs.manifest_making.counted_folder.Goals as goal

pub returns-in-Ok-with_files-clause-made : goal.returns-in-Ok-with_files-clause-made
returns-in-Ok-with_files-clause-made g c =
    let counted : c.args.count.now + c.len.result ≡ c.args.count.now + length c.args.names.now = ap (λ (n : ℕ). c.args.count.now + n) c.len.ensures in
    subst (λ (f : Folder). IsMade c.args.path.now c.args.count.now (c.args.count.now + c.len.result) f) (sym c.in-Ok-with_files.ensures.value)
    (folder_made c.args.path.now c.in-Ok.listed c.args.names.now c.args.count.now (c.args.count.now + c.len.result) c.in-Ok-with_files.ensures.text c.in-Ok.ensures.names c.requires.order c.requires.number counted)
