use Rattle.std.proofs.Common.{ℕ, List, [], ◌∷◌, subst}
use Rattle.jsa_files.specs.Told.{contents_told}
use Rattle.class_folder.specs.ClassFiles.{File, files_of, file_at, WritesFiles}
use Rattle.class_folder.proofs.ClassFiles.{then_others, before_others}
use Rattle.boot_library.proofs.home.write_all.Goals as goal

pub returns-in-Ok-clause-writes : goal.returns-in-Ok-clause-writes
returns-in-Ok-clause-writes g c =
    let old = contents_told (g.F.Files.store c.args.files.now) in
    let mid = contents_told (g.F.Files.store c.write_classes.new.files) in
    let new = contents_told (g.F.Files.store c.write_file.new.files) in
    let last : List File = file_at c.args.path.now c.args.list.now ∷ [] in
    let failed = g.F.Files.write_faults c.write_file.new.files in
    then_others (files_of c.args.folder.now c.args.trees.now) old mid new (g.F.Files.write_faults c.args.files.now, failed) last c.write_file.result c.in-Ok.ensures.writes
    (subst (λ (f : ℕ). WritesFiles mid new (f, failed) last c.write_file.result) c.in-Ok.ensures.write_fault c.write_file.ensures.writes)

pub returns-in-Err-clause-writes : goal.returns-in-Err-clause-writes
returns-in-Err-clause-writes g c =
    let last : List File = file_at c.args.path.now c.args.list.now ∷ [] in
    before_others (Unit {0}) (contents_told (g.F.Files.store c.args.files.now)) (contents_told (g.F.Files.store c.write_classes.new.files)) (g.F.Files.write_faults c.args.files.now, g.F.Files.write_faults c.write_classes.new.files)
    (files_of c.args.folder.now c.args.trees.now) last c.in-Err.fault c.in-Err.ensures.writes
