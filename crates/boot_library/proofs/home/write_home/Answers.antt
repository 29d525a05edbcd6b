use Rattle.std.proofs.Common.{ℕ, List, ◌≡◌, ◌∙◌, ap, subst, sym}
use Rattle.std.specs.Prelude.{Err}
use Rattle.class_tree.specs.declared.tree.ClassTree.{ClassTree}
use Rattle.class_asm.specs.Assembly.{assembled}
use Rattle.class_folder.specs.ClassFiles.{after_files, WritesFiles}
use Rattle.jsa_files.specs.Told.{contents_told}
use Rattle.boot_library.specs.Home.{home_files}
use Rattle.boot_library.proofs.Making.{home_written, home_unwritten}
use Rattle.boot_library.proofs.home.write_home.Goals as goal

pub returns-in-Ok-write_trees-clause-answer : goal.returns-in-Ok-write_trees-clause-answer
returns-in-Ok-write_trees-clause-answer g c =
    let old = contents_told (g.F.Files.store c.args.files.now) in
    let new = contents_told (g.F.Files.store c.write_trees.new.files) in
    let faults : ℕ × ℕ = (g.F.Files.write_faults c.args.files.now, g.F.Files.write_faults c.write_trees.new.files) in
    let of_trees = subst (λ (l : List ClassTree). new ≡ after_files old (home_files c.args.dir.now l)) c.as_slice.ensures.value c.in-Ok-write_trees.ensures.writes in
    home_written old new faults c.args.dir.now c.args.text.now c.in-Ok.trees.items (ap assembled (sym c.as_bytes.ensures.value) ∙ c.in-Ok.ensures) of_trees

pub returns-in-Ok-clause-answer : goal.returns-in-Ok-clause-answer
returns-in-Ok-clause-answer g c =
    let old = contents_told (g.F.Files.store c.args.files.now) in
    let new = contents_told (g.F.Files.store c.write_trees.new.files) in
    let faults : ℕ × ℕ = (g.F.Files.write_faults c.args.files.now, g.F.Files.write_faults c.write_trees.new.files) in
    let of_trees = subst (λ (l : List ClassTree). WritesFiles {T = Unit {0}} old new faults (home_files c.args.dir.now l) (Err c.in-Err.fault)) c.as_slice.ensures.value c.in-Err.ensures.writes in
    home_unwritten old new faults c.args.dir.now c.args.text.now c.in-Ok.trees.items c.in-Err.fault (ap assembled (sym c.as_bytes.ensures.value) ∙ c.in-Ok.ensures) of_trees
