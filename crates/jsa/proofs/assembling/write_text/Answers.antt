use Rattle.std.proofs.Common.{◌≡◌, ◌∙◌, ℕ, List, refl, sym, subst, ap}
use Rattle.class_tree.specs.declared.tree.ClassTree.{ClassTree}
use Rattle.class_asm.specs.Assembly.{assembled}
use Rattle.jsa.specs.declared.ended.Ended.{Ended}
use Rattle.jsa_files.specs.Told.{contents_told}
use Rattle.command_words.specs.Requests.{asm_view}
use Rattle.jsa.specs.Assembles.{AsmAnswers}
use Rattle.class_folder.specs.ClassFiles.{files_of, WritesFiles}
use Rattle.jsa.proofs.Assembles.{asm_written}
use Rattle.jsa.proofs.assembling.write_text.Goals as goal

pub returns-in-Ok-clause-answer : goal.returns-in-Ok-clause-answer
returns-in-Ok-clause-answer g c = λ t is.
    let a = asm_view c.args.request.now in
    let old = contents_told (g.F.Files.store c.args.files.now) in
    let new = contents_told (g.F.Files.store c.write_classes-written.new.files) in
    let faults : ℕ × ℕ = (g.F.Files.write_faults c.args.files.now, g.F.Files.write_faults c.write_classes-written.new.files) in
    let written = c.write_classes-written.result in
    let of_trees = subst (λ (l : List ClassTree). WritesFiles old new faults (files_of c.as_str.result.now l) written) c.as_slice.ensures.value c.write_classes-written.ensures.writes in
    let of_folder = subst (λ (f : List ℕ). WritesFiles old new faults (files_of f c.in-Ok.trees.items) written) c.as_str.ensures.value of_trees in
    subst (λ (e : Ended). AsmAnswers old new faults a e) (sym c.end_of_writes.ensures.end) (asm_written old new faults a t c.in-Ok.trees.items written (ap assembled is ∙ c.in-Ok.ensures) of_folder)

pub returns-in-Err-Line-clause-answer : goal.returns-in-Err-Line-clause-answer
returns-in-Err-Line-clause-answer g c = λ t is.
    let same : assembled t.text ≡ assembled c.args.text.now = ap assembled is in
    let bad = rw c.in-Err-Line.field-0-is at c.in-Err-Line.ensures in
    let number = c.in-Err-Line.number-is in
    (record { has = t; is = cc }, refl)
