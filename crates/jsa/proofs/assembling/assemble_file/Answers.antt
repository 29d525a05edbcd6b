use Rattle.std.proofs.Common.{List, ℕ, Some, ◌∙◌, ap, sym, subst}
use Rattle.std.specs.Prelude.{Err}
use Rattle.jsa_files.specs.declared.fault.FilesFault.TheVariants.{TooLarge}
use Rattle.jsa_files.specs.Store.{AnswersAsTold}
use Rattle.jsa_files.specs.Told.{contents_told, IsAt}
use Rattle.command_words.specs.Requests.{asm_view}
use Rattle.jsa.proofs.Ends.{at_told}
use Rattle.jsa.proofs.Growth.{read_keeps}
use Rattle.jsa.proofs.Assembles.{text_then, text_too_large}
use Rattle.jsa.proofs.assembling.assemble_file.Goals as goal

pub returns-in-Ok-Some-clause-answer : goal.returns-in-Ok-Some-clause-answer
returns-in-Ok-Some-clause-answer g c =
    let a = asm_view c.args.request.now in
    let store = g.F.Files.store c.args.files.now in
    let mid = g.F.Files.store c.read.new.self in
    let told = rw c.in-Ok-Some.field-0-is at c.in-Ok-Some.ensures.answer in
    let small = rw c.in-Ok-Some.field-0-is at c.in-Ok-Some.ensures.size in
    let at = subst (λ (p : List ℕ). IsAt (contents_told store) p (Some c.in-Ok-Some.text.items)) c.as_str.ensures.value (at_told store c.as_str.result.now c.in-Ok-Some.text told) in
    text_then (contents_told store) (contents_told mid) (contents_told (g.F.Files.store c.write_text.new.files)) (g.F.Files.write_faults c.args.files.now) (g.F.Files.write_faults c.read.new.self) (g.F.Files.write_faults c.write_text.new.files) a
    (record { text = c.in-Ok-Some.text.items; at = at; small = small }) c.as_slice.result.now c.write_text.result
    (ap contents_told c.in-Ok-Some.ensures.store ∙ read_keeps store c.as_str.result.now _) c.in-Ok-Some.ensures.writes (sym c.as_slice.ensures.value) c.write_text.ensures.answer

pub returns-in-Err-TooLarge-clause-answer : goal.returns-in-Err-TooLarge-clause-answer
returns-in-Err-TooLarge-clause-answer g c =
    let a = asm_view c.args.request.now in
    let store = g.F.Files.store c.args.files.now in
    let size = c.in-Err-TooLarge.field-0-0 in
    let told = rw c.in-Err-TooLarge.field-0-is at c.in-Err-TooLarge.ensures.answer in
    let large = rw c.in-Err-TooLarge.field-0-is at c.in-Err-TooLarge.ensures.size in
    let at = subst (λ (p : List ℕ). AnswersAsTold store p (Err (TooLarge size))) c.as_str.ensures.value told in
    text_too_large store (g.F.Files.store c.read.new.self) (g.F.Files.write_faults c.args.files.now, g.F.Files.write_faults c.read.new.self) a size at large (ap contents_told c.in-Err-TooLarge.ensures.store ∙ read_keeps store c.as_str.result.now _)
