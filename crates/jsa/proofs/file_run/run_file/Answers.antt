use Rattle.std.proofs.Common.{List, ℕ, Some, subst}
use Rattle.jsa.specs.Runs.{FileAnswers}
use Rattle.jsa_files.specs.Told.{contents_told}
use Rattle.jsa.proofs.Ends.{path_of_file, at_told, too_large}
use Rattle.jsa.proofs.file_run.run_file.Goals as goal

pub returns-in-Ok-Some-clause-answer : goal.returns-in-Ok-Some-clause-answer
returns-in-Ok-Some-clause-answer g c =
    let store = g.F.Files.store c.args.files.now in
    let told = rw c.in-Ok-Some.field-0-is at c.in-Ok-Some.ensures.answer in
    let answers = subst (λ (bytes : List ℕ). FileAnswers (Some bytes) c.args.steps (g.O.Sink.taken c.args.out.now) (g.O.Sink.taken c.run_bytes.new.out) c.run_bytes.result) c.as_slice.ensures.value c.run_bytes.ensures.answer in
    path_of_file (contents_told store) c.args.path.now c.args.steps (Some c.in-Ok-Some.bytes.items) _ _ c.run_bytes.result (at_told store c.args.path.now c.in-Ok-Some.bytes told) answers

pub returns-in-Err-TooLarge-clause-answer : goal.returns-in-Err-TooLarge-clause-answer
returns-in-Err-TooLarge-clause-answer g c =
    let told = rw c.in-Err-TooLarge.field-0-is at c.in-Err-TooLarge.ensures.answer in
    let large = rw c.in-Err-TooLarge.field-0-is at c.in-Err-TooLarge.ensures.size in
    too_large (g.F.Files.store c.args.files.now) c.args.path.now c.args.steps (g.O.Sink.taken c.args.out.now) c.in-Err-TooLarge.field-0-0 told large
