use Rattle.std.proofs.Common.{sym, subst}
use Rattle.jsa.specs.declared.ended.Ended.{Ended}
use Rattle.jsa_files.specs.Told.{contents_told}
use Rattle.jsa.specs.Steps.{HasNot}
use Rattle.jsa.proofs.Ends.{at_told}
use Rattle.jsa.proofs.Gathers.{in_file, file_fails}
use Rattle.jsa.proofs.gathering.class_at.Goals as goal

pub returns-in-Ok-Some-clause-has : goal.returns-in-Ok-Some-clause-has
returns-in-Ok-Some-clause-has g c =
    let store = g.F.Files.store c.args.files.now in
    let told = rw c.in-Ok-Some.field-0-is at c.in-Ok-Some.ensures.answer in
    let small = rw c.in-Ok-Some.field-0-is at c.in-Ok-Some.ensures.size in
    in_file (contents_told store) c.args.name.now c.args.path.now c.in-Ok-Some.bytes.items c.class_in_file.result (at_told store c.args.path.now c.in-Ok-Some.bytes told) small c.class_in_file.ensures

pub returns-in-Err-clause-has : goal.returns-in-Err-clause-has
returns-in-Err-clause-has g c = λ folder e.
    let store = g.F.Files.store c.args.files.now in
    subst (λ (x : Ended). HasNot (contents_told store) folder c.args.name.now x) (sym c.end_of.ensures) (file_fails store c.args.name.now c.args.path.now c.in-Err.fault c.in-Err.ensures.answer c.in-Err.ensures.size folder e)
