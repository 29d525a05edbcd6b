use Rattle.std.proofs.Common.{refl}
use Rattle.first_form.specs.FirstForm.{IsOther}
use Rattle.first_form.proofs.ClassRuns.{file_has_none}
use Rattle.first_form.proofs.class_run.run_bytes.Goals as goal

pub returns-in-Err-NotFirstForm-clause-answer : goal.returns-in-Err-NotFirstForm-clause-answer
returns-in-Err-NotFirstForm-clause-answer g c =
    let other : IsOther c.args.bytes.now = rw c.in-Err-NotFirstForm.field-0-is at c.in-Err-NotFirstForm.ensures.exact in
    (file_has_none c.args.bytes.now other, refl)
