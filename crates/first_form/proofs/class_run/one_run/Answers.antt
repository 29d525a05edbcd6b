use Rattle.first_form.proofs.ClassRuns.{one_is}
use Rattle.first_form.proofs.class_run.one_run.Goals as goal

pub returns : goal.returns
returns c = one_is
