use Rattle.first_form.proofs.ClassRuns.{never_stuck_of}
use Rattle.first_form.proofs.laws.no_class_is_stuck.Goals as goal

pub returns : goal.returns
returns c = never_stuck_of
