use Rattle.first_form.proofs.Programs.{one_is}
use Rattle.first_form.proofs.program_reading.one_program.Goals as goal

pub returns : goal.returns
returns c = one_is
