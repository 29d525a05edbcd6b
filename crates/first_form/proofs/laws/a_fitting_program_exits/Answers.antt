use Rattle.first_form.proofs.Exits.{exits}
use Rattle.first_form.proofs.laws.a_fitting_program_exits.Goals as goal

pub returns : goal.returns
returns c = exits
