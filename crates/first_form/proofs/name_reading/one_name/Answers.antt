use Rattle.first_form.proofs.InnerNames.{one_inside}
use Rattle.first_form.proofs.name_reading.one_name.Goals as goal

pub returns : goal.returns
returns c = one_inside
