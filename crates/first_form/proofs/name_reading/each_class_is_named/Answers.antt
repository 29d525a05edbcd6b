use Rattle.first_form.proofs.InnerNames.{each_is_named}
use Rattle.first_form.proofs.name_reading.each_class_is_named.Goals as goal

pub returns : goal.returns
returns c = each_is_named
