use Rattle.class_record.proofs.ReadingsSpelled.{readings_are_spelled}
use Rattle.class_record.proofs.laws.readings_are_spelled.Goals as goal

pub returns : goal.returns
returns c = readings_are_spelled
