use Rattle.class_record.proofs.Again.{loads_again}
use Rattle.class_record.proofs.laws.loads_again.Goals as goal

pub returns : goal.returns
returns c = loads_again
