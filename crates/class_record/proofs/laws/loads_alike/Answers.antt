use Rattle.class_record.proofs.Alike.{loads_alike}
use Rattle.class_record.proofs.laws.loads_alike.Goals as goal

pub returns : goal.returns
returns c = loads_alike
