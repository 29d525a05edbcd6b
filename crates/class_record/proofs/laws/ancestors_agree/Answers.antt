use Rattle.class_record.proofs.Above.{ancestors_agree}
use Rattle.class_record.proofs.laws.ancestors_agree.Goals as goal

pub returns : goal.returns
returns c = ancestors_agree
