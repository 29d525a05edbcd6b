use Rattle.jsa_ops.proofs.Ends.{goes_on}
use Rattle.jsa_ops.proofs.laws.cut_goes_on.Goals as goal

pub returns : goal.returns
returns c = goes_on
