use Rattle.jsa_ops.proofs.KeysGoOn.{each_goes_on}
use Rattle.jsa_ops.proofs.switches.each_key_goes_on.Goals as goal

pub returns : goal.returns
returns c = each_goes_on
