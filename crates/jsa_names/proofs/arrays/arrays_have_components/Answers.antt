use Rattle.jsa_names.proofs.ArrayNames.{has_component}
use Rattle.jsa_names.proofs.arrays.arrays_have_components.Goals as goal

pub returns : goal.returns
returns c = has_component c.args.name.now
