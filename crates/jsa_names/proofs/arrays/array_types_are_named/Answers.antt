use Rattle.jsa_names.proofs.ArrayNames.{dimensions_are, element_named}
use Rattle.jsa_names.proofs.arrays.array_types_are_named.Goals as goal

pub returns-clause-dimensions : goal.returns-clause-dimensions
returns-clause-dimensions c = dimensions_are c.args.name.now

pub returns-clause-element : goal.returns-clause-element
returns-clause-element c = element_named c.args.name.now
