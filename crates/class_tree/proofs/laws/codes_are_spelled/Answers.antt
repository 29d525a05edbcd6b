use Rattle.class_tree.proofs.TreesSpelled.{codes_are_spelled}
use Rattle.class_tree.proofs.laws.codes_are_spelled.Goals as goal

pub returns : goal.returns
returns c = codes_are_spelled
