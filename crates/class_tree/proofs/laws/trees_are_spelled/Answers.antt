use Rattle.class_tree.proofs.TreesSpelled.{trees_are_spelled}
use Rattle.class_tree.proofs.laws.trees_are_spelled.Goals as goal

pub returns : goal.returns
returns c = trees_are_spelled
