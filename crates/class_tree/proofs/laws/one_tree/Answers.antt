use Rattle.class_tree.proofs.TreesSpelled.{one_is}
use Rattle.class_tree.proofs.laws.one_tree.Goals as goal

pub returns : goal.returns
returns c = one_is
