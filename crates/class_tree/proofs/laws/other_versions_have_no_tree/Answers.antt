use Rattle.class_tree.proofs.TreesSpelled.{other_versions_have_no_tree}
use Rattle.class_tree.proofs.laws.other_versions_have_no_tree.Goals as goal

pub returns : goal.returns
returns c = other_versions_have_no_tree
