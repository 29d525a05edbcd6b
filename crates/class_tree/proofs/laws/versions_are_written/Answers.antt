use Rattle.class_tree.proofs.TreesSpelled.{versions_are_written}
use Rattle.class_tree.proofs.laws.versions_are_written.Goals as goal

pub returns : goal.returns
returns c = versions_are_written
