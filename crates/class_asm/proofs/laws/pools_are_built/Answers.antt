use Rattle.class_asm.proofs.BuiltTrees.{all_built}
use Rattle.class_asm.proofs.laws.pools_are_built.Goals as goal

pub returns : goal.returns
returns c = all_built
