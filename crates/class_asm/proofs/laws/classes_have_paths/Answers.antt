use Rattle.class_asm.proofs.Named.{all_named}
use Rattle.class_asm.proofs.laws.classes_have_paths.Goals as goal

pub returns : goal.returns
returns c = all_named
