use Rattle.class_asm.proofs.Sizes.{sizes_stand}
use Rattle.class_asm.proofs.laws.sizes_stand.Goals as goal

pub returns : goal.returns
returns c = sizes_stand
