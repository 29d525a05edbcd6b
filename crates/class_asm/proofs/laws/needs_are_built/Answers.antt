use Rattle.class_asm.proofs.Keeping.{needs_are_built}
use Rattle.class_asm.proofs.laws.needs_are_built.Goals as goal

pub returns : goal.returns
returns c = needs_are_built
