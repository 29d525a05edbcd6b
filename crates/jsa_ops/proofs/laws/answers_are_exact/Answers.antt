use Rattle.jsa_ops.proofs.Placed.{exactly}
use Rattle.jsa_ops.proofs.laws.answers_are_exact.Goals as goal

pub returns : goal.returns
returns c = exactly
