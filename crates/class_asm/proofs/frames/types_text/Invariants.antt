use Rattle.std.proofs.Common.{◌≡◌, length}
use Rattle.class_asm.specs.Frames.{types_text}
use Rattle.class_asm.proofs.Fronts.{front}
use Rattle.class_asm.proofs.frames.types_text.Given as goal

abbrev pub invariant-loop-rest : goal.invariant-loop-rest
invariant-loop-rest l = front l.text (types_text l.labels l.rest l.pool) ≡ types_text l.labels l.fn.types l.fn.pool

abbrev pub decreases-loop-rest : goal.decreases-loop-rest
decreases-loop-rest l = length l.rest
