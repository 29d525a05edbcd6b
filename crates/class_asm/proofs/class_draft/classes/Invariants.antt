use Rattle.std.proofs.Common.{◌≡◌, length}
use Rattle.class_asm.specs.Drafts.{classes_needed}
use Rattle.class_asm.proofs.Fronts.{front}
use Rattle.class_asm.proofs.class_draft.classes.Given as goal

abbrev pub invariant-loop-rest : goal.invariant-loop-rest
invariant-loop-rest l = front l.indices (classes_needed l.rest l.pool) ≡ classes_needed l.fn.names l.fn.pool

abbrev pub decreases-loop-rest : goal.decreases-loop-rest
decreases-loop-rest l = length l.rest
