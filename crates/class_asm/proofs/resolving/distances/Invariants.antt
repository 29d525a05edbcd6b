use Rattle.std.proofs.Common.{◌≡◌, length}
use Rattle.class_asm.specs.Code.{distances_to}
use Rattle.class_asm.proofs.Fronts.{front_text}
use Rattle.class_asm.proofs.resolving.distances.Given as goal

abbrev pub invariant-loop-rest : goal.invariant-loop-rest
invariant-loop-rest l = front_text l.text.items (distances_to l.labels l.from l.rest) ≡ distances_to l.labels l.from l.fn.names

abbrev pub decreases-loop-rest : goal.decreases-loop-rest
decreases-loop-rest l = length l.rest
