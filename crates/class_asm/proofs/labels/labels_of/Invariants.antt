use Rattle.std.proofs.Common.{◌≡◌, [], length}
use Rattle.class_asm.specs.Labels as spec
use Rattle.class_asm.proofs.labels.labels_of.Given as goal

abbrev pub invariant-loop-rest : goal.invariant-loop-rest
invariant-loop-rest l = spec.labels_of (l.labels, l.place) l.rest ≡ spec.labels_of ([], 0) l.fn.lines

abbrev pub decreases-loop-rest : goal.decreases-loop-rest
decreases-loop-rest l = length l.rest
