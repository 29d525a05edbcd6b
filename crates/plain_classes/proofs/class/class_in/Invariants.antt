use Rattle.std.proofs.Common.{◌≡◌, length}
use Rattle.plain_classes.specs.Records.{class_in}
use Rattle.plain_classes.proofs.class.class_in.Given as goal

abbrev pub invariant-loop-rest : goal.invariant-loop-rest
invariant-loop-rest l = class_in l.rest l.name ≡ class_in l.fn.classes l.name

abbrev pub decreases-loop-rest : goal.decreases-loop-rest
decreases-loop-rest l = length l.rest
