use Rattle.std.proofs.Common.{length}
use Rattle.std.specs.List.{AllByRecursion}
use Rattle.plain_classes.specs.Records.{IsRecord}
use Rattle.plain_classes.proofs.names.are_named.Given as goal

abbrev pub invariant-loop-rest : goal.invariant-loop-rest
invariant-loop-rest l =
    (AllByRecursion IsRecord l.rest → AllByRecursion IsRecord l.fn.classes)
    × (AllByRecursion IsRecord l.fn.classes → AllByRecursion IsRecord l.rest)

abbrev pub decreases-loop-rest : goal.decreases-loop-rest
decreases-loop-rest l = length l.rest
