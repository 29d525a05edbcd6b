use Rattle.std.proofs.Common.{◌≡◌, ◌&&◌, length}
use Rattle.plain_classes.specs.Records.{names_of, borrowed, are_distinct}
use Rattle.plain_classes.proofs.Distinct.{are_new}
use Rattle.plain_classes.proofs.names.are_distinct.Given as goal

abbrev pub invariant-loop-rest : goal.invariant-loop-rest
invariant-loop-rest l = (are_new (borrowed l.seen.keys) (names_of l.rest) && are_distinct (names_of l.rest)) ≡ are_distinct (names_of l.fn.classes)

abbrev pub decreases-loop-rest : goal.decreases-loop-rest
decreases-loop-rest l = length l.rest
