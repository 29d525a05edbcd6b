use Rattle.std.proofs.Common.{length}
use Rattle.std.specs.List.{AllByRecursion}
use Rattle.loaded_classes.specs.Slots.{IsShortCode}
use Rattle.loaded_cases.proofs.test_classes.are_short.Given as goal

abbrev pub invariant-loop-rest : goal.invariant-loop-rest
invariant-loop-rest l = AllByRecursion IsShortCode l.rest → AllByRecursion IsShortCode l.methods

abbrev pub decreases-loop-rest : goal.decreases-loop-rest
decreases-loop-rest l = length l.rest
