use Rattle.std.proofs.Common.{◌≡◌, length}
use Rattle.loaded_classes.specs.Bases.{interfaces_appended}
use Rattle.loaded_classes.proofs.bases.add_interfaces.Given as goal

abbrev pub invariant-loop-rest : goal.invariant-loop-rest
invariant-loop-rest l = interfaces_appended l.classes l.seen.keys l.rest ≡ interfaces_appended l.classes l.initial.seen.keys l.interfaces

abbrev pub decreases-loop-rest : goal.decreases-loop-rest
decreases-loop-rest l = length l.rest
