use Rattle.std.proofs.Common.{◌≡◌, length}
use Rattle.loaded_classes.specs.Bases.{ids_appended}
use Rattle.loaded_classes.proofs.bases.add_all.Given as goal

abbrev pub invariant-loop-rest : goal.invariant-loop-rest
invariant-loop-rest l = ids_appended l.seen.keys l.rest ≡ ids_appended l.initial.seen.keys l.ids

abbrev pub decreases-loop-rest : goal.decreases-loop-rest
decreases-loop-rest l = length l.rest
