use Rattle.std.proofs.Common.{◌≡◌, ◌+◌, [], length}
use Rattle.class_asm.specs.Assembly.{run}
use Rattle.class_asm.specs.declared.place.Place.TheVariants as places
use Rattle.class_asm.proofs.text.trees_of.Given as goal

abbrev pub invariant-loop-rest : goal.invariant-loop-rest
invariant-loop-rest l = record { counted : l.number + length l.rest ≡ 1 + length l.fn.lines; value : run l.number l.place l.trees.items l.rest ≡ run 1 places.Start [] l.fn.lines }

abbrev pub decreases-loop-rest : goal.decreases-loop-rest
decreases-loop-rest l = length l.rest
