use Rattle.std.proofs.Common.{length}
use Rattle.class_tree.specs.TextPlaces.{known_at}
use Rattle.class_tree.proofs.Places.{Stand}
use Rattle.class_tree.proofs.text_places.all_places.Given as goal

abbrev pub invariant-loop-rest : goal.invariant-loop-rest
invariant-loop-rest l = Stand l.fn.entries (known_at l.known) l.places.items l.rest

abbrev pub decreases-loop-rest : goal.decreases-loop-rest
decreases-loop-rest l = length l.rest
