use Rattle.std.proofs.Common.{◌≡◌, length}
use Rattle.std.specs.BTreeSet.{contains}
use Rattle.class_tree.specs.TextPlaces.{is_same_key}
use Rattle.class_tree.specs.WellFormed.{are_distinct}
use Rattle.class_tree.proofs.DistinctKeys.{tested}
use Rattle.class_tree.proofs.distinct.are_distinct.Given as goal

abbrev pub invariant-loop-rest : goal.invariant-loop-rest
invariant-loop-rest g l = tested g.K.Ord.cmp (contains g.K.Ord.cmp l.seen) l.rest ≡ are_distinct (is_same_key g.K.Ord.cmp) l.fn.keys

abbrev pub decreases-loop-rest : goal.decreases-loop-rest
decreases-loop-rest g l = length l.rest
