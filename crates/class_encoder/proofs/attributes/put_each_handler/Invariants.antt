use Rattle.std.proofs.Common.{◌≡◌, ◌++◌, length}
use Rattle.std.specs.List.{flat_map}
use Rattle.class_tree.specs.ClassFiles.{handler}
use Rattle.class_encoder.proofs.attributes.put_each_handler.Given as goal

abbrev pub invariant-loop-rest : goal.invariant-loop-rest
invariant-loop-rest l = l.out.items ++ flat_map handler l.rest ≡ l.fn.out.items ++ flat_map handler l.fn.handlers

abbrev pub decreases-loop-rest : goal.decreases-loop-rest
decreases-loop-rest l = length l.rest
