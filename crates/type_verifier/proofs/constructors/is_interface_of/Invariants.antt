use Rattle.std.proofs.Common.{◌≡◌, length}
use Rattle.std.specs.List.{filter_map, list_any}
use Rattle.std.specs.Str.{bytes_eq}
use Rattle.class_tree.specs.WellFormed.{class_name}
use Rattle.class_tree.specs.ClassNames.{interface_names}
use Rattle.type_verifier.proofs.constructors.is_interface_of.Given as goal

abbrev pub invariant-loop-rest : goal.invariant-loop-rest
invariant-loop-rest l = list_any (bytes_eq l.name) (filter_map (class_name l.tree.pool) l.rest) ≡ list_any (bytes_eq l.name) (interface_names l.tree)

abbrev pub decreases-loop-rest : goal.decreases-loop-rest
decreases-loop-rest l = length l.rest
