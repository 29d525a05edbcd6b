use Rattle.std.proofs.Common.{◌≡◌, ◌++◌, map, drop}
use Rattle.std.specs.List.{filter_map}
use Rattle.class_tree.specs.WellFormed.{class_name}
use Rattle.class_record.specs.declared.bases.BaseKind.TheVariants.{Superinterface}
use Rattle.class_record.specs.Trees.{base_of}
use Rattle.class_tree.specs.ClassNames.{interface_names}
use Rattle.class_linker.proofs.entering.push_interfaces.Given as goal

abbrev pub invariant-loop-index : goal.invariant-loop-index
invariant-loop-index l = l.bases ++ map (base_of Superinterface) (filter_map (class_name l.tree.pool) (drop l.index-index l.index-items)) ≡ l.fn.bases ++ map (base_of Superinterface) (interface_names l.tree)
