use Rattle.std.proofs.Common.{◌≡◌, true, length}
use Rattle.std.specs.List.{AllByRecursion, filter_map}
use Rattle.class_tree.specs.WellFormed.{class_name}
use Rattle.class_record.specs.Files.{Name}
use Rattle.class_record.specs.Facts.{names_of}
use Rattle.class_record.specs.Loading.{is_among}
use Rattle.loaded_cases.proofs.test_classes.are_loaded.Given as goal

abbrev pub invariant-loop-rest : goal.invariant-loop-rest
invariant-loop-rest l =
    AllByRecursion (λ (name : Name). is_among name (names_of l.classes.classes) ≡ true) (filter_map (class_name l.pool) l.rest)
    → AllByRecursion (λ (name : Name). is_among name (names_of l.classes.classes) ≡ true) (filter_map (class_name l.pool) l.indices)

abbrev pub decreases-loop-rest : goal.decreases-loop-rest
decreases-loop-rest l = length l.rest
