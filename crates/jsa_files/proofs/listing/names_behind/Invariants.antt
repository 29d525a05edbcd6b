use Rattle.std.proofs.Common.{◌≡◌, ◌++◌}
use Rattle.std.specs.List.{filter_map}
use Rattle.std.specs.BTreeMap.{keys}
use Rattle.jsa_files.specs.Memory.{paths_of}
use Rattle.jsa_files.specs.Listing.{name_behind}
use Rattle.jsa_files.proofs.listing.names_behind.Given as goal

abbrev pub invariant-loop-path : goal.invariant-loop-path
invariant-loop-path g l = l.names ++ filter_map (name_behind l.front) (paths_of l.path-iterator) ≡ filter_map (name_behind l.front) (paths_of (keys l.files))
