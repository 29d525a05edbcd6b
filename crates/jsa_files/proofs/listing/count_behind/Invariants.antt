use Rattle.std.proofs.Common.{◌≡◌, ◌+◌, length}
use Rattle.std.specs.List.{filter_map}
use Rattle.std.specs.BTreeMap.{keys}
use Rattle.jsa_files.specs.Memory.{paths_of}
use Rattle.jsa_files.specs.Listing.{name_behind}
use Rattle.jsa_files.proofs.listing.count_behind.Given as goal

abbrev pub invariant-loop-file : goal.invariant-loop-file
invariant-loop-file g l = l.count + length (filter_map (name_behind l.front) (paths_of l.file-iterator)) ≡ length (filter_map (name_behind l.front) (paths_of (keys l.files)))
