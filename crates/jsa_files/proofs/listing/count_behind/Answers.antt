use Rattle.std.proofs.Common.{arith}
use Rattle.std.proofs.lemmas.List.{length-map}
use Rattle.std.specs.BTreeMap.{keys}
use Rattle.std.specs.String.{string_bytes}
use Rattle.jsa_files.specs.Memory.{paths_of}
use Rattle.jsa_files.specs.Listing.{name_behind}
use Rattle.jsa_files.proofs.ClassNames.{length-filter_map}
use Rattle.jsa_files.proofs.listing.count_behind.Goals as goal

pub overflow_add-count : goal.overflow_add-count
overflow_add-count g c =
    let files = c.args.files.now in
    let few = length-filter_map (name_behind c.args.front.now) (paths_of (keys files)) in
    let long = length-map (keys files) (λ k. string_bytes k) in
    let count = length-map files.entries (λ e. e.0) in
    omega (arith, c.loop-file.invariant, few, long, count, c.keys-file-items.ensures.fits, c.count_one-count.ensures.bound)
