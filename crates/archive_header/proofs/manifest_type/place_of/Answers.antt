use Rattle.std.proofs.Common.{rules}
use Rattle.std.specs.Ordering.{nat_cmp}
use Rattle.std.specs.Cmp.Lexicographic.{slice_cmp}
use Rattle.std.proofs.lemmas.Fn.{always_returns_same}
use Rattle.archive_header.proofs.NameSearch.{place_is, place_is_within}
use Rattle.archive_header.proofs.manifest_type.place_of.Goals as goal

-- the closure compares a file's name
pub returns-clause-place : goal.returns-clause-place
returns-clause-place c =
    let facts = c.binary_search_by.ensures in
    let compared = facts.position (λ f. slice_cmp nat_cmp f.name c.args.name.now) (always_returns_same _ _ _ (λ a r g called. (search rules, search rules))) in
    rw c.ok.ensures.value (place_is c.args.files.now c.args.name.now c.binary_search_by.result c.requires facts.bound compared)

pub returns-clause-within : goal.returns-clause-within
returns-clause-within c = rw c.ok.ensures.value (place_is_within c.args.files.now c.binary_search_by.result c.binary_search_by.ensures.bound)
