-- What a binary search finds among the files of a folder, whose names ascend.
use Rattle.std.proofs.Common.{◌≡◌, ℕ, zero, suc, ◌<◌, ◌≤◌, true, false, ltb, List, [], ◌∷◌, length, get_or, Option, Some, None, Result, Ok, Err, refl, sym, ap, subst, ◌∙◌, arith, slice_get}
use Rattle.std.specs.List.{HoldsAt, AllWithin}
use Rattle.std.specs.List.Sorted.{IsSearchInRange, IsBinarySearchResult, IsNonDecreasingBy}
use Rattle.std.specs.Option.{option_map, IfSome}
use Rattle.std.specs.Result.{result_ok}
use Rattle.std.specs.Ordering.{nat_cmp, ordering_index, ordering_reverse, is_lt}
use Rattle.std.proofs.Common.{Ordering, Less, Equal, Greater}
use Rattle.std.proofs.lemmas.Bool.{ltb-true, ltb-false, and_parts}
use Rattle.std.specs.Cmp.Lexicographic.{slice_cmp}
use Rattle.std.specs.FinMap.{slice_cmp-IsAntisymmetric, nat_cmp-IsAntisymmetric}
use Rattle.std.proofs.lemmas.Cmp.{nat_list_cmp_total}
use Rattle.std.proofs.lemmas.Option.{slice_get-get_or, get_or_from_slice_get, slice_get_within}
use Rattle.jsa_base.proofs.Codecs.{some_is}
use Rattle.archive_header.specs.declared.folders.ListedFile.{ListedFile}
use Rattle.archive_header.specs.Folders.{name_at, IsPlaceIn, is_before, ascends}

-- ---- names

same_names : (a b : List ℕ) → slice_cmp nat_cmp a b ≡ Equal → a ≡ b
same_names a b e = slice_cmp-IsAntisymmetric nat_cmp-IsAntisymmetric a b e

itself : (o : Ordering) → o ≡ ordering_reverse o → o ≡ Equal
itself Less e = absurd cc
itself Equal e = refl
itself Greater e = absurd cc

equal_names : (a b : List ℕ) → a ≡ b → slice_cmp nat_cmp a b ≡ Equal
equal_names a b e = subst (λ (c : List ℕ). slice_cmp nat_cmp a c ≡ Equal) e (itself (slice_cmp nat_cmp a a) (nat_list_cmp_total.antisymm a a))

is_less : (o : Ordering) → is_lt o ≡ true → o ≡ Less
is_less Less e = refl
is_less Equal e = absurd cc
is_less Greater e = absurd cc

at_most_2 : (o : Ordering) → ordering_index o ≤ 2
at_most_2 Less = omega arith
at_most_2 Equal = omega arith
at_most_2 Greater = omega arith

abbrev rank : List ℕ → ListedFile → ℕ
rank name f = ordering_index (slice_cmp nat_cmp f.name name)

-- comparisons with one name rise with the other
rises : (a b name : List ℕ) → slice_cmp nat_cmp a b ≡ Less → ordering_index (slice_cmp nat_cmp a name) ≤ ordering_index (slice_cmp nat_cmp b name)
rises a b name lt =
    elim (slice_cmp nat_cmp b name) as (λ o. slice_cmp nat_cmp b name ≡ o → ordering_index (slice_cmp nat_cmp a name) ≤ ordering_index o) [
      | Less ↦ λ e. least 0 (nat_list_cmp_total.trans a b name lt e)
      | Equal ↦ λ e. least 1 (subst (λ (c : List ℕ). slice_cmp nat_cmp a c ≡ Less) (same_names b name e) lt)
      | Greater ↦ λ e. at_most_2 (slice_cmp nat_cmp a name)
    ] refl
  where
    least : (n : ℕ) → slice_cmp nat_cmp a name ≡ Less → ordering_index (slice_cmp nat_cmp a name) ≤ n
    least n e = rw e (omega arith)

-- ---- along a list

from_head : (name : List ℕ) (f : ListedFile) (files : List ListedFile) → is_before f files ≡ true → ascends files ≡ true → (j : ℕ) (d : ListedFile) → j < length files → rank name f ≤ rank name (get_or files j d)
from_head name f [] before h j d lt = absurd (omega (arith, lt))
from_head name f (g ∷ files) before h zero d lt = rises f.name g.name name (is_less (slice_cmp nat_cmp f.name g.name) before)
from_head name f (g ∷ files) before h (suc j) d lt =
    let p = and_parts (is_before g files) (ascends files) h in
    let first : rank name f ≤ rank name g = rises f.name g.name name (is_less (slice_cmp nat_cmp f.name g.name) before) in
    let later : rank name g ≤ rank name (get_or files j d) = from_head name g files p.0 p.1 j d (omega (arith, lt)) in
    omega (arith, first, later)

ranks_rise : (name : List ℕ) (files : List ListedFile) → ascends files ≡ true → IsNonDecreasingBy (rank name) files
ranks_rise name [] h i j d le lt = absurd (omega (arith, lt))
ranks_rise name (f ∷ files) h zero zero d le lt = omega arith
ranks_rise name (f ∷ files) h zero (suc j) d le lt =
    let p = and_parts (is_before f files) (ascends files) h in from_head name f files p.0 p.1 j d (omega (arith, lt))
ranks_rise name (f ∷ files) h (suc i) zero d le lt = absurd (omega (arith, le))
ranks_rise name (f ∷ files) h (suc i) (suc j) d le lt =
    ranks_rise name files (and_parts (is_before f files) (ascends files) h).1 i j d (omega (arith, le)) (omega (arith, lt))

-- ---- what the search says

abbrev none : ListedFile
none = record { name = []; size = 0; sha256 = [] }

found : (files : List ListedFile) (name : List ℕ) (place : ℕ) → place < length files → HoldsAt (λ f. slice_cmp nat_cmp f.name name ≡ Equal) files place → name_at files place ≡ Some name
found files name place lt holds =
    ap (λ (o : Option ListedFile). option_map (λ f. f.name) o) (slice_get-get_or files place none lt)
    ∙ ap (λ (n : List ℕ). Some n) (same_names (get_or files place none).name name (holds none))

-- a name that stands before or behind isn't the one
differs : (a name : List ℕ) (o : Ordering) → slice_cmp nat_cmp a name ≡ o → (o ≡ Equal → ⊥) → a ≡ name → ⊥
differs a name o e other same = other (sym e ∙ equal_names a name same)

missing : (files : List ListedFile) (name : List ℕ) (gap : ℕ) → AllWithin (λ f. slice_cmp nat_cmp f.name name ≡ Less) files 0 gap → AllWithin (λ f. slice_cmp nat_cmp f.name name ≡ Greater) files gap (length files)
    → (place : ℕ) → name_at files place ≡ Some name → ⊥
missing files name gap before behind place e =
    elim (slice_get files place) as (λ o. slice_get files place ≡ o → option_map (λ f. f.name) o ≡ Some name → ⊥) [
      | None ↦ λ is named. absurd cc
      | Some f ↦ λ is named. nowhere f is (some_is f.name name named)
    ] refl e
  where
    nowhere : (f : ListedFile) → slice_get files place ≡ Some f → f.name ≡ name → ⊥
    nowhere f is same =
        let at : get_or files place f ≡ f = get_or_from_slice_get files place f f is in
        let lt : place < length files = slice_get_within files place f is in
        let named : (get_or files place f).name ≡ name = ap (λ (g : ListedFile). g.name) at ∙ same in
        elim (ltb place gap) as (λ b. ltb place gap ≡ b → ⊥) [
          | true ↦ λ t. differs (get_or files place f).name name Less (before place f (omega arith) (ltb-true place gap t)) (λ x. absurd cc) named
          | false ↦ λ t. differs (get_or files place f).name name Greater (behind place f (ltb-false place gap t) lt) (λ x. absurd cc) named
        ] refl

pub place_is : (files : List ListedFile) (name : List ℕ) (r : Result ℕ ℕ) → ascends files ≡ true → IsSearchInRange r (length files) → IsBinarySearchResult (λ f. slice_cmp nat_cmp f.name name) files r → IsPlaceIn files name (result_ok r)
place_is files name (Ok place) h range holds = found files name place range holds
place_is files name (Err gap) h range parts = let p = parts (ranks_rise name files h) in missing files name gap p.0 p.1

pub place_is_within : (files : List ListedFile) (r : Result ℕ ℕ) → IsSearchInRange r (length files) → IfSome (result_ok r) (λ place. place < length files)
place_is_within files (Ok place) range = range
place_is_within files (Err gap) range = tt
