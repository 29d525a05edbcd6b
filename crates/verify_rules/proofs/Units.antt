-- The units of types, one after the other.
use Rattle.std.proofs.Common.{◌≡◌, ℕ, suc, ◌+◌, ◌<◌, ◌≤◌, List, ◌∷◌, length, drop, get_or, sym, ap, ◌∙◌, drop-cons, add-one, arith}
use Rattle.std.proofs.lemmas.List.{drop_all}
use Rattle.verify_rules.specs.declared.types.VType.{VType}
use Rattle.verify_rules.specs.Types.{size, units}

-- the items from an index on
pub rest_is : {A : Type 0} (xs : List A) (i : ℕ) (x : A) → i < length xs → x ≡ get_or xs i x → drop i xs ≡ x ∷ drop (i + 1) xs
rest_is {A} xs i x lt at = rw add-one (drop-cons xs i x lt ∙ ap (λ (z : A). z ∷ drop (suc i) xs) (sym at))

pub units_on : (taken taken_more : ℕ) (ts : List VType) (i : ℕ) (t : VType) (total : ℕ) → i < length ts → t ≡ get_or ts i t → taken_more ≡ taken + size t → taken + units (drop i ts) ≡ total → taken_more + units (drop (i + 1) ts) ≡ total
unfolding units
units_on taken taken_more ts i t total lt at m h = let e = ap units (rest_is ts i t lt at) in omega arith

pub units_done : (taken : ℕ) (ts : List VType) (i : ℕ) (total : ℕ) → length ts ≤ i → taken + units (drop i ts) ≡ total → taken ≡ total
unfolding units
units_done taken ts i total le h = let e = ap units (drop_all i ts le) in omega arith

pub units_past : (taken room : ℕ) (ts : List VType) (i : ℕ) (t : VType) (total : ℕ) → i < length ts → t ≡ get_or ts i t → room < taken + size t → taken + units (drop i ts) ≡ total → room < total
unfolding units
units_past taken room ts i t total lt at m h = let e = ap units (rest_is ts i t lt at) in omega arith
