-- Stacks that are kept with their top last and seen with their top first.
use Rattle.std.proofs.Common.{◌≡◌, ℕ, ◌+◌, ◌-◌, ◌<◌, zero, suc, slice_get, List, [], ◌∷◌, ◌++◌, length, refl, sym, ◌∙◌, ap, arith, length-append}
use Rattle.std.specs.Prelude.{Option, Some}
use Rattle.verify_rules.specs.declared.types.VType.{VType}
use Rattle.verify_rules.specs.Types.{top_first, size, units}

pub top_first-append : {X : Type 0} (xs : List X) (x : X) → top_first (xs ++ x ∷ []) ≡ x ∷ top_first xs
top_first-append [] x = refl
top_first-append (y ∷ ys) x = rw (top_first-append ys x) refl

pub length-top_first : {X : Type 0} (xs : List X) → length (top_first xs) ≡ length xs
length-top_first [] = refl
length-top_first (x ∷ xs) = simp length-append (let h = length-top_first xs in omega arith)

get_before : {X : Type 0} (xs : List X) (y : X) (k : ℕ) → k < length xs → slice_get (xs ++ y ∷ []) k ≡ slice_get xs k
get_before [] y k h = absurd (omega arith)
get_before (x ∷ xs) y zero h = refl
get_before (x ∷ xs) y (suc k) h = get_before xs y k (omega arith)

pub get_last : {X : Type 0} (xs : List X) (y : X) (k : ℕ) → k ≡ length xs → slice_get (xs ++ y ∷ []) k ≡ Some y
get_last [] y zero h = refl
get_last [] y (suc k) h = absurd (omega arith)
get_last (x ∷ xs) y zero h = absurd (omega arith)
get_last (x ∷ xs) y (suc k) h = get_last xs y k (omega arith)

-- the one that is so far from the top
pub top_at : {X : Type 0} (xs : List X) (k j : ℕ) → k + j + 1 ≡ length xs → slice_get (top_first xs) k ≡ slice_get xs j
top_at [] k j h = absurd (omega arith)
top_at (x ∷ xs) k zero h = get_last (top_first xs) x k (let l = length-top_first xs in omega arith)
top_at (x ∷ xs) k (suc j) h = get_before (top_first xs) x k (let l = length-top_first xs in omega arith) ∙ top_at xs k j (omega arith)

-- ---- units

pub units-append : (xs ys : List VType) → units (xs ++ ys) ≡ units xs + units ys
unfolding units
units-append [] ys = omega arith
units-append (x ∷ xs) ys = let h = units-append xs ys in omega arith

pub units-one : (x : VType) → units (x ∷ []) ≡ size x
unfolding units
units-one x = omega arith

pub units-top_first : (xs : List VType) → units (top_first xs) ≡ units xs
unfolding units
units-top_first [] = refl
units-top_first (x ∷ xs) = let h = units-top_first xs in let a = units-append (top_first xs) (x ∷ []) in omega arith

-- ---- one more, and one less

pub units_pushed : (xs : List VType) (x : VType) → units (xs ++ x ∷ []) ≡ units xs + size x
units_pushed xs x = units-append xs (x ∷ []) ∙ ap (λ (n : ℕ). units xs + n) (units-one x)

-- the units of a stack, as it is seen and as it is kept
pub units_seen : (items shown : List VType) → top_first items ≡ shown → units shown ≡ units items
units_seen items shown e = sym (ap units e) ∙ units-top_first items

pub top_pushed : {X : Type 0} (old new shown : List X) (x : X) → new ≡ old ++ x ∷ [] → top_first old ≡ shown → top_first new ≡ x ∷ shown
top_pushed old new shown x e s = ap top_first e ∙ (top_first-append old x ∙ ap (λ ys. x ∷ ys) s)

pub shown_at : {X : Type 0} (items xs shown : List X) (k : ℕ) (r : Option X) → top_first items ≡ shown → xs ≡ items → k < length items → r ≡ slice_get xs (length xs - 1 - k) → r ≡ slice_get shown k
shown_at items xs shown k r s e h i =
    i ∙ (rw e (sym (top_at items k (length items - 1 - k) (omega arith))) ∙ ap (λ ys. slice_get ys k) s)
