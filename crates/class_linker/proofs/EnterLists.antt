-- Readings and names as lists.
use Rattle.std.proofs.Common.{◌≡◌, ℕ, zero, suc, List, [], ◌∷◌, ◌++◌, length, map, reverse, refl, sym, ◌∙◌, ap, subst, Bool, true, false, ◌||◌}
use Rattle.std.specs.Prelude.{Some, slice_get}
use Rattle.std.specs.List.{AllByRecursion}
use Rattle.std.specs.Str.{bytes_eq}
use Rattle.std.proofs.lemmas.List.Folds.{list_any-append}
use Rattle.std.proofs.lemmas.List.Sorted.{list_any-IsPermutation, IsPermutation-reverse}
use Rattle.std.proofs.lemmas.Slice.Eq.{bytes_eq-Decides}
use Rattle.indexmap.proofs.ReorderLemmas.{map-reverse}
use Rattle.class_record.specs.Files.{Name}
use Rattle.class_record.specs.Facts.{name_of}
use Rattle.class_record.specs.Loading.{is_among}
use Rattle.loaded_classes.specs.Table.{ClassTable}
use Rattle.class_linker.specs.Kept.{names_loaded}
use Rattle.class_linker.specs.Rights.{order_of}

pub get_front : {A : Type 0} (xs ys : List A) (k : ℕ) (x : A) → slice_get xs k ≡ Some x → slice_get (xs ++ ys) k ≡ Some x
get_front [] ys k x h = absurd (cc)
get_front (y ∷ xs) ys zero x h = h
get_front (y ∷ xs) ys (suc k) x h = get_front xs ys k x h

pub get_end : {A : Type 0} (xs : List A) (x : A) → slice_get (xs ++ x ∷ []) (length xs) ≡ Some x
get_end [] x = refl
get_end (y ∷ xs) x = get_end xs x

pub get_mapped : {A B : Type 0} (f : A → B) (xs : List A) (k : ℕ) (y : B) → slice_get (map f xs) k ≡ Some y → (x : A) × (slice_get xs k ≡ Some x) × (f x ≡ y)
get_mapped f [] k y h = absurd (cc)
get_mapped f (x ∷ xs) zero y h = (x, refl, (cc))
get_mapped f (x ∷ xs) (suc k) y h = get_mapped f xs k y h

pub all_at : {A : Type 0} (P : A → Type 0) (xs : List A) (k : ℕ) (x : A) → AllByRecursion P xs → slice_get xs k ≡ Some x → P x
all_at P [] k x a h = absurd (cc)
all_at P (y ∷ xs) zero x a h = let i : y ≡ x = cc in subst P i a.0
all_at P (y ∷ xs) (suc k) x a h = all_at P xs k x a.1 h

pub all_end : {A : Type 0} (P : A → Type 0) (xs : List A) (x : A) → AllByRecursion P xs → P x → AllByRecursion P (xs ++ x ∷ [])
all_end P [] x a h = (h, tt)
all_end P (y ∷ xs) x a h = (a.0, all_end P xs x a.1 h)

-- ---- names

pub among_front : (n : Name) (xs ys : List Name) → is_among n xs ≡ true → is_among n (xs ++ ys) ≡ true
among_front n xs ys h = list_any-append (bytes_eq n) xs ys ∙ ap (λ (b : Bool). b || is_among n ys) h

pub among_at : (n : Name) (xs : List Name) (k : ℕ) → slice_get xs k ≡ Some n → is_among n xs ≡ true
among_at n [] k h = absurd (cc)
among_at n (x ∷ xs) zero h = let i : n ≡ x = cc in ap (λ (b : Bool). b || is_among n xs) ((bytes_eq-Decides n x).1 i)
among_at n (x ∷ xs) (suc k) h = later (bytes_eq n x) (among_at n xs k h)
  where
    later : (b : Bool) → is_among n xs ≡ true → (b || is_among n xs) ≡ true
    later true e = refl
    later false e = e

order_is : (t : ClassTable) → order_of t ≡ reverse (names_loaded t)
order_is t = map-reverse name_of t.classes

-- The newest first are the same names as in load order.
pub among_order : (n : Name) (t : ClassTable) → is_among n (order_of t) ≡ is_among n (names_loaded t)
among_order n t = ap (is_among n) (order_is t) ∙ sym (list_any-IsPermutation (bytes_eq n) (names_loaded t) (reverse (names_loaded t)) (IsPermutation-reverse (names_loaded t)))
