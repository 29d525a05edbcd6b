-- Lists that grow at their end by one.
use Rattle.std.proofs.Common.{◌≡◌, ℕ, zero, suc, ◌<◌, Bool, true, false, ◌||◌, List, [], ◌∷◌, ◌++◌, length, reverse, Some, slice_get, refl, ap, ◌∙◌, ◌⊎◌, inl, inr, arith}
use Rattle.std.specs.List.{list_any}
use Rattle.std.proofs.lemmas.List.{map-append, reverse-append}
use Rattle.std.proofs.lemmas.List.Folds.{list_any-append}
use Rattle.std.specs.Str.{bytes_eq}
use Rattle.class_record.specs.Files.{Name}
use Rattle.class_record.specs.Loading.{is_among}
use Rattle.class_record.specs.Facts.{Facts, name_of, names_of}
use Rattle.class_record.specs.Ancestors.{newest}

module _ {A : Type 0} where
  -- what stands at a place of a list
  pub record StandsAt (xs : List A) (k : ℕ) : Type 0 where
    pub item : A
    pub is : slice_get xs k ≡ Some item

  pub stands_at : (xs : List A) (k : ℕ) → k < length xs → StandsAt xs k
  stands_at [] k h = absurd (omega arith)
  stands_at (x ∷ xs) zero h = record { item = x; is = refl }
  stands_at (x ∷ xs) (suc k) h =
      let less : k < length xs = omega arith in
      let s = stands_at xs k less in
      record { item = s.item; is = s.is }

  pub get_left : (xs ys : List A) (k : ℕ) (x : A) → slice_get xs k ≡ Some x → slice_get (xs ++ ys) k ≡ Some x
  get_left [] ys k x is = absurd cc
  get_left (y ∷ xs) ys zero x is = is
  get_left (y ∷ xs) ys (suc k) x is = get_left xs ys k x is

  pub get_last : (xs : List A) (x : A) → slice_get (xs ++ x ∷ []) (length xs) ≡ Some x
  get_last [] x = refl
  get_last (y ∷ xs) x = get_last xs x

  -- What stands in the grown list stands in the old one, or is the new one at its end.
  pub get_grown : (xs : List A) (x : A) (k : ℕ) (y : A) → slice_get (xs ++ x ∷ []) k ≡ Some y → (slice_get xs k ≡ Some y) ⊎ ((k ≡ length xs) × (x ≡ y))
  get_grown [] x zero y is = inr (refl, cc)
  get_grown [] x (suc k) y is = absurd cc
  get_grown (z ∷ xs) x zero y is = inl is
  get_grown (z ∷ xs) x (suc k) y is = elim (get_grown xs x k y is) [ inl before ↦ inl before | inr last ↦ inr (ap suc last.0, last.1) ]

pub names_grown : (fs : List Facts) (f : Facts) → names_of (fs ++ f ∷ []) ≡ names_of fs ++ name_of f ∷ []
names_grown fs f = map-append name_of fs (f ∷ [])

pub newest_grown : (fs : List Facts) (f : Facts) → newest (fs ++ f ∷ []) ≡ f ∷ newest fs
newest_grown fs f = reverse-append fs (f ∷ [])

-- ---- the newest first

or_swaps : (a b : Bool) → (a || b) ≡ (b || a)
or_swaps true true = refl
or_swaps true false = refl
or_swaps false true = refl
or_swaps false false = refl

or_none : (a : Bool) → (a || false) ≡ a
or_none true = refl
or_none false = refl

any_reversed : (p : Name → Bool) (fs : List Facts) → list_any p (names_of (reverse fs)) ≡ list_any p (names_of fs)
any_reversed p [] = refl
any_reversed p (f ∷ fs) =
    ap (λ (gs : List Facts). list_any p (names_of gs)) (reverse-append (f ∷ []) fs)
    ∙ ap (list_any p) (map-append name_of (reverse fs) (f ∷ []))
    ∙ list_any-append p (names_of (reverse fs)) (name_of f ∷ [])
    ∙ ap (λ (b : Bool). b || (p (name_of f) || false)) (any_reversed p fs)
    ∙ or_swaps (list_any p (names_of fs)) (p (name_of f) || false)
    ∙ ap (λ (b : Bool). b || list_any p (names_of fs)) (or_none (p (name_of f)))

pub among_newest : (name : Name) (fs : List Facts) → is_among name (names_of (newest fs)) ≡ is_among name (names_of fs)
among_newest name fs = any_reversed (bytes_eq name) fs
