-- What is read of a list in which one place was set.
use Rattle.std.proofs.Common.{◌≡◌, ℕ, zero, suc, ◌<◌, ◌≤◌, Bool, true, cond, List, [], ◌∷◌, length, eqb, Option, Some, slice_get, slice_set, refl, sym, ap, subst, ◌∙◌, inl, inr, arith}
use Rattle.std.proofs.lemmas.Bool.Decides.{eqb_tells}
use Rattle.std.proofs.lemmas.List.{length-set}
use Rattle.std.proofs.lemmas.Option.{slice_get_past}
use Rattle.loaded_classes.specs.Table.{linked_at, or_false, or_none, or_zero, row_at, word_at}

pub get_set_same : {A : Type 0} (xs : List A) (i : ℕ) (x : A) → i < length xs → slice_get (slice_set xs i x) i ≡ Some x
get_set_same [] i x h = absurd (omega arith)
get_set_same (y ∷ ys) zero x h = refl
get_set_same (y ∷ ys) (suc i) x h = let less : i < length ys = omega arith in get_set_same ys i x less

pub get_set_other : {A : Type 0} (xs : List A) (i j : ℕ) (x : A) → (j ≡ i → ⊥) → slice_get (slice_set xs i x) j ≡ slice_get xs j
get_set_other [] i j x other = refl
get_set_other (y ∷ ys) zero zero x other = absurd (other refl)
get_set_other (y ∷ ys) zero (suc j) x other = refl
get_set_other (y ∷ ys) (suc i) zero x other = refl
get_set_other (y ∷ ys) (suc i) (suc j) x other = get_set_other ys i j x (λ same. other (ap suc same))

-- ---- flags

pub linked_set : (xs : List Bool) (i : ℕ) → i < length xs → (k : ℕ) → linked_at (slice_set xs i true) k ≡ cond (eqb k i) true (linked_at xs k)
linked_set xs i h k = elim (eqb_tells k i) [
  | inl same ↦ rw same.0 (ap (λ (j : ℕ). linked_at (slice_set xs i true) j) same.1 ∙ ap or_false (get_set_same xs i true h))
  | inr other ↦ rw other.0 (ap or_false (get_set_other xs i k true other.1))
]

-- ---- cache words

module _ (words : List (List ℕ)) (i k value : ℕ) where
  abbrev pub words_set : List (List ℕ)
  words_set = slice_set words i (slice_set (row_at words i) k value)

  pub word_set : i < length words → k < length (row_at words i) → word_at words_set i k ≡ value
  word_set h within =
      ap (λ (row : Option (List ℕ)). or_zero (slice_get (or_none row) k)) (get_set_same words i (slice_set (row_at words i) k value) h)
      ∙ ap or_zero (get_set_same (row_at words i) k value within)

  same_row : i < length words → (b : ℕ) → (b ≡ k → ⊥) → word_at words_set i b ≡ word_at words i b
  same_row h b other =
      ap (λ (row : Option (List ℕ)). or_zero (slice_get (or_none row) b)) (get_set_same words i (slice_set (row_at words i) k value) h)
      ∙ ap or_zero (get_set_other (row_at words i) k b value other)

  pub word_kept : i < length words → (a b : ℕ) → ((a ≡ i) × (b ≡ k) → ⊥) → word_at words_set a b ≡ word_at words a b
  word_kept h a b other = elim (eqb_tells a i) [
    | inl same ↦ subst (λ (j : ℕ). word_at words_set j b ≡ word_at words j b) (sym same.1) (same_row h b (λ e. other (same.1, e)))
    | inr apart ↦ ap (λ (row : Option (List ℕ)). or_zero (slice_get (or_none row) b)) (get_set_other words i a (slice_set (row_at words i) k value) apart.1)
  ]

  -- Each class keeps as many words.
  pub row_length : i < length words → (a : ℕ) → length (row_at words_set a) ≡ length (row_at words a)
  row_length h a = elim (eqb_tells a i) [
    | inl same ↦ subst (λ (j : ℕ). length (row_at words_set j) ≡ length (row_at words j)) (sym same.1)
        (ap (λ (row : Option (List ℕ)). length (or_none row)) (get_set_same words i (slice_set (row_at words i) k value) h) ∙ length-set (row_at words i) k value)
    | inr apart ↦ ap (λ (row : Option (List ℕ)). length (or_none row)) (get_set_other words i a (slice_set (row_at words i) k value) apart.1)
  ]

-- Past the last word stands 0.
pub word_past : (words : List (List ℕ)) (i k : ℕ) → length (row_at words i) ≤ k → word_at words i k ≡ 0
word_past words i k h = ap or_zero (slice_get_past (row_at words i) k h)
