-- The first place in a list at which a test passes.
use Rattle.std.proofs.Common.{◌≡◌, ℕ, suc, ◌+◌, Bool, true, false, cond, List, [], ◌∷◌, ◌++◌, length, slice_get, Option, Some, None, refl, sym, ap, ◌∙◌, arith}
use Rattle.std.specs.List.{position, position_from, list_any}
use Rattle.std.specs.Option.{option_or}
use Rattle.std.proofs.lemmas.Iterator.Adapters.{position_from-zero}

-- What stands there, where the list stands from place n on.
pub record HoldsFrom {X : Type 0} (p : X → Bool) (n : ℕ) (xs : List X) (i : ℕ) : Type 0 where
  pub place : ℕ
  pub item : X
  pub at : i ≡ n + place
  pub is : slice_get xs place ≡ Some item
  pub passes : p item ≡ true

chosen : (b : Bool) (n : ℕ) (a rest : Option ℕ) → cond b (Some n) (option_or a rest) ≡ option_or (cond b (Some n) a) rest
chosen true n a rest = refl
chosen false n a rest = refl

module _ {X : Type 0} (p : X → Bool) where
  from_append : (n : ℕ) (xs ys : List X) → position_from p n (xs ++ ys) ≡ option_or (position_from p n xs) (position_from p (n + length xs) ys)
  from_append n [] ys = let same : n ≡ n + 0 = omega arith in ap (λ (m : ℕ). position_from p m ys) same
  from_append n (x ∷ xs) ys =
      let same : (n + 1) + length xs ≡ n + length (x ∷ xs) = omega arith in
      ap (cond (p x) (Some n)) (from_append (n + 1) xs ys ∙ ap (λ (m : ℕ). option_or (position_from p (n + 1) xs) (position_from p m ys)) same)
      ∙ chosen (p x) n (position_from p (n + 1) xs) (position_from p (n + length (x ∷ xs)) ys)

  -- in a list that grows at its end
  pub position-append : (xs ys : List X) → position p (xs ++ ys) ≡ option_or (position p xs) (position_from p (length xs) ys)
  position-append xs ys =
      let same : 0 + length xs ≡ length xs = omega arith in
      position_from-zero p (xs ++ ys) ∙ from_append 0 xs ys ∙ ap (λ (o : Option ℕ). option_or o (position_from p (0 + length xs) ys)) (sym (position_from-zero p xs))
      ∙ ap (λ (m : ℕ). option_or (position p xs) (position_from p m ys)) same

  holds_by : (b : Bool) (n : ℕ) (x : X) (xs : List X) (i : ℕ) → p x ≡ b → cond b (Some n) (position_from p (n + 1) xs) ≡ Some i → (position_from p (n + 1) xs ≡ Some i → HoldsFrom p (n + 1) xs i) → HoldsFrom p n (x ∷ xs) i
  holds_by true n x xs i e h later = let same : n ≡ i = cc in record { place = 0; item = x; at = omega (arith, same); is = refl; passes = e }
  holds_by false n x xs i e h later = let f = later h in record { place = suc f.place; item = f.item; at = omega (arith, f.at); is = f.is; passes = f.passes }

  from_holds : (n : ℕ) (xs : List X) (i : ℕ) → position_from p n xs ≡ Some i → HoldsFrom p n xs i
  from_holds n [] i h = absurd cc
  from_holds n (x ∷ xs) i h = holds_by (p x) n x xs i refl h (from_holds (n + 1) xs i)

  -- the test passes there
  pub position-holds : (xs : List X) (i : ℕ) → position p xs ≡ Some i → HoldsFrom p 0 xs i
  position-holds xs i h = from_holds 0 xs i (sym (position_from-zero p xs) ∙ h)

  none_by : (b : Bool) (n : ℕ) (x : X) (xs : List X) → p x ≡ b → cond b (Some n) (position_from p (n + 1) xs) ≡ None → (position_from p (n + 1) xs ≡ None → list_any p xs ≡ false) → list_any p (x ∷ xs) ≡ false
  none_by true n x xs e h later = absurd cc
  none_by false n x xs e h later = rw e (later h)

  from_none : (n : ℕ) (xs : List X) → position_from p n xs ≡ None → list_any p xs ≡ false
  from_none n [] h = refl
  from_none n (x ∷ xs) h = none_by (p x) n x xs refl h (from_none (n + 1) xs)

  -- Where there is none, the test passes nowhere.
  pub position-none : (xs : List X) → position p xs ≡ None → list_any p xs ≡ false
  position-none xs h = from_none 0 xs (sym (position_from-zero p xs) ∙ h)

  some_by : (b : Bool) (n : ℕ) (x : X) (xs : List X) → p x ≡ b → list_any p (x ∷ xs) ≡ false → (list_any p xs ≡ false → position_from p (n + 1) xs ≡ None) → cond (p x) (Some n) (position_from p (n + 1) xs) ≡ None
  some_by true n x xs e h later = let k = rw e at h in absurd cc
  some_by false n x xs e h later = rw e (later (rw e at h))

  nowhere_from : (n : ℕ) (xs : List X) → list_any p xs ≡ false → position_from p n xs ≡ None
  nowhere_from n [] h = refl
  nowhere_from n (x ∷ xs) h = some_by (p x) n x xs refl h (nowhere_from (n + 1) xs)

  -- Where the test passes nowhere, there is none.
  pub position-nowhere : (xs : List X) → list_any p xs ≡ false → position p xs ≡ None
  position-nowhere xs h = position_from-zero p xs ∙ nowhere_from 0 xs h
