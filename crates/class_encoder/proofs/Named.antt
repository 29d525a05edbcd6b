-- Where a Utf8 with a text stands at some index, the text has an index, and that Utf8 stands there.
use Rattle.std.proofs.Common.{◌≡◌, ℕ, zero, suc, ◌+◌, ◌<◌, ◌≤◌, Bool, true, false, List, [], ◌∷◌, Some, refl, ap, ◌∙◌, arith}
use Rattle.std.specs.List.{position, position_from}
use Rattle.std.proofs.lemmas.Iterator.Adapters.{position_from-zero}
use Rattle.class_tree.specs.declared.constant_pool.PoolEntry.{PoolEntry}
use Rattle.class_tree.specs.Trees.{is_text}
use Rattle.class_tree.specs.Encoded.{has_this_text, or_0, index_of_text}

-- the first place of the text, no higher than this index
record First (pool : List PoolEntry) (text : List ℕ) (from index : ℕ) : Type 0 where
  place : ℕ
  found : position_from (has_this_text text) from pool ≡ Some (from + place)
  is : is_text pool place text ≡ true
  low : place ≤ index

first_by : (b : Bool) (e : PoolEntry) (pool : List PoolEntry) (text : List ℕ) (from index : ℕ) → has_this_text text e ≡ b → is_text (e ∷ pool) index text ≡ true
    → ((later : ℕ) → is_text pool later text ≡ true → First pool text (from + 1) later) → First (e ∷ pool) text from index
first_by true e pool text from index here h more =
    record { place = 0; found = rw here (ap (λ (n : ℕ). Some n) (omega arith)); is = here; low = omega arith }
first_by false e pool text from zero here h more = absurd cc
first_by false e pool text from (suc index) here h more =
    let f = more index h in
    let same : (from + 1) + f.place ≡ from + suc f.place = omega arith in
    record { place = suc f.place; found = rw here (f.found ∙ ap (λ (n : ℕ). Some n) same); is = f.is; low = omega (arith, f.low) }

first : (pool : List PoolEntry) (text : List ℕ) (from index : ℕ) → is_text pool index text ≡ true → First pool text from index
first [] text from index h = absurd cc
first (e ∷ pool) text from index h = first_by (has_this_text text e) e pool text from index refl h (first pool text (from + 1))

first_at : (n : ℕ) → 0 + n ≡ n
first_at n = omega arith

-- The text has an index, and its Utf8 stands there.
pub record Named (pool : List PoolEntry) (text : List ℕ) : Type 0 where
  pub small : index_of_text pool text < 65536
  pub is : is_text pool (index_of_text pool text) text ≡ true

pub named : (pool : List PoolEntry) (text : List ℕ) (index : ℕ) → is_text pool index text ≡ true → index < 65536 → Named pool text
unfolding index_of_text
named pool text index h small =
    let f = first pool text 0 index h in
    let at : or_0 (position (has_this_text text) pool) ≡ f.place = ap or_0 (position_from-zero (has_this_text text) pool ∙ f.found) ∙ first_at f.place in
    record { small = rw at (omega (arith, f.low, small)); is = rw at f.is }
