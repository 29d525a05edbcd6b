-- Reading items one after the other, as a loop does.
use Rattle.std.proofs.Common.{◌≡◌, ℕ, suc, ◌-◌, ◌+◌, ◌≤◌, ◌<◌, List, [], ◌∷◌, ◌++◌, Some, None, refl, sym, ap, ◌∙◌, append_assoc, arith}
use Rattle.std.proofs.lemmas.List.{append-nil}
use Rattle.jsa_base.specs.Reading.{◌>>=◌, Read, times}

-- ---- reading

-- what was read before, and what is still read
abbrev pub with_front : {A : Type 0} → List A → Read (List A) → Read (List A)
with_front front read = read >>= λ x. Some (front ++ x.0, x.1)

-- An item moves from what is read to what was read.
pub regroup : {A : Type 0} (front : List A) (n : A) (read : Read (List A)) → with_front front (read >>= λ x. Some (n ∷ x.0, x.1)) ≡ with_front (front ++ n ∷ []) read
regroup {A} front n (Some x) = ap (λ (ns : List A). Some (ns, x.1)) (simp append_assoc)
regroup front n None = refl

-- An item more was read.
pub goes_on : {A : Type 0} (item : List ℕ → Read A) (front : List A) (count i : ℕ) (bytes : List ℕ) (x : A) (after : List ℕ) (total : Read (List A)) → i < count → item bytes ≡ Some (x, after)
    → with_front front (times item (count - i) bytes) ≡ total → with_front (front ++ x ∷ []) (times item (count - (i + 1)) after) ≡ total
unfolding times
goes_on item front count i bytes x after total lt h so_far =
    let k : count - i ≡ suc (count - (i + 1)) = omega arith in
    let one : with_front front (times item (count - i) bytes) ≡ with_front (front ++ x ∷ []) (times item (count - (i + 1)) after) = rw (k, h) (regroup front x (times item (count - (i + 1)) after)) in
    sym one ∙ so_far

-- An item isn't there, so the list isn't.
pub stops : {A : Type 0} (item : List ℕ → Read A) (front : List A) (count i : ℕ) (bytes : List ℕ) (total : Read (List A)) → i < count → item bytes ≡ None
    → with_front front (times item (count - i) bytes) ≡ total → total ≡ None
unfolding times
stops item front count i bytes total lt h so_far =
    let k : count - i ≡ suc (count - (i + 1)) = omega arith in
    let one : with_front front (times item (count - i) bytes) ≡ None = rw (k, h) refl in
    sym so_far ∙ one

-- All items were read.
pub is_done : {A : Type 0} (item : List ℕ → Read A) (front : List A) (count i : ℕ) (bytes : List ℕ) (total : Read (List A)) → count ≤ i → with_front front (times item (count - i) bytes) ≡ total → total ≡ Some (front, bytes)
unfolding times
is_done {A} item front count i bytes total le so_far =
    let k : count - i ≡ 0 = omega arith in
    let one : with_front front (times item (count - i) bytes) ≡ Some (front, bytes) = rw k (ap (λ (ns : List A). Some (ns, bytes)) (append-nil front)) in
    sym so_far ∙ one
