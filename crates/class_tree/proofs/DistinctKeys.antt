-- Keys that were seen, and lists in which no key stands twice.
use Rattle.std.proofs.Common.{◌≡◌, ◌-◌, ◌≤◌, ◌<◌, Bool, true, false, not, ◌&&◌, ◌||◌, List, [], ◌∷◌, map, length, take, drop, get_or, Option, Some, None, refl, sym, ap, ◌∙◌, arith}
use Rattle.std.specs.declared.cmp.Ordering.{Ordering}
use Rattle.std.specs.List.{list_any}
use Rattle.std.proofs.lemmas.List.{take_all}
use Rattle.class_tree.specs.TextPlaces.{is_known, is_same_key}
use Rattle.class_tree.specs.WellFormed.{are_distinct}

-- no key is among those that were seen
abbrev pub are_new : {K : Type 0} → (K → Bool) → List (Option K) → Bool
are_new seen [] = true
are_new seen (key ∷ keys) = not (is_known seen key) && are_new seen keys

-- no key is among those that were seen, and none stands twice
abbrev pub tested : {K : Type 0} → (K → K → Ordering) → (K → Bool) → List (Option K) → Bool
tested compare seen keys = are_new seen keys && are_distinct (is_same_key compare) keys

pub begins : {K : Type 0} (compare : K → K → Ordering) (seen : K → Bool) (keys : List (Option K)) → ((k : K) → seen k ≡ false) → tested compare seen keys ≡ are_distinct (is_same_key compare) keys
begins {K} compare seen keys none = ap (λ (b : Bool). b && are_distinct (is_same_key compare) keys) (along keys) where
  unknown : (key : Option K) → is_known seen key ≡ false
  unknown (Some k) = none k
  unknown None = refl

  along : (ks : List (Option K)) → are_new seen ks ≡ true
  along [] = refl
  along (key ∷ ks) = rw (unknown key, along ks) refl

-- ---- one more key

-- What is known later is the key and what was known.
abbrev Adds : {K : Type 0} → (K → K → Ordering) → Option K → (K → Bool) → (K → Bool) → Type 0
Adds {K} compare key seen later = (k : K) → later k ≡ (is_same_key compare key (Some k) || seen k)

known_later : {K : Type 0} (compare : K → K → Ordering) (key : Option K) (seen later : K → Bool) (other : Option K) → Adds compare key seen later → is_known later other ≡ (is_same_key compare key other || is_known seen other)
known_later compare key seen later (Some k) adds = adds k
known_later compare (Some x) seen later None adds = refl
known_later compare None seen later None adds = refl

swap : (a b c d : Bool) → (not (a || b) && (not c && d)) ≡ (not (a || c) && (not b && d))
swap true b c d = refl
swap false true true d = refl
swap false true false d = refl
swap false false true d = refl
swap false false false d = refl

next : {K : Type 0} (compare : K → K → Ordering) (key : Option K) (seen later : K → Bool) (keys : List (Option K)) → Adds compare key seen later → are_new later keys ≡ (not (list_any (is_same_key compare key) keys) && are_new seen keys)
next compare key seen later [] adds = refl
next compare key seen later (other ∷ keys) adds =
    rw (known_later compare key seen later other adds, next compare key seen later keys adds) (swap (is_same_key compare key other) (is_known seen other) (list_any (is_same_key compare key) keys) (are_new seen keys))

shift : (p c x y : Bool) → p ≡ true → ((not c && x) && y) ≡ ((p && x) && (not c && y))
shift true true true y e = refl
shift true true false y e = refl
shift true false true y e = refl
shift true false false y e = refl
shift false c x y e = absurd cc

goes_on : {K : Type 0} (compare : K → K → Ordering) (key : Option K) (seen later : K → Bool) (keys : List (Option K)) → Adds compare key seen later → not (is_known seen key) ≡ true → tested compare later keys ≡ tested compare seen (key ∷ keys)
unfolding are_distinct
goes_on compare key seen later keys adds e =
    ap (λ (b : Bool). b && are_distinct (is_same_key compare) keys) (next compare key seen later keys adds)
    ∙ shift (not (is_known seen key)) (list_any (is_same_key compare key) keys) (are_new seen keys) (are_distinct (is_same_key compare) keys) e

stops : {K : Type 0} (compare : K → K → Ordering) (key : Option K) (seen : K → Bool) (keys : List (Option K)) → not (is_known seen key) ≡ false → false ≡ tested compare seen (key ∷ keys)
stops compare key seen keys e = rw e refl

-- ---- along the keys

pub after : {K : Type 0} (compare : K → K → Ordering) (rest : List (Option K)) (key : Option K) (seen later : K → Bool) (total : Bool) → 1 ≤ length rest → key ≡ get_or rest 0 key → Adds compare key seen later → true ≡ not (is_known seen key)
    → tested compare seen rest ≡ total → tested compare later (take (length rest - 1) (drop 1 rest)) ≡ total
after compare [] key seen later total long is adds e so_far = absurd (omega (arith, long))
after {K} compare (k ∷ ks) key seen later total long is adds e so_far =
    let same : k ≡ key = sym is in
    let count : length (k ∷ ks) - 1 ≡ length ks = omega arith in
    let whole : take (length (k ∷ ks) - 1) ks ≡ ks = take_all (length (k ∷ ks) - 1) ks (omega (arith, count)) in
    ap (tested compare later) whole
    ∙ goes_on compare key seen later ks adds (sym e)
    ∙ ap (λ (x : Option K). tested compare seen (x ∷ ks)) (sym same)
    ∙ so_far

pub stopped : {K : Type 0} (compare : K → K → Ordering) (rest : List (Option K)) (key : Option K) (seen : K → Bool) (total : Bool) → 1 ≤ length rest → key ≡ get_or rest 0 key → false ≡ not (is_known seen key) → tested compare seen rest ≡ total → false ≡ total
stopped compare [] key seen total long is e so_far = absurd (omega (arith, long))
stopped {K} compare (k ∷ ks) key seen total long is e so_far =
    let same : k ≡ key = sym is in
    stops compare k seen ks (ap (λ (x : Option K). not (is_known seen x)) same ∙ sym e) ∙ so_far

pub ended : {K : Type 0} (compare : K → K → Ordering) (rest : List (Option K)) (seen : K → Bool) (total : Bool) → length rest < 1 → tested compare seen rest ≡ total → true ≡ total
unfolding are_distinct
ended compare [] seen total short so_far = so_far
ended compare (k ∷ ks) seen total short so_far = absurd (omega (arith, short))

-- ---- keys of things

-- What is alike exactly where its keys are the same is distinct exactly where its keys are.
pub by_keys : {A K : Type 0} (compare : K → K → Ordering) (is_like : A → A → Bool) (key : A → Option K) (xs : List A) → ((x y : A) → is_like x y ≡ is_same_key compare (key x) (key y)) → are_distinct is_like xs ≡ are_distinct (is_same_key compare) (map key xs)
unfolding are_distinct
by_keys compare is_like key [] same = refl
by_keys {A} compare is_like key (x ∷ xs) same = rw (any xs, by_keys compare is_like key xs same) refl where
  any : (ys : List A) → list_any (is_like x) ys ≡ list_any (is_same_key compare (key x)) (map key ys)
  any [] = refl
  any (y ∷ ys) = rw (same x y, any ys) refl
