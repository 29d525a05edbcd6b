-- Names that were seen, and lists in which no name stands twice.
use Rattle.std.proofs.Common.{◌≡◌, ℕ, ◌-◌, ◌≤◌, Bool, true, false, not, ◌&&◌, ◌||◌, cond, List, [], ◌∷◌, length, take, drop, get_or, Bor, refl, sym, ap, ◌∙◌, arith}
use Rattle.std.specs.declared.cmp.Ordering.{Ordering}
use Rattle.std.specs.Ordering.{nat_cmp}
use Rattle.std.specs.List.{list_any}
use Rattle.std.specs.BTreeMap.{is_at}
use Rattle.std.specs.Cmp.Lexicographic.{slice_cmp}
use Rattle.std.specs.Str.{bytes_eq}
use Rattle.std.specs.BTreeSet.{BTreeSet, contains, Updates}
use Rattle.std.proofs.lemmas.List.{take_all}
use Rattle.std.proofs.lemmas.Map.Text.{is_eq-slice_cmp}
use Rattle.plain_classes.specs.declared.class.PlainClass.{PlainClass}
use Rattle.plain_classes.specs.Records.{names_of, is_among, borrowed, are_distinct}

-- none of the names is among those that were seen
abbrev pub are_new : List (List ℕ) → List (List ℕ) → Bool
are_new seen [] = true
are_new seen (n ∷ names) = not (is_among n seen) && are_new seen names

abbrev compared : Bor (List ℕ) → Bor (List ℕ) → Ordering
compared x y = slice_cmp nat_cmp x.now y.now

pub among_keys : (n : Bor (List ℕ)) (s : BTreeSet (Bor (List ℕ))) → contains compared s n ≡ is_among n.now (borrowed s.keys)
among_keys n s = along s.keys where
  along : (ks : List (Bor (List ℕ))) → list_any (is_at (compared n)) ks ≡ is_among n.now (borrowed ks)
  along [] = refl
  along (k ∷ ks) = rw (is_eq-slice_cmp n.now k.now, along ks) refl

either : (a b : Bool) → cond a true b ≡ (a || b)
either true b = refl
either false b = refl

pub seen_is : (old new : BTreeSet (Bor (List ℕ))) (name : Bor (List ℕ)) → Updates compared old new name true → (n : List ℕ) → is_among n (borrowed new.keys) ≡ (bytes_eq name.now n || is_among n (borrowed old.keys))
seen_is old new name updates n =
    let q : Bor (List ℕ) = record { ref_ptr = name.ref_ptr; now = n } in
    sym (among_keys q new) ∙ updates.0 q ∙ rw (is_eq-slice_cmp name.now n, among_keys q old) (either (bytes_eq name.now n) (is_among n (borrowed old.keys)))

-- ---- one more name

swap : (a b c d : Bool) → (not (a || b) && (not c && d)) ≡ (not (a || c) && (not b && d))
swap true b c d = refl
swap false true true d = refl
swap false true false d = refl
swap false false true d = refl
swap false false false d = refl

next : (name : List ℕ) (seen later names : List (List ℕ)) → ((n : List ℕ) → is_among n later ≡ (bytes_eq name n || is_among n seen)) → are_new later names ≡ (not (is_among name names) && are_new seen names)
next name seen later [] h = refl
next name seen later (m ∷ names) h = rw (h m, next name seen later names h) (swap (bytes_eq name m) (is_among m seen) (is_among name names) (are_new seen names))

shift : (p c x y : Bool) → p ≡ true → ((not c && x) && y) ≡ ((p && x) && (not c && y))
shift true true true y e = refl
shift true true false y e = refl
shift true false true y e = refl
shift true false false y e = refl
shift false c x y e = absurd cc

pub goes_on : (name : List ℕ) (seen later names : List (List ℕ)) → ((n : List ℕ) → is_among n later ≡ (bytes_eq name n || is_among n seen)) → not (is_among name seen) ≡ true
    → (are_new later names && are_distinct names) ≡ (are_new seen (name ∷ names) && are_distinct (name ∷ names))
goes_on name seen later names h e =
    ap (λ (b : Bool). b && are_distinct names) (next name seen later names h) ∙ shift (not (is_among name seen)) (is_among name names) (are_new seen names) (are_distinct names) e

pub stops : (name : List ℕ) (seen names : List (List ℕ)) → not (is_among name seen) ≡ false → false ≡ (are_new seen (name ∷ names) && are_distinct (name ∷ names))
stops name seen names e = rw e refl

pub begins : (names : List (List ℕ)) → are_new [] names ≡ true
begins [] = refl
begins (n ∷ names) = begins names

-- ---- along the classes

abbrev tested : List (List ℕ) → List (List ℕ) → Bool
tested seen names = are_new seen names && are_distinct names

pub after : (rest : List PlainClass) (first : PlainClass) (seen later : List (List ℕ)) (total : Bool) → 1 ≤ length rest → first ≡ get_or rest 0 first → ((n : List ℕ) → is_among n later ≡ (bytes_eq first.name n || is_among n seen)) → true ≡ not (is_among first.name seen)
    → tested seen (names_of rest) ≡ total → tested later (names_of (take (length rest - 1) (drop 1 rest))) ≡ total
after [] first seen later total long is h e so_far = absurd (omega (arith, long))
after (c ∷ cs) first seen later total long is h e so_far =
    let same : c ≡ first = sym is in
    let count : length (c ∷ cs) - 1 ≡ length cs = omega arith in
    let whole : take (length (c ∷ cs) - 1) cs ≡ cs = take_all (length (c ∷ cs) - 1) cs (omega (arith, count)) in
    let name : first.name ≡ c.name = ap (λ (x : PlainClass). x.name) (sym same) in
    ap (λ (xs : List PlainClass). tested later (names_of xs)) whole
    ∙ goes_on c.name seen later (names_of cs) (λ n. h n ∙ ap (λ (m : List ℕ). bytes_eq m n || is_among n seen) name) (sym (e ∙ ap (λ (m : List ℕ). not (is_among m seen)) name))
    ∙ so_far

pub stopped : (rest : List PlainClass) (first : PlainClass) (seen : List (List ℕ)) (total : Bool) → 1 ≤ length rest → first ≡ get_or rest 0 first → false ≡ not (is_among first.name seen) → tested seen (names_of rest) ≡ total → false ≡ total
stopped [] first seen total long is e so_far = absurd (omega (arith, long))
stopped (c ∷ cs) first seen total long is e so_far =
    let same : c ≡ first = sym is in
    stops c.name seen (names_of cs) (ap (λ (x : PlainClass). not (is_among x.name seen)) same ∙ sym e) ∙ so_far
