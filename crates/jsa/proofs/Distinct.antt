-- The names of a class list are distinct, and so are the classes that have them.
use Rattle.std.proofs.Common.{◌≡◌, ◌∙◌, ℕ, List, [], ◌∷◌, Bool, true, false, not, ◌&&◌, ◌||◌, filter, Option, refl, sym, ap, subst}
use Rattle.std.specs.List.{AllByRecursion}
use Rattle.std.specs.Str.{bytes_eq}
use Rattle.jsa_files.specs.Store.{Contents}
use Rattle.plain_classes.specs.declared.class.PlainClass.{PlainClass}
use Rattle.plain_classes.specs.Records.{is_among, are_distinct, names_of, IsNamed, IsRecord}
use Rattle.command_words.specs.ClassList.{distinct, listed_names, listed_once}
use Rattle.jsa.specs.Dumps.{HasClasses}

or_false : (a b : Bool) → (a || b) ≡ false → (a ≡ false) × (b ≡ false)
or_false true b h = absurd cc
or_false false b h = (refl, h)

and_true : (a b : Bool) → (a && b) ≡ true → (a ≡ true) × (b ≡ true)
and_true true b h = (refl, h)
and_true false b h = absurd cc

not_true : (a : Bool) → not a ≡ true → a ≡ false
not_true true h = absurd cc
not_true false h = refl

-- A name that isn't among some isn't among fewer.
not_among : (test : List ℕ → Bool) (name : List ℕ) (names : List (List ℕ)) → is_among name names ≡ false → is_among name (filter test names) ≡ false
not_among test name [] h = refl
not_among test name (n ∷ names) h =
    let k = or_false (bytes_eq name n) (is_among name names) h in
    by (test n) refl k.0 (not_among test name names k.1)
  where
    by : (t : Bool) → test n ≡ t → bytes_eq name n ≡ false → is_among name (filter test names) ≡ false → is_among name (filter test (n ∷ names)) ≡ false
    by true e f rest = rw e (rw f rest)
    by false e f rest = rw e rest

fewer : (test : List ℕ → Bool) (names : List (List ℕ)) → are_distinct names ≡ true → are_distinct (filter test names) ≡ true
fewer test [] h = refl
fewer test (n ∷ names) h =
    let k = and_true (not (is_among n names)) (are_distinct names) h in
    by (test n) refl (not_among test n names (not_true (is_among n names) k.0)) (fewer test names k.1)
  where
    by : (t : Bool) → test n ≡ t → is_among n (filter test names) ≡ false → are_distinct (filter test names) ≡ true → are_distinct (filter test (n ∷ names)) ≡ true
    by true e f rest = rw e (rw f rest)
    by false e f rest = rw e rest

is_gone : (name : List ℕ) (names : List (List ℕ)) → is_among name (filter (λ other. not (bytes_eq name other)) names) ≡ false
is_gone name [] = refl
is_gone name (n ∷ names) = by (bytes_eq name n) refl (is_gone name names)
  where
    by : (t : Bool) → bytes_eq name n ≡ t → is_among name (filter (λ other. not (bytes_eq name other)) names) ≡ false → is_among name (filter (λ other. not (bytes_eq name other)) (n ∷ names)) ≡ false
    by true e rest = rw e rest
    by false e rest = rw e (rw e rest)

distinct_is : (names : List (List ℕ)) → are_distinct (distinct names) ≡ true
distinct_is [] = refl
distinct_is (name ∷ names) = rw (is_gone name (distinct names)) (fewer (λ other. not (bytes_eq name other)) (distinct names) (distinct_is names))

-- ---- the classes

pub have_names : (contents : Option Contents) (folder : List ℕ) (names : List (List ℕ)) (classes : List PlainClass) → HasClasses contents folder names classes → names_of classes ≡ names
have_names contents folder [] [] h = refl
have_names contents folder [] (c ∷ classes) h = absurd h
have_names contents folder (n ∷ names) [] h = absurd h
have_names contents folder (n ∷ names) (c ∷ classes) h = ap (λ (x : List ℕ). x ∷ names_of classes) h.0.named ∙ ap (λ (l : List (List ℕ)). n ∷ l) (have_names contents folder names classes h.1)

pub are_records : (contents : Option Contents) (folder : List ℕ) (names : List (List ℕ)) (classes : List PlainClass) → HasClasses contents folder names classes → AllByRecursion IsRecord classes
are_records contents folder [] [] h = tt
are_records contents folder [] (c ∷ classes) h = absurd h
are_records contents folder (n ∷ names) [] h = absurd h
are_records contents folder (n ∷ names) (c ∷ classes) h = (subst (λ (x : List ℕ). IsNamed c.bytes x) (sym h.0.named) h.0.form, are_records contents folder names classes h.1)

pub are_listed_once : (contents : Option Contents) (folder bytes : List ℕ) (classes : List PlainClass) → HasClasses contents folder (listed_once bytes) classes → are_distinct (names_of classes) ≡ true
are_listed_once contents folder bytes classes h =
    subst (λ (l : List (List ℕ)). are_distinct l ≡ true) (sym (have_names contents folder (listed_once bytes) classes h)) (distinct_is (listed_names bytes))
