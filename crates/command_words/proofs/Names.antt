-- The names of a class list, each once.
use Rattle.std.proofs.Common.{◌≡◌, ◌==◌, arith, length, take, zero, suc, ℕ, List, [], ◌∷◌, ◌++◌, Bool, true, false, not, ◌&&◌, ◌||◌, cond, filter, map, Option, Some, None, refl, sym, ap, ◌∙◌, subst, append_assoc, true≢false}
use Rattle.std.specs.List.{cons_option, filter_map, list_any}
use Rattle.std.proofs.lemmas.List.Folds.{list_any-append}
use Rattle.std.proofs.lemmas.List.{append-nil}
use Rattle.std.specs.Str.{bytes_eq}
use Rattle.std.proofs.lemmas.Slice.Eq.{bytes_eq-Decides}
use Rattle.std.specs.Prelude.{slice_index}
use denote.Ref.{Bor}
use Rattle.std.proofs.lemmas.List.{map_push}
use Rattle.indexmap.specs.IndexSet.{insert_key}
use Rattle.bstr.specs.Find.{NoneBefore, Nowhere, Passes, is_byte}
use Rattle.command_words.specs.ClassList.{before_space, listed_name, distinct, added}

-- the names that are gathered from lines behind others
unfoldable pub gathered : List (List ℕ) → List (List ℕ) → List (List ℕ)
gathered names [] = names
gathered names (line ∷ lines) = gathered (added names (listed_name line)) lines

-- whether a name is none of these
abbrev is_new : List (List ℕ) → List ℕ → Bool
is_new names name = not (list_any (bytes_eq name) names)

-- ---- filters

filter_twice : {A : Type 0} (p q : A → Bool) (xs : List A) → filter p (filter q xs) ≡ filter (λ x. q x && p x) xs
filter_twice p q [] = refl
filter_twice {A} p q (x ∷ xs) = by (q x) refl (filter_twice p q xs)
  where
    by : (t : Bool) → q x ≡ t → filter p (filter q xs) ≡ filter (λ x. q x && p x) xs → filter p (filter q (x ∷ xs)) ≡ filter (λ x. q x && p x) (x ∷ xs)
    by true e rest = rw e (ap (λ (l : List A). cond (p x) (x ∷ l) l) rest)
    by false e rest = rw e rest

filter_same : {A : Type 0} (p q : A → Bool) → ((x : A) → p x ≡ q x) → (xs : List A) → filter p xs ≡ filter q xs
filter_same p q h [] = refl
filter_same {A} p q h (x ∷ xs) = rw (h x) (ap (λ (l : List A). cond (q x) (x ∷ l) l) (filter_same p q h xs))

filter_all : {A : Type 0} (xs : List A) → filter (λ x. true) xs ≡ xs
filter_all [] = refl
filter_all {A} (x ∷ xs) = ap (λ (l : List A). x ∷ l) (filter_all xs)

-- ---- names that are added

same_or_new : (names : List (List ℕ)) (name other : List ℕ) (t : Bool) → list_any (bytes_eq name) names ≡ true → bytes_eq name other ≡ t → (not t && is_new names other) ≡ is_new names other
same_or_new names name other false h e = refl
same_or_new names name other true h e = let same : name ≡ other = (bytes_eq-Decides name other).0 e in let there : list_any (bytes_eq other) names ≡ true = subst (λ (n : List ℕ). list_any (bytes_eq n) names ≡ true) same h in sym (ap not there)

not_or : (a b : Bool) → (not b && not a) ≡ not (a || b)
not_or true true = refl
not_or true false = refl
not_or false true = refl
not_or false false = refl

flip_eq : (a b : List ℕ) → bytes_eq a b ≡ bytes_eq b a
flip_eq a b = by (bytes_eq a b) refl
  where
    by : (t : Bool) → bytes_eq a b ≡ t → bytes_eq a b ≡ bytes_eq b a
    by true e = e ∙ sym ((bytes_eq-Decides b a).1 (sym ((bytes_eq-Decides a b).0 e)))
    by false e = e ∙ other (bytes_eq b a) refl
      where
        other : (t : Bool) → bytes_eq b a ≡ t → false ≡ bytes_eq b a
        other true q = absurd (true≢false (sym ((bytes_eq-Decides a b).1 (sym ((bytes_eq-Decides b a).0 q))) ∙ e))
        other false q = sym q

or_false : (a : Bool) → (a || false) ≡ a
or_false true = refl
or_false false = refl

new_behind : (names : List (List ℕ)) (name other : List ℕ) → (not (bytes_eq name other) && is_new names other) ≡ is_new (names ++ name ∷ []) other
new_behind names name other =
    not_or (list_any (bytes_eq other) names) (bytes_eq name other)
    ∙ ap (λ (b : Bool). not (list_any (bytes_eq other) names || b)) (flip_eq name other ∙ sym (or_false (bytes_eq other name)))
    ∙ sym (ap not (list_any-append (bytes_eq other) names (name ∷ [])))

-- what is gathered behind names: the others' first ones that are new
abbrev pub behind_names : List (List ℕ) → List (List ℕ) → List (List ℕ)
behind_names names others = names ++ filter (is_new names) (distinct others)

added_is : (names : List (List ℕ)) (name : List ℕ) (others : List (List ℕ)) → behind_names (added names (Some name)) others ≡ behind_names names (name ∷ others)
added_is names name others = by (list_any (bytes_eq name) names) refl
  where
    twice : filter (is_new names) (filter (λ other. not (bytes_eq name other)) (distinct others)) ≡ filter (λ other. not (bytes_eq name other) && is_new names other) (distinct others)
    twice = filter_twice (is_new names) (λ other. not (bytes_eq name other)) (distinct others)

    by : (t : Bool) → list_any (bytes_eq name) names ≡ t → behind_names (added names (Some name)) others ≡ behind_names names (name ∷ others)
    by true e = rw e (sym (ap (λ (l : List (List ℕ)). names ++ l) (twice ∙ filter_same _ (is_new names) (λ other. same_or_new names name other (bytes_eq name other) e refl) (distinct others))))
    by false e = rw e (append_assoc names (name ∷ []) _ ∙ sym (ap (λ (l : List (List ℕ)). names ++ name ∷ l) (twice ∙ filter_same _ (is_new (names ++ name ∷ [])) (new_behind names name) (distinct others))))

gathered_is : (lines names : List (List ℕ)) → gathered names lines ≡ behind_names names (filter_map listed_name lines)
unfolding gathered
gathered_is [] names = sym (append-nil names)
gathered_is (line ∷ lines) names = gathered_is lines (added names (listed_name line)) ∙ by (listed_name line)
  where
    by : (o : Option (List ℕ)) → behind_names (added names o) (filter_map listed_name lines) ≡ behind_names names (cons_option o (filter_map listed_name lines))
    by None = refl
    by (Some name) = added_is names name (filter_map listed_name lines)

pub gathered_all : (lines : List (List ℕ)) → gathered [] lines ≡ distinct (filter_map listed_name lines)
gathered_all lines = gathered_is lines [] ∙ filter_all (distinct (filter_map listed_name lines))

-- ---- a line up to its first space

not_true : (t : Bool) → ¬ (t ≡ true) → t ≡ false
not_true true h = absurd (h refl)
not_true false h = refl

pub cut_at : (line : List ℕ) (k : ℕ) → NoneBefore (Passes (is_byte 32) line) 0 (length line) k → (slice_index line k == 32) ≡ true → take k line ≡ before_space line
cut_at [] k none at = absurd (omega (arith, none.high))
cut_at (b ∷ line) zero none at = sym (ap (λ (t : Bool). cond t [] (b ∷ before_space line)) at)
cut_at (b ∷ line) (suc k) none at =
    let here : (b == 32) ≡ false = not_true (b == 32) (none.before 0 (omega arith) (omega arith)) in
    let shorter : NoneBefore (Passes (is_byte 32) line) 0 (length line) k = record { low = omega arith; high = omega (arith, none.high); before = λ j l h. none.before (suc j) (omega arith) (omega (arith, h)) } in
    ap (λ (l : List ℕ). b ∷ l) (cut_at line k shorter at) ∙ sym (ap (λ (t : Bool). cond t [] (b ∷ before_space line)) here)

pub not_cut : (line : List ℕ) → Nowhere (Passes (is_byte 32) line) 0 (length line) → line ≡ before_space line
not_cut [] none = refl
not_cut (b ∷ line) none =
    let here : (b == 32) ≡ false = not_true (b == 32) (none 0 (omega arith) (omega arith)) in
    ap (λ (l : List ℕ). b ∷ l) (not_cut line (λ j l h. none (suc j) (omega arith) (omega (arith, h)))) ∙ sym (ap (λ (t : Bool). cond t [] (b ∷ before_space line)) here)

-- ---- a set of names

any_key : (name : List ℕ) (keys : List (Bor (List ℕ))) → list_any (λ k. bytes_eq name k.now) keys ≡ list_any (bytes_eq name) (map (λ k. k.now) keys)
any_key name [] = refl
any_key name (k ∷ keys) = ap (λ (b : Bool). bytes_eq name k.now || b) (any_key name keys)

pub key_added : (keys : List (Bor (List ℕ))) (name : Bor (List ℕ)) → map (λ k. k.now) (insert_key (λ x y. bytes_eq x.now y.now) keys name) ≡ added (map (λ k. k.now) keys) (Some name.now)
key_added keys name = by (list_any (λ k. bytes_eq name.now k.now) keys) refl
  where
    by : (t : Bool) → list_any (λ k. bytes_eq name.now k.now) keys ≡ t → map (λ k. k.now) (insert_key (λ x y. bytes_eq x.now y.now) keys name) ≡ added (map (λ k. k.now) keys) (Some name.now)
    by true e = rw (e, sym (any_key name.now keys) ∙ e) refl
    by false e = rw (e, sym (any_key name.now keys) ∙ e) (map_push (λ k. k.now) keys name)

-- ---- the loop over the lines

pub gathered_more : (names : List (List ℕ)) (line : List ℕ) (lines : List (List ℕ)) → gathered (added names (listed_name line)) lines ≡ gathered names (line ∷ lines)
unfolding gathered
gathered_more names line lines = refl

pub gathered_end : (names : List (List ℕ)) → names ≡ gathered names []
unfolding gathered
gathered_end names = refl
