-- The places of the texts of a pool, and that they tell texts apart.
use Rattle.std.proofs.Common.{◌≡◌, ℕ, ◌+◌, ◌-◌, ◌≤◌, ◌<◌, Bool, true, false, cond, List, [], ◌∷◌, ◌++◌, map, length, take, drop, get_or, slice_get, Option, Some, None, Bor, BTreeMap, refl, sym, subst, ap, ◌∙◌, arith}
use Rattle.std.specs.Option.{option_map, option_or}
use Rattle.std.specs.Ordering.{nat_cmp}
use Rattle.std.specs.Str.{bytes_eq}
use Rattle.std.specs.Cmp.Lexicographic.{slice_cmp}
use Rattle.std.specs.BTreeMap.{Updates, is_at}
use Rattle.std.specs.Map.{lookup}
use Rattle.std.proofs.lemmas.List.{take_all, append_assoc, append-nil, length-append}
use Rattle.std.proofs.lemmas.Map.Text.{btree_map_updates_str}
use Rattle.std.proofs.lemmas.Option.{slice_get-map}
use Rattle.std.proofs.lemmas.Slice.Eq.{bytes_eq-Decides}
use Rattle.jsa_base.proofs.Codecs.{some_is}
use Rattle.class_tree.specs.declared.constant_pool.PoolEntry.{PoolEntry}
use Rattle.class_tree.specs.Links.{text_in, holds}
use Rattle.class_tree.specs.TextPlaces.{place_from, place_in, place_at, entry_place, all_places, known_at, place_among}

-- ---- two texts

bytes_are : (t u : List ℕ) → bytes_eq t u ≡ true → t ≡ u
bytes_are t u e = (bytes_eq-Decides t u).0 e

same_bytes : (t u : List ℕ) → t ≡ u → bytes_eq t u ≡ true
same_bytes t u e = (bytes_eq-Decides t u).1 e

turned : (t u : List ℕ) → bytes_eq t u ≡ bytes_eq u t
turned t u =
    elim (bytes_eq t u) as (λ b. bytes_eq t u ≡ b → b ≡ bytes_eq u t) [
      | true ↦ λ e. sym (same_bytes u t (sym (bytes_are t u e)))
      | false ↦ λ e. elim (bytes_eq u t) as (λ c. bytes_eq u t ≡ c → false ≡ c) [
        | true ↦ λ f. sym e ∙ same_bytes t u (sym (bytes_are u t f))
        | false ↦ λ f. refl
      ] refl
    ] refl

-- ---- the map of what is known

known_now : (known : Option ℕ) (is : Bool) (next : ℕ) → (is ≡ true → known ≡ None) → cond is (Some next) known ≡ option_or known (cond is (Some next) None)
known_now (Some k) true next none = let e : Some k ≡ None = none refl in absurd cc
known_now (Some k) false next none = refl
known_now None is next none = refl

-- what a map that lacked a text knows when it has it
pub learned : (old new : BTreeMap (Bor (List ℕ)) ℕ) (text : Bor (List ℕ)) (next : ℕ) → Updates (λ x y. slice_cmp nat_cmp x.now y.now) old new text (Some next) → known_at old text.now ≡ None
    → (t : List ℕ) → known_at new t ≡ option_or (known_at old t) (cond (bytes_eq t text.now) (Some next) None)
learned old new text next updates none t =
    btree_map_updates_str text.now old new (Some next) updates t
    ∙ known_now (known_at old t) (bytes_eq text.now t) next (λ e. ap (known_at old) (sym (bytes_are text.now t e)) ∙ none)
    ∙ ap (λ (b : Bool). option_or (known_at old t) (cond b (Some next) None)) (turned text.now t)

-- ---- along the entries

-- The places so far are those of a front of the pool, and the rest follows. What is known of a text, or else what the
-- rest gives, is what the pool gives.
pub record Stand (pool : List PoolEntry) (known : List ℕ → Option ℕ) (places : List (Option ℕ)) (rest : List PoolEntry) : Type 0 where
  pub whole : places ++ map (entry_place pool) rest ≡ map (entry_place pool) pool
  pub told : (t : List ℕ) → option_or (known t) (place_from rest (length places) t) ≡ place_from pool 0 t

pub begin : (pool : List PoolEntry) (known : BTreeMap (Bor (List ℕ)) ℕ) (places : List (Option ℕ)) → known.entries ≡ [] → places ≡ [] → Stand pool (known_at known) places pool
begin pool known places unknown none = record {
  whole = ap (λ (ps : List (Option ℕ)). ps ++ map (entry_place pool) pool) none;
  told = λ t. ap (λ (es : List (Bor (List ℕ) × ℕ)). option_or (lookup (is_at (λ (k : Bor (List ℕ)). slice_cmp nat_cmp t k.now)) es) (place_from pool (length places) t)) unknown
      ∙ ap (λ (ps : List (Option ℕ)). place_from pool (length ps) t) none;
}

-- the place of a text of which the rest gives the next place
placed : (pool : List PoolEntry) (known : List ℕ → Option ℕ) (next : ℕ) (text : Option (List ℕ)) (later : List ℕ → Option ℕ) → ((t : List ℕ) → option_or (known t) (cond (holds text (bytes_eq t)) (Some next) (later t)) ≡ place_from pool 0 t)
    → place_among known next text ≡ place_in pool text
placed pool known next None later told = refl
placed pool known next (Some t) later told = ap (λ (b : Bool). option_or (known t) (cond b (Some next) (later t))) (sym (same_bytes t t refl)) ∙ told t

carried : (known : Option ℕ) (is : Bool) (next : ℕ) (later : Option ℕ) → option_or (option_or known (cond is (Some next) None)) later ≡ option_or known (cond is (Some next) later)
carried (Some k) is next later = refl
carried None true next later = refl
carried None false next later = refl

-- What is known later is the text of the entry, at this place, and what was known.
abbrev Learns : PoolEntry → ℕ → (List ℕ → Option ℕ) → (List ℕ → Option ℕ) → Type 0
Learns e next known later = (t : List ℕ) → later t ≡ option_or (known t) (cond (holds (text_in (Some e)) (bytes_eq t)) (Some next) None)

goes_on : (pool : List PoolEntry) (known later : List ℕ → Option ℕ) (places : List (Option ℕ)) (e : PoolEntry) (es : List PoolEntry) → Learns e (length places) known later → Stand pool known places (e ∷ es)
    → Stand pool later (places ++ place_among known (length places) (text_in (Some e)) ∷ []) es
goes_on pool known later places e es learns s = record {
  whole = ap (λ (p : Option ℕ). (places ++ p ∷ []) ++ map (entry_place pool) es) (placed pool known (length places) (text_in (Some e)) (place_from es (length places + 1)) s.told)
      ∙ append_assoc places (entry_place pool e ∷ []) (map (entry_place pool) es) ∙ s.whole;
  told = λ t. ap (λ (n : ℕ). option_or (later t) (place_from es n t)) (length-append places (place_among known (length places) (text_in (Some e)) ∷ []))
      ∙ ap (λ (o : Option ℕ). option_or o (place_from es (length places + 1) t)) (learns t)
      ∙ carried (known t) (holds (text_in (Some e)) (bytes_eq t)) (length places) (place_from es (length places + 1) t)
      ∙ s.told t;
}

pub after : (pool : List PoolEntry) (known later : List ℕ → Option ℕ) (places : List (Option ℕ)) (rest : List PoolEntry) (entry : PoolEntry) (next : ℕ) (place : Option ℕ) → 1 ≤ length rest → entry ≡ get_or rest 0 entry → next ≡ length places
    → place ≡ place_among known next (text_in (Some entry)) → Learns entry next known later → Stand pool known places rest → Stand pool later (places ++ place ∷ []) (take (length rest - 1) (drop 1 rest))
after pool known later places [] entry next place long is at found learns s = absurd (omega (arith, long))
after pool known later places (e ∷ es) entry next place long is at found learns s =
    let same : e ≡ entry = sym is in
    let count : length (e ∷ es) - 1 ≡ length es = omega arith in
    let whole : take (length (e ∷ es) - 1) es ≡ es = take_all (length (e ∷ es) - 1) es (omega (arith, count)) in
    let here : place_among known (length places) (text_in (Some e)) ≡ place = ap (λ (x : PoolEntry). place_among known (length places) (text_in (Some x))) same ∙ ap (λ (n : ℕ). place_among known n (text_in (Some entry))) (sym at) ∙ sym found in
    let learnt : Learns e (length places) known later = subst (λ (x : PoolEntry). Learns x (length places) known later) (sym same) (subst (λ (n : ℕ). Learns entry n known later) at learns) in
    subst (λ (r : List PoolEntry). Stand pool later (places ++ place ∷ []) r) (sym whole)
    (subst (λ (p : Option ℕ). Stand pool later (places ++ p ∷ []) es) here (goes_on pool known later places e es learnt s))

pub ended : (pool : List PoolEntry) (known : List ℕ → Option ℕ) (places : List (Option ℕ)) (rest : List PoolEntry) → length rest < 1 → Stand pool known places rest → places ≡ all_places pool
unfolding all_places
ended pool known places [] short s = sym (append-nil places) ∙ s.whole
ended pool known places (e ∷ es) short s = absurd (omega (arith, short))

-- ---- the place at an index

in_place : (pool : List PoolEntry) (places : List (Option ℕ)) (i : ℕ) (found : Option (Option ℕ)) → places ≡ all_places pool → slice_get places i ≡ found → option_map (entry_place pool) (slice_get pool i) ≡ found
unfolding all_places
in_place pool places i found is h = sym (slice_get-map (entry_place pool) pool i) ∙ ap (λ (ps : List (Option ℕ)). slice_get ps i) (sym is) ∙ h

mapped : (pool : List PoolEntry) (e : Option PoolEntry) (found : Option ℕ) → option_map (entry_place pool) e ≡ Some found → found ≡ place_in pool (text_in e)
mapped pool (Some e) found h = sym (some_is (entry_place pool e) found h)
mapped pool None found h = absurd cc

unmapped : (pool : List PoolEntry) (e : Option PoolEntry) → option_map (entry_place pool) e ≡ None → None ≡ place_in pool (text_in e)
unmapped pool (Some e) h = absurd cc
unmapped pool None h = refl

pub is_found : (pool : List PoolEntry) (places : List (Option ℕ)) (i : ℕ) (found : Option ℕ) → places ≡ all_places pool → slice_get places i ≡ Some found → found ≡ place_at pool i
is_found pool places i found is h = mapped pool (slice_get pool i) found (in_place pool places i (Some found) is h)

pub is_missing : (pool : List PoolEntry) (places : List (Option ℕ)) (i : ℕ) → places ≡ all_places pool → slice_get places i ≡ None → None ≡ place_at pool i
is_missing pool places i is h = unmapped pool (slice_get pool i) (in_place pool places i None is h)
