-- What the map knows of an entry's bytes, when a pool begins and as it grows.
use Rattle.std.proofs.Common.{◌≡◌, ℕ, ◌+◌, ◌≤◌, Bool, true, false, cond, List, [], ◌∷◌, length, length-append, Option, Some, None, refl, sym, ap, subst, ◌∙◌, arith}
use Rattle.std.specs.Cmp.Lexicographic.{nat_list_eq_equiv}
use Rattle.std.specs.Global.{Vec}
use Rattle.std.specs.HashMap.{HashMap, UpdatesBy}
use Rattle.std.specs.List.{position_from, AllByRecursion}
use Rattle.std.specs.Map.{lookup, IsKeyTest, AreApart, KeepsOthers}
use Rattle.std.specs.Option.{option_or}
use Rattle.std.specs.Str.{bytes_eq}
use Rattle.std.proofs.lemmas.Slice.Eq.{bytes_eq-Decides}
use Rattle.class_tree.specs.declared.constant_pool.PoolEntry.{PoolEntry}
use Rattle.class_tree.specs.declared.constant_pool.PoolEntry.TheVariants.{Unusable}
use Rattle.class_tree.specs.Entries.{entry, is_wide}
use Rattle.pool_builder.specs.Known.{known_at, first_written, Knows}
use Rattle.pool_builder.specs.Needs.{added}
use Rattle.pool_builder.proofs.Grown.{added_is}
use Rattle.pool_builder.proofs.Positions.{position-append}

-- ---- the map when bytes get an index

others : {K X : Type 0} (eq : K → K → Bool) (test other : K → Bool) (old new : List (K × X)) → KeepsOthers eq test old new → IsKeyTest eq other → AreApart test other → lookup other new ≡ lookup other old
unfolding KeepsOthers
others eq test other old new h one apart = h other one apart

apart : (key bytes k : List ℕ) → bytes_eq key bytes ≡ false → bytes_eq key k ≡ true → bytes_eq bytes k ≡ false
apart key bytes k n y = nat_list_eq_equiv.symm bytes k ∙ sym (nat_list_eq_equiv.congr key k bytes y) ∙ n

updated_by : {S : Type 0} (same : Bool) (key : Vec ℕ) (index : ℕ) (old new : HashMap (Vec ℕ) ℕ S) → UpdatesBy (λ x y. bytes_eq x.items y.items) (λ k. bytes_eq key.items k.items) old new (Some index)
    → (bytes : List ℕ) → bytes_eq key.items bytes ≡ same → known_at new bytes ≡ cond same (Some index) (known_at old bytes)
updated_by true key index old new h bytes e = subst (λ (b : List ℕ). known_at new b ≡ Some index) ((bytes_eq-Decides key.items bytes).0 e) h.1
updated_by false key index old new h bytes e =
    others (λ (x y : Vec ℕ). bytes_eq x.items y.items) (λ (k : Vec ℕ). bytes_eq key.items k.items) (λ (k : Vec ℕ). bytes_eq bytes k.items) old.entries new.entries h.3
    (λ x y. nat_list_eq_equiv.congr bytes x.items y.items) (λ k. apart key.items bytes k.items e)

pub updated : {S : Type 0} (key : Vec ℕ) (index : ℕ) (old new : HashMap (Vec ℕ) ℕ S) → UpdatesBy (λ x y. bytes_eq x.items y.items) (λ k. bytes_eq key.items k.items) old new (Some index)
    → (bytes : List ℕ) → known_at new bytes ≡ cond (bytes_eq key.items bytes) (Some index) (known_at old bytes)
updated key index old new h bytes = updated_by (bytes_eq key.items bytes) key index old new h bytes refl

-- ---- a pool that grows

-- Only an unusable index is written as no bytes.
no_unusable : (bytes : List ℕ) (n : ℕ) (rest : List PoolEntry) → AllByRecursion (λ r. r ≡ Unusable) rest → bytes_eq bytes [] ≡ false → position_from (λ e. bytes_eq bytes (entry e)) n rest ≡ None
no_unusable bytes n [] all e = refl
no_unusable bytes n (r ∷ rs) all e =
    ap (λ (f : PoolEntry). cond (bytes_eq bytes (entry f)) (Some n) (position_from (λ g. bytes_eq bytes (entry g)) (n + 1) rs)) all.0
    ∙ ap (λ (b : Bool). cond b (Some n) (position_from (λ g. bytes_eq bytes (entry g)) (n + 1) rs)) e
    ∙ no_unusable bytes (n + 1) rs all.1 e

-- Where other bytes are first written stays.
stays : (found : Option ℕ) (bytes : List ℕ) (n : ℕ) (rest : List PoolEntry) → AllByRecursion (λ r. r ≡ Unusable) rest → (found ≡ None → bytes_eq bytes [] ≡ false)
    → found ≡ option_or found (position_from (λ e. bytes_eq bytes (entry e)) n rest)
stays (Some k) bytes n rest all some = refl
stays None bytes n rest all some = sym (no_unusable bytes n rest all (some refl))

unlike : (bytes other : List ℕ) (found : List ℕ → Option ℕ) (k : ℕ) → found other ≡ Some k → found bytes ≡ None → bytes_eq bytes other ≡ false
unlike bytes other found k there missing = by (bytes_eq bytes other) refl
  where
    by : (b : Bool) → bytes_eq bytes other ≡ b → b ≡ false
    by true e = let same : found bytes ≡ found other = ap found ((bytes_eq-Decides bytes other).0 e) in absurd cc
    by false e = refl

-- What an entry adds at the end, of which bytes.
first_by : (same : Bool) (e : PoolEntry) (pool rest : List PoolEntry) (bytes : List ℕ) → AllByRecursion (λ r. r ≡ Unusable) rest → first_written (entry e) pool ≡ None → first_written [] pool ≡ Some 0 → bytes_eq (entry e) bytes ≡ same
    → cond same (Some (length pool)) (first_written bytes pool) ≡ option_or (first_written bytes pool) (cond (bytes_eq bytes (entry e)) (Some (length pool)) (position_from (λ f. bytes_eq bytes (entry f)) (length pool + 1) rest))
first_by true e pool rest bytes all fresh start same =
    let alike : entry e ≡ bytes = (bytes_eq-Decides (entry e) bytes).0 same in
    let none : first_written bytes pool ≡ None = ap (λ (b : List ℕ). first_written b pool) (sym alike) ∙ fresh in
    let here : bytes_eq bytes (entry e) ≡ true = (bytes_eq-Decides bytes (entry e)).1 (sym alike) in
    let more = position_from (λ f. bytes_eq bytes (entry f)) (length pool + 1) rest in
    sym (ap (λ (o : Option ℕ). option_or o (cond (bytes_eq bytes (entry e)) (Some (length pool)) more)) none ∙ ap (λ (b : Bool). cond b (Some (length pool)) more) here)
first_by false e pool rest bytes all fresh start same =
    let other : bytes_eq bytes (entry e) ≡ false = nat_list_eq_equiv.symm bytes (entry e) ∙ same in
    let more = position_from (λ f. bytes_eq bytes (entry f)) (length pool + 1) rest in
    stays (first_written bytes pool) bytes (length pool + 1) rest all (λ none. unlike bytes [] (λ (b : List ℕ). first_written b pool) 0 start none)
    ∙ ap (λ (b : Bool). option_or (first_written bytes pool) (cond b (Some (length pool)) more)) (sym other)

first_in_added : (e : PoolEntry) (pool : List PoolEntry) (bytes : List ℕ) → first_written (entry e) pool ≡ None → first_written [] pool ≡ Some 0
    → cond (bytes_eq (entry e) bytes) (Some (length pool)) (first_written bytes pool) ≡ first_written bytes (added pool e)
first_in_added e pool bytes fresh start =
    let a = added_is e pool in
    first_by (bytes_eq (entry e) bytes) e pool a.rest bytes a.unusable fresh start refl
    ∙ sym (position-append (λ f. bytes_eq bytes (entry f)) pool (e ∷ a.rest))
    ∙ ap (first_written bytes) (sym a.is)

small_by : (wide : Bool) (e : PoolEntry) (pool : List PoolEntry) (index : ℕ) → is_wide e ≡ wide → index ≡ length pool → index ≤ cond wide 65533 65534 → length (added pool e) ≤ 65535
small_by true e pool index w at h = rw w (omega (arith, length-append pool (e ∷ Unusable ∷ [])))
small_by false e pool index w at h = rw w (omega (arith, length-append pool (e ∷ [])))

pub knows_more : {S : Type 0} (old new : HashMap (Vec ℕ) ℕ S) (e : PoolEntry) (pool : List PoolEntry) (key : List ℕ) (index : ℕ) → Knows old pool → key ≡ entry e → index ≡ length pool → index ≤ cond (is_wide e) 65533 65534 → first_written key pool ≡ None
    → ((bytes : List ℕ) → known_at new bytes ≡ cond (bytes_eq key bytes) (Some index) (known_at old bytes)) → Knows new (added pool e)
knows_more old new e pool key index k written at room none notes =
    let fresh : first_written (entry e) pool ≡ None = ap (λ (b : List ℕ). first_written b pool) (sym written) ∙ none in
    let begun : first_written [] pool ≡ Some 0 = sym (k.known []) ∙ k.start in
    let other : bytes_eq key [] ≡ false = unlike key [] (λ (b : List ℕ). first_written b pool) 0 begun none in
    record {
      small = small_by (is_wide e) e pool index refl at room;
      start = notes [] ∙ ap (λ (b : Bool). cond b (Some index) (known_at old [])) other ∙ k.start;
      known = λ bytes. notes bytes
          ∙ ap (λ (b : List ℕ). cond (bytes_eq b bytes) (Some index) (known_at old bytes)) written
          ∙ ap (λ (n : ℕ). cond (bytes_eq (entry e) bytes) (Some n) (known_at old bytes)) at
          ∙ ap (λ (o : Option ℕ). cond (bytes_eq (entry e) bytes) (Some (length pool)) o) (k.known bytes)
          ∙ first_in_added e pool bytes fresh begun;
    }

-- ---- a map that stays

pub knows_still : {S : Type 0} (old new : HashMap (Vec ℕ) ℕ S) (pool : List PoolEntry) → Knows old pool → ((bytes : List ℕ) → known_at new bytes ≡ known_at old bytes) → Knows new pool
knows_still old new pool k same = record { small = k.small; start = same [] ∙ k.start; known = λ bytes. same bytes ∙ k.known bytes }
