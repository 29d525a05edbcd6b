-- Two texts of a pool are equal exactly where their places are.
use Rattle.std.proofs.Common.{rules, ◌≡◌, ℕ, zero, suc, ◌+◌, ◌≤◌, Bool, true, false, cond, List, [], ◌∷◌, map, slice_get, ◌&&◌, ◌==◌, Option, Some, None, refl, sym, ap, ◌∙◌, arith}
use Rattle.std.specs.declared.cmp.Ordering.{Ordering}
use Rattle.std.specs.Ordering.{is_eq, nat_cmp, ordering_then}
use Rattle.std.specs.Str.{bytes_eq}
use Rattle.std.specs.Cmp.{tied_then, unsigned_tied, unsigned_Decides}
use Rattle.std.proofs.Math.Bool.{and-false}
use Rattle.std.proofs.lemmas.Simd.{map-map}
use Rattle.std.proofs.lemmas.Slice.Eq.{bytes_eq-Decides}
use Rattle.jsa_base.proofs.Codecs.{some_is}
use Rattle.class_tree.specs.declared.constant_pool.PoolEntry.{PoolEntry}
use Rattle.class_tree.specs.declared.constant_pool.PoolEntry.TheVariants.{Class}
use Rattle.class_tree.specs.Links.{text_in, holds}
use Rattle.class_tree.specs.TextPlaces.{place_from, place_in, place_at, class_key, class_key_in, member_key, both, is_same_key, class_keys, member_keys}
use Rattle.class_tree.specs.WellFormed.{text_of, class_name_in, are_equal, is_like_class, is_like_member, are_distinct, NameAndDescriptor}
use Rattle.class_tree.proofs.DistinctKeys.{by_keys}

-- ---- a text that is there has a place

pick : (is : Bool) (n : ℕ) (later : Option ℕ) → (k : ℕ) × (later ≡ Some k) → (k : ℕ) × (cond is (Some n) later ≡ Some k)
pick true n later found = (n, refl)
pick false n later found = found

has_place : (es : List PoolEntry) (n : ℕ) (text : List ℕ) (i : ℕ) → text_in (slice_get es i) ≡ Some text → (k : ℕ) × (place_from es n text ≡ Some k)
has_place [] n text i h = absurd cc
has_place (e ∷ es) n text zero h =
    let is : holds (text_in (Some e)) (bytes_eq text) ≡ true = ap (λ (o : Option (List ℕ)). holds o (bytes_eq text)) h ∙ (bytes_eq-Decides text text).1 refl in
    (n, ap (λ (b : Bool). cond b (Some n) (place_from es (n + 1) text)) is)
has_place (e ∷ es) n text (suc i) h = pick (holds (text_in (Some e)) (bytes_eq text)) n (place_from es (n + 1) text) (has_place es (n + 1) text i h)

-- ---- one place has one text

lower : (is : Bool) (n k : ℕ) (later : Option ℕ) → (later ≡ Some k → n + 1 ≤ k) → cond is (Some n) later ≡ Some k → n ≤ k
lower true n k later behind h = omega (arith, some_is n k h)
lower false n k later behind h = omega (arith, behind h)

from : (es : List PoolEntry) (n : ℕ) (text : List ℕ) (k : ℕ) → place_from es n text ≡ Some k → n ≤ k
from [] n text k h = absurd cc
from (e ∷ es) n text k h = lower (holds (text_in (Some e)) (bytes_eq text)) n k (place_from es (n + 1) text) (from es (n + 1) text k) h

held : (o : Option (List ℕ)) (t u : List ℕ) → holds o (bytes_eq t) ≡ true → holds o (bytes_eq u) ≡ true → t ≡ u
held (Some x) t u is also = (bytes_eq-Decides t x).0 is ∙ sym ((bytes_eq-Decides u x).0 also)
held None t u is also = absurd cc

one_of : {P : Type 0} (is also : Bool) (n k : ℕ) (p q : Option ℕ) → (is ≡ true → also ≡ true → P) → (p ≡ Some k → n + 1 ≤ k) → (q ≡ Some k → n + 1 ≤ k) → (p ≡ Some k → q ≡ Some k → P)
    → cond is (Some n) p ≡ Some k → cond also (Some n) q ≡ Some k → P
one_of true true n k p q here after_p after_q there f g = here refl refl
one_of true false n k p q here after_p after_q there f g = absurd (omega (arith, some_is n k f, after_q g))
one_of false true n k p q here after_p after_q there f g = absurd (omega (arith, some_is n k g, after_p f))
one_of false false n k p q here after_p after_q there f g = there f g

one_text : (es : List PoolEntry) (n : ℕ) (t u : List ℕ) (k : ℕ) → place_from es n t ≡ Some k → place_from es n u ≡ Some k → t ≡ u
one_text [] n t u k f g = absurd cc
one_text (e ∷ es) n t u k f g =
    one_of (holds (text_in (Some e)) (bytes_eq t)) (holds (text_in (Some e)) (bytes_eq u)) n k (place_from es (n + 1) t) (place_from es (n + 1) u)
    (held (text_in (Some e)) t u) (from es (n + 1) t k) (from es (n + 1) u k) (one_text es (n + 1) t u k) f g

-- ---- texts and places

alike : (pool : List PoolEntry) (t u : List ℕ) (k l : ℕ) → place_from pool 0 t ≡ Some k → place_from pool 0 u ≡ Some l → bytes_eq t u ≡ is_eq (nat_cmp k l)
alike pool t u k l f g = decided (bytes_eq t u) (k == l) refl refl ∙ sym (unsigned_tied k l) where
  decided : (b c : Bool) → bytes_eq t u ≡ b → (k == l) ≡ c → b ≡ c
  decided true true e d = refl
  decided false false e d = refl
  decided true false e d =
      let same : k ≡ l = some_is k l (sym f ∙ ap (place_from pool 0) ((bytes_eq-Decides t u).0 e) ∙ g) in
      sym ((unsigned_Decides k l).1 same) ∙ d
  decided false true e d =
      let same : k ≡ l = (unsigned_Decides k l).0 d in
      sym e ∙ (bytes_eq-Decides t u).1 (one_text pool 0 t u l (f ∙ ap (λ (n : ℕ). Some n) same) g)

no_key : {K : Type 0} (compare : K → K → Ordering) (o : Option K) → false ≡ is_same_key compare o None
no_key compare (Some k) = refl
no_key compare None = refl

no_text : (pool : List PoolEntry) (a : Option (List ℕ)) → are_equal a None ≡ is_same_key nat_cmp (place_in pool a) None
no_text pool (Some t) = no_key nat_cmp (place_from pool 0 t)
no_text pool None = refl

compared : (pool : List PoolEntry) (i j : ℕ) (a b : Option (List ℕ)) → text_of pool i ≡ a → text_of pool j ≡ b → are_equal a b ≡ is_same_key nat_cmp (place_in pool a) (place_in pool b)
compared pool i j (Some t) (Some u) f g =
    let p = has_place pool 0 t i f in
    let q = has_place pool 0 u j g in
    rw (p.1, q.1) (alike pool t u p.0 q.0 p.1 q.1)
compared pool i j (Some t) None f g = no_text pool (Some t)
compared pool i j None b f g = refl

pub same_text : (pool : List PoolEntry) (i j : ℕ) → are_equal (text_of pool i) (text_of pool j) ≡ is_same_key nat_cmp (place_at pool i) (place_at pool j)
same_text pool i j = compared pool i j (text_of pool i) (text_of pool j) refl refl

-- ---- classes

-- the index of the text that an entry names, where it is a Class
abbrev name_in : Option PoolEntry → Option ℕ
name_in (Some (Class name)) = Some name
name_in _ = None

abbrev named_text : List PoolEntry → Option ℕ → Option (List ℕ)
named_text pool (Some name) = text_of pool name
named_text pool None = None

abbrev named_place : List PoolEntry → Option ℕ → Option ℕ
named_place pool (Some name) = place_at pool name
named_place pool None = None

text_is : (pool : List PoolEntry) (e : Option PoolEntry) → class_name_in pool e ≡ named_text pool (name_in e)
text_is pool e = search rules

place_is : (pool : List PoolEntry) (e : Option PoolEntry) → class_key_in pool e ≡ named_place pool (name_in e)
place_is pool e = search rules

named : (pool : List PoolEntry) (a b : Option ℕ) → are_equal (named_text pool a) (named_text pool b) ≡ is_same_key nat_cmp (named_place pool a) (named_place pool b)
named pool (Some i) (Some j) = same_text pool i j
named pool (Some i) None = no_text pool (text_of pool i)
named pool None b = refl

pub same_class : (pool : List PoolEntry) (i j : ℕ) → is_like_class pool i j ≡ is_same_key nat_cmp (class_key pool i) (class_key pool j)
same_class pool i j = rw (text_is pool (slice_get pool i), text_is pool (slice_get pool j), place_is pool (slice_get pool i), place_is pool (slice_get pool j)) (named pool (name_in (slice_get pool i)) (name_in (slice_get pool j)))

-- ---- members

abbrev pub pair_cmp : ℕ × ℕ → ℕ × ℕ → Ordering
pair_cmp x y = ordering_then (nat_cmp x.0 y.0) (nat_cmp x.1 y.1)

pairs : (a b c d : Option ℕ) → (is_same_key nat_cmp a c && is_same_key nat_cmp b d) ≡ is_same_key pair_cmp (both a b) (both c d)
pairs (Some a) (Some b) (Some c) (Some d) = tied_then (nat_cmp a c) (nat_cmp b d)
pairs (Some a) (Some b) (Some c) None = and-false (is_eq (nat_cmp a c))
pairs (Some a) (Some b) None d = refl
pairs (Some a) None c d = and-false (is_same_key nat_cmp (Some a) c)
pairs None b c d = refl

pub same_member : (pool : List PoolEntry) (m n : NameAndDescriptor) → is_like_member pool m n ≡ is_same_key pair_cmp (member_key pool m) (member_key pool n)
same_member pool m n = rw (same_text pool m.0 n.0, same_text pool m.1 n.1) (pairs (place_at pool m.0) (place_at pool m.1) (place_at pool n.0) (place_at pool n.1))

-- ---- distinct by their keys

pub classes_by_keys : (pool : List PoolEntry) (classes : List ℕ) → are_distinct (is_like_class pool) classes ≡ are_distinct (is_same_key nat_cmp) (class_keys pool classes)
unfolding class_keys
classes_by_keys pool classes = by_keys nat_cmp (is_like_class pool) (class_key pool) classes (same_class pool)

pub members_by_keys : {A : Type 0} (pool : List PoolEntry) (member : A → NameAndDescriptor) (xs : List A) → are_distinct (is_like_member pool) (map member xs) ≡ are_distinct (is_same_key pair_cmp) (member_keys pool member xs)
unfolding member_keys
members_by_keys pool member xs =
    by_keys pair_cmp (is_like_member pool) (member_key pool) (map member xs) (same_member pool)
    ∙ ap (are_distinct (is_same_key pair_cmp)) (map-map (member_key pool) member xs)
