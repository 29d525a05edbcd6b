-- What is needed of a pool that is built so leaves one.
use Rattle.std.proofs.Common.{◌≡◌, ℕ, zero, suc, ◌+◌, ◌<◌, ◌≤◌, Bool, true, false, cond, List, [], ◌∷◌, ◌++◌, length, length-append, position, slice_get, nat_lt, Option, Some, None, ◌⊎◌, inl, inr, refl, sym, ap, subst, ◌∙◌, arith}
use Rattle.std.specs.Bool.{IsTrue}
use Rattle.std.specs.List.{AllByRecursion}
use Rattle.std.proofs.lemmas.Bool.{ltb-false}
use Rattle.std.proofs.lemmas.Option.{slice_get_within}
use Rattle.jsa_base.specs.Reading.{◌>>=◌}
use Rattle.jsa_base.proofs.Codecs.{bind_some, some_is}
use Rattle.class_tree.specs.declared.constant_pool.PoolEntry.{PoolEntry}
use Rattle.class_tree.specs.declared.constant_pool.PoolEntry.TheVariants.{Unusable, Utf8, Integer, Float, Long, Double, Class, Str, Fieldref, Methodref, InterfaceMethodref, NameAndType, MethodHandle, MethodType, InvokeDynamic}
use Rattle.class_tree.specs.Entries.{entry}
use Rattle.pool_builder.specs.Laws.{is_usable, StandOnce, parts, PartsStandFirst, IsBuilt}
use Rattle.pool_builder.specs.Needs.{is_same, added, within, held_or, needed, utf8_needed, class_needed, string_needed, name_and_type_needed, parts_needed, field_needed, method_needed, interface_method_needed}
use Rattle.pool_builder.proofs.Grown.{Held, Put, at_index, parted, within_room, needed_cases}

-- ---- where an entry stands in a pool that grew

-- in the front, as the new entry, or behind it
abbrev Where : List PoolEntry → PoolEntry → ℕ → PoolEntry → Type 0
Where before e i z = (slice_get before i ≡ Some z) ⊎ (((i ≡ length before) × (e ≡ z)) ⊎ (z ≡ Unusable))

in_rest : (rest : List PoolEntry) (i : ℕ) (z : PoolEntry) → AllByRecursion (λ r. r ≡ Unusable) rest → slice_get rest i ≡ Some z → z ≡ Unusable
in_rest [] i z all h = absurd cc
in_rest (r ∷ rs) zero z all h = let same : r ≡ z = cc in sym same ∙ all.0
in_rest (r ∷ rs) (suc i) z all h = in_rest rs i z all.1 h

behind_one : (x : PoolEntry) (xs : List PoolEntry) (e : PoolEntry) (i : ℕ) (z : PoolEntry) → Where xs e i z → Where (x ∷ xs) e (suc i) z
behind_one x xs e i z (inl h) = inl h
behind_one x xs e i z (inr (inl h)) = inr (inl (ap suc h.0, h.1))
behind_one x xs e i z (inr (inr h)) = inr (inr h)

where_is : (before rest : List PoolEntry) (e : PoolEntry) (i : ℕ) (z : PoolEntry) → AllByRecursion (λ r. r ≡ Unusable) rest → slice_get (before ++ (e ∷ rest)) i ≡ Some z → Where before e i z
where_is [] rest e zero z all h = inr (inl (refl, cc))
where_is [] rest e (suc i) z all h = inr (inr (in_rest rest i z all h))
where_is (x ∷ xs) rest e zero z all h = inl h
where_is (x ∷ xs) rest e (suc i) z all h = behind_one x xs e i z (where_is xs rest e i z all h)

-- ---- each entry stands once

-- What is usable is written as some bytes.
is_written : (e : PoolEntry) → IsTrue (is_usable e) → entry e ≡ [] → ⊥
is_written Unusable usable h = absurd cc
is_written (Utf8 bytes) usable h = absurd cc
is_written (Integer bits) usable h = absurd cc
is_written (Float bits) usable h = absurd cc
is_written (Long bits) usable h = absurd cc
is_written (Double bits) usable h = absurd cc
is_written (Class name) usable h = absurd cc
is_written (Str string) usable h = absurd cc
is_written (Fieldref class member) usable h = absurd cc
is_written (Methodref class member) usable h = absurd cc
is_written (InterfaceMethodref class member) usable h = absurd cc
is_written (NameAndType name desc) usable h = absurd cc
is_written (MethodHandle kind member) usable h = absurd cc
is_written (MethodType desc) usable h = absurd cc
is_written (InvokeDynamic bootstrap member) usable h = absurd cc

unwritten : (a b : PoolEntry) → IsTrue (is_usable a) → entry a ≡ entry b → b ≡ Unusable → ⊥
unwritten a b usable alike h = is_written a usable (alike ∙ ap entry h)

once_by : (e : PoolEntry) (before : List PoolEntry) (index : ℕ) (after : List PoolEntry) → StandOnce before → Put e before index after
    → (i j : ℕ) (a b : PoolEntry) → Where before e i a → Where before e j b → IsTrue (is_usable a) → entry a ≡ entry b → i ≡ j
once_by e before index after once p i j a b (inl h) (inl k) usable alike = once i j a b h k usable alike
once_by e before index after once p i j a b (inl h) (inr (inl k)) usable alike = absurd (p.new i a h (alike ∙ ap entry (sym k.1)))
once_by e before index after once p i j a b (inl h) (inr (inr k)) usable alike = absurd (unwritten a b usable alike k)
once_by e before index after once p i j a b (inr (inl h)) (inl k) usable alike = absurd (p.new j b k (sym alike ∙ ap entry (sym h.1)))
once_by e before index after once p i j a b (inr (inl h)) (inr (inl k)) usable alike = h.0 ∙ sym k.0
once_by e before index after once p i j a b (inr (inl h)) (inr (inr k)) usable alike = absurd (unwritten a b usable alike k)
once_by e before index after once p i j a b (inr (inr h)) k usable alike = absurd (is_written a usable (ap entry h))

-- ---- parts stand before the whole

first_by : (e : PoolEntry) (before : List PoolEntry) → PartsStandFirst before → AllByRecursion (λ part. part < length before) (parts e)
    → (i : ℕ) (z : PoolEntry) → Where before e i z → AllByRecursion (λ part. part < i) (parts z)
first_by e before first low i z (inl h) = first i z h
first_by e before first low i z (inr (inl h)) =
    subst (λ (n : ℕ). AllByRecursion (λ part. part < n) (parts z)) (sym h.0) (subst (λ (f : PoolEntry). AllByRecursion (λ part. part < length before) (parts f)) h.1 low)
first_by e before first low i z (inr (inr h)) = subst (λ (f : PoolEntry). AllByRecursion (λ part. part < i) (parts f)) (sym h) tt

-- ---- one entry

-- The pool is built so, the index lies in it, and it is no shorter than before.
pub record Built (before : List PoolEntry) (index : ℕ) (after : List PoolEntry) : Type 0 where
  pub built : IsBuilt after
  pub below : index < length after
  pub longer : length before ≤ length after

held_built : (e : PoolEntry) (before : List PoolEntry) (index : ℕ) (after : List PoolEntry) → IsBuilt before → Held e before index after → Built before index after
held_built e before index after b h =
    let below : index < length before = slice_get_within before index h.stands.0 h.stands.1 in
    subst (Built before index) (sym h.same) (record { built = b; below = below; longer = omega arith })

few_pool : (much : Bool) (pool : List PoolEntry) (n index : ℕ) (after : List PoolEntry) → nat_lt 65535 (length pool) ≡ much → within_room much n pool ≡ at_index index after → length after < 65536
few_pool true pool n index after e h = absurd cc
few_pool false pool n index after e h = let k = ltb-false 65535 (length pool) e in subst (λ (p : List PoolEntry). length p < 65536) (parted n index pool after h).1 (omega (arith, k))

needed_few : (e : PoolEntry) (before : List PoolEntry) (index : ℕ) (after : List PoolEntry) → length before < 65536 → needed e before ≡ Some (index, after) → length after < 65536
unfolding needed
needed_few e before index after few h = of (position (is_same e) before) h where
  of : (o : Option ℕ) → held_or o before (within (added before e) >>= λ a. Some (length before, a)) ≡ Some (index, after) → length after < 65536
  of (Some i) k = subst (λ (p : List PoolEntry). length p < 65536) (parted i index before after k).1 few
  of None k = few_pool (nat_lt 65535 (length (added before e))) (added before e) (length before) index after refl k

put_built : (e : PoolEntry) (before : List PoolEntry) (index : ℕ) (after : List PoolEntry) → IsBuilt before → AllByRecursion (λ part. part < length before) (parts e) → length after < 65536 → Put e before index after → Built before index after
put_built e before index after b low few p =
    let stands : (i : ℕ) (z : PoolEntry) → slice_get after i ≡ Some z → Where before e i z =
    λ i z h. where_is before p.rest e i z p.unusable (subst (λ (pool : List PoolEntry). slice_get pool i ≡ Some z) p.kept h) in
    let long : length after ≡ length before + length (e ∷ p.rest) = ap length p.kept ∙ length-append before (e ∷ p.rest) in
    record {
      built = record {
        once = λ i j x y h k. once_by e before index after b.once p i j x y (stands i x h) (stands j y k);
        first = λ i z h. first_by e before b.first low i z (stands i z h);
        few = few;
      };
      below = omega (arith, long, p.at);
      longer = omega (arith, long);
    }

one_built : (e : PoolEntry) (before : List PoolEntry) (index : ℕ) (after : List PoolEntry) → IsBuilt before → AllByRecursion (λ part. part < length before) (parts e) → length after < 65536 → Held e before index after ⊎ Put e before index after → Built before index after
one_built e before index after b low few (inl h) = held_built e before index after b h
one_built e before index after b low few (inr p) = put_built e before index after b low few p

pub needed_built : (e : PoolEntry) (before : List PoolEntry) (index : ℕ) (after : List PoolEntry) → IsBuilt before → AllByRecursion (λ part. part < length before) (parts e) → needed e before ≡ Some (index, after) → Built before index after
needed_built e before index after b low h = one_built e before index after b low (needed_few e before index after b.few h) (needed_cases e before index after h)

then : (before : List PoolEntry) (i : ℕ) (mid : List PoolEntry) (j : ℕ) (after : List PoolEntry) → Built before i mid → Built mid j after → Built before j after
then before i mid j after b c = record { built = c.built; below = c.below; longer = omega (arith, b.longer, c.longer) }

-- ---- what stands on others

short : (long : Bool) (found : Option (ℕ × List PoolEntry)) (x : ℕ × List PoolEntry) → cond long None found ≡ Some x → found ≡ Some x
short true found x h = absurd cc
short false found x h = h

pub utf8_built : (bytes : List ℕ) (before : List PoolEntry) (index : ℕ) (after : List PoolEntry) → IsBuilt before → utf8_needed bytes before ≡ Some (index, after) → Built before index after
unfolding utf8_needed
utf8_built bytes before index after b h = needed_built (Utf8 bytes) before index after b tt (short (nat_lt 65535 (length bytes)) (needed (Utf8 bytes) before) (index, after) h)

pub class_built : (name : List ℕ) (before : List PoolEntry) (index : ℕ) (after : List PoolEntry) → IsBuilt before → class_needed name before ≡ Some (index, after) → Built before index after
unfolding class_needed
class_built name before index after b h =
    let s = bind_some (utf8_needed name before) (λ text. needed (Class text.0) text.1) (index, after) h in
    let t = utf8_built name before s.0.0 s.0.1 b s.1 in
    then before s.0.0 s.0.1 index after t (needed_built (Class s.0.0) s.0.1 index after t.built (t.below, tt) s.2)

pub string_built : (string : List ℕ) (before : List PoolEntry) (index : ℕ) (after : List PoolEntry) → IsBuilt before → string_needed string before ≡ Some (index, after) → Built before index after
unfolding string_needed
string_built string before index after b h =
    let s = bind_some (utf8_needed string before) (λ text. needed (Str text.0) text.1) (index, after) h in
    let t = utf8_built string before s.0.0 s.0.1 b s.1 in
    then before s.0.0 s.0.1 index after t (needed_built (Str s.0.0) s.0.1 index after t.built (t.below, tt) s.2)

pub name_and_type_built : (name desc : List ℕ) (before : List PoolEntry) (index : ℕ) (after : List PoolEntry) → IsBuilt before → name_and_type_needed name desc before ≡ Some (index, after) → Built before index after
unfolding name_and_type_needed
name_and_type_built name desc before index after b h =
    let s = bind_some (utf8_needed name before) (λ n. utf8_needed desc n.1 >>= λ d. needed (NameAndType n.0 d.0) d.1) (index, after) h in
    let n = utf8_built name before s.0.0 s.0.1 b s.1 in
    let u = bind_some (utf8_needed desc s.0.1) (λ d. needed (NameAndType s.0.0 d.0) d.1) (index, after) s.2 in
    let d = utf8_built desc s.0.1 u.0.0 u.0.1 n.built u.1 in
    let low : s.0.0 < length u.0.1 = omega (arith, n.below, d.longer) in
    let both = then before s.0.0 s.0.1 u.0.0 u.0.1 n d in
    then before u.0.0 u.0.1 index after both (needed_built (NameAndType s.0.0 u.0.0) u.0.1 index after d.built (low, (d.below, tt)) u.2)

-- The parts of a member lie in the pool.
pub record Parted (before : List PoolEntry) (found : ℕ × ℕ) (after : List PoolEntry) : Type 0 where
  pub built : IsBuilt after
  pub class_below : found.0 < length after
  pub member_below : found.1 < length after
  pub longer : length before ≤ length after

abbrev one : ℕ → ℕ → List PoolEntry → (ℕ × ℕ) × List PoolEntry
one class member pool = ((class, member), pool)

parts_built : (class name desc : List ℕ) (before : List PoolEntry) (found : ℕ × ℕ) (after : List PoolEntry) → IsBuilt before → parts_needed class name desc before ≡ Some (found, after) → Parted before found after
unfolding parts_needed
parts_built class name desc before found after b h =
    let s = bind_some (class_needed class before) (λ c. name_and_type_needed name desc c.1 >>= λ n. Some (one c.0 n.0 n.1)) (found, after) h in
    let c = class_built class before s.0.0 s.0.1 b s.1 in
    let u = bind_some (name_and_type_needed name desc s.0.1) (λ n. Some (one s.0.0 n.0 n.1)) (found, after) s.2 in
    let n = name_and_type_built name desc s.0.1 u.0.0 u.0.1 c.built u.1 in
    subst (λ (x : (ℕ × ℕ) × List PoolEntry). Parted before x.0 x.1) (some_is (one s.0.0 u.0.0 u.0.1) (found, after) u.2)
    (record { built = n.built; class_below = omega (arith, c.below, n.longer); member_below = n.below; longer = omega (arith, c.longer, n.longer) })

-- a member of these parts
abbrev TwoParts : (ℕ → ℕ → PoolEntry) → Type 0
TwoParts make = (class member : ℕ) → parts (make class member) ≡ class ∷ member ∷ []

member_built : (make : ℕ → ℕ → PoolEntry) → TwoParts make → (class name desc : List ℕ) (before : List PoolEntry) (index : ℕ) (after : List PoolEntry) → IsBuilt before
    → (parts_needed class name desc before >>= λ p. needed (make p.0.0 p.0.1) p.1) ≡ Some (index, after) → Built before index after
member_built make two class name desc before index after b h =
    let s = bind_some (parts_needed class name desc before) (λ p. needed (make p.0.0 p.0.1) p.1) (index, after) h in
    let p = parts_built class name desc before s.0.0 s.0.1 b s.1 in
    let low : AllByRecursion (λ part. part < length s.0.1) (s.0.0.0 ∷ s.0.0.1 ∷ []) = (p.class_below, (p.member_below, tt)) in
    let last = needed_built (make s.0.0.0 s.0.0.1) s.0.1 index after p.built (subst (AllByRecursion (λ part. part < length s.0.1)) (sym (two s.0.0.0 s.0.0.1)) low) s.2 in
    record { built = last.built; below = last.below; longer = omega (arith, p.longer, last.longer) }

pub field_built : (class name desc : List ℕ) (before : List PoolEntry) (index : ℕ) (after : List PoolEntry) → IsBuilt before → field_needed class name desc before ≡ Some (index, after) → Built before index after
unfolding field_needed
field_built class name desc = member_built Fieldref (λ c m. refl) class name desc

pub method_built : (class name desc : List ℕ) (before : List PoolEntry) (index : ℕ) (after : List PoolEntry) → IsBuilt before → method_needed class name desc before ≡ Some (index, after) → Built before index after
unfolding method_needed
method_built class name desc = member_built Methodref (λ c m. refl) class name desc

pub interface_method_built : (class name desc : List ℕ) (before : List PoolEntry) (index : ℕ) (after : List PoolEntry) → IsBuilt before → interface_method_needed class name desc before ≡ Some (index, after) → Built before index after
unfolding interface_method_needed
interface_method_built class name desc = member_built InterfaceMethodref (λ c m. refl) class name desc

-- ---- the pool that a builder begins with

start_once : StandOnce (Unusable ∷ [])
start_once zero j e f h k usable alike = let same : e ≡ Unusable = cc in absurd (is_written e usable (ap entry same))
start_once (suc i) j e f h k usable alike = absurd cc

start_first : PartsStandFirst (Unusable ∷ [])
start_first zero e h = let same : e ≡ Unusable = cc in subst (λ (f : PoolEntry). AllByRecursion (λ part. part < 0) (parts f)) (sym same) tt
start_first (suc i) e h = absurd cc

pub start_is_built : IsBuilt (Unusable ∷ [])
start_is_built = record { once = start_once; first = start_first; few = omega arith }
