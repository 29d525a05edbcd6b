-- What is needed leaves a pool that keeps: it only grew, and is built as it should be.
use Rattle.std.proofs.Common.{◌≡◌, ℕ, ◌+◌, ◌<◌, Bool, true, false, cond, nat_lt, Some, None, List, [], ◌++◌, length, length-append, refl, sym, ap, subst, ◌∙◌, append_assoc, append-nil, arith}
use Rattle.std.specs.Int.{w32, w64, cast_unsigned}
use Rattle.std.specs.List.{AllByRecursion}
use Rattle.jsa_base.specs.Reading.{◌>>=◌}
use Rattle.jsa_base.proofs.Codecs.{bind_some, some_is}
use Rattle.class_tree.specs.declared.constant_pool.PoolEntry.{PoolEntry}
use Rattle.class_tree.specs.declared.constant_pool.PoolEntry.TheVariants.{Utf8, Integer, Float, Long, Double, Class, Str, Fieldref, Methodref, InterfaceMethodref, NameAndType}
use Rattle.pool_builder.specs.Laws.{parts, Grown, Keeps, Builds, PoolsAreBuilt}
use Rattle.pool_builder.specs.Needs.{needed, utf8_needed, class_needed, string_needed, name_and_type_needed, parts_needed, field_needed, method_needed, interface_method_needed}
use Rattle.pool_builder.proofs.Grown.{needed_grows}
use Rattle.pool_builder.proofs.Built.{needed_built, utf8_built, class_built, string_built, name_and_type_built, field_built, method_built, interface_method_built, start_is_built}

-- ---- growth

pub grown_same : (pool : List PoolEntry) → Grown pool pool
grown_same pool = record { more = []; is = sym (append-nil pool) }

pub grown_then : (a b c : List PoolEntry) → Grown a b → Grown b c → Grown a c
grown_then a b c f g = record { more = f.more ++ g.more; is = g.is ∙ ap (λ (p : List PoolEntry). p ++ g.more) f.is ∙ append_assoc a f.more g.more }

pub keeps_same : (pool : List PoolEntry) → Keeps pool pool
keeps_same pool = record { built = λ b. b; grown = grown_same pool }

pub keeps_then : (a b c : List PoolEntry) → Keeps a b → Keeps b c → Keeps a c
keeps_then a b c f g = record { built = λ x. g.built (f.built x); grown = grown_then a b c f.grown g.grown }

-- An index in a pool lies in it still.
pub still_within : (a b : List PoolEntry) (index : ℕ) → Keeps a b → index < length a → index < length b
still_within a b index k h = let long : length b ≡ length a + length k.grown.more = ap length k.grown.is ∙ length-append a k.grown.more in omega (arith, h, long)

-- ---- what is needed

by_needed : (e : PoolEntry) (before after : List PoolEntry) (index : ℕ) → needed e before ≡ Some (index, after) → Grown before after
by_needed e before after index h = let g = needed_grows e before after index h in record { more = g.more; is = g.kept }

by_utf8 : (text : List ℕ) (before after : List PoolEntry) (index : ℕ) → utf8_needed text before ≡ Some (index, after) → Grown before after
unfolding utf8_needed
by_utf8 text before after index h = of (nat_lt 65535 (length text)) h where
  of : (long : Bool) → cond long None (needed (Utf8 text) before) ≡ Some (index, after) → Grown before after
  of true k = absurd cc
  of false k = by_needed (Utf8 text) before after index k

by_class : (name : List ℕ) (before after : List PoolEntry) (index : ℕ) → class_needed name before ≡ Some (index, after) → Grown before after
unfolding class_needed
by_class name before after index h =
    let t = bind_some (utf8_needed name before) (λ x. needed (Class x.0) x.1) (index, after) h in
    grown_then before t.0.1 after (by_utf8 name before t.0.1 t.0.0 t.1) (by_needed (Class t.0.0) t.0.1 after index t.2)

by_string : (text : List ℕ) (before after : List PoolEntry) (index : ℕ) → string_needed text before ≡ Some (index, after) → Grown before after
unfolding string_needed
by_string text before after index h =
    let t = bind_some (utf8_needed text before) (λ x. needed (Str x.0) x.1) (index, after) h in
    grown_then before t.0.1 after (by_utf8 text before t.0.1 t.0.0 t.1) (by_needed (Str t.0.0) t.0.1 after index t.2)

by_name_and_type : (name desc : List ℕ) (before after : List PoolEntry) (index : ℕ) → name_and_type_needed name desc before ≡ Some (index, after) → Grown before after
unfolding name_and_type_needed
by_name_and_type name desc before after index h =
    let n = bind_some (utf8_needed name before) (λ n. utf8_needed desc n.1 >>= λ d. needed (NameAndType n.0 d.0) d.1) (index, after) h in
    let d = bind_some (utf8_needed desc n.0.1) (λ d. needed (NameAndType n.0.0 d.0) d.1) (index, after) n.2 in
    grown_then before n.0.1 after (by_utf8 name before n.0.1 n.0.0 n.1) (grown_then n.0.1 d.0.1 after (by_utf8 desc n.0.1 d.0.1 d.0.0 d.1) (by_needed (NameAndType n.0.0 d.0.0) d.0.1 after index d.2))

abbrev one : ℕ → ℕ → List PoolEntry → (ℕ × ℕ) × List PoolEntry
one class member pool = ((class, member), pool)

by_parts : (class name desc : List ℕ) (before after : List PoolEntry) (found : ℕ × ℕ) → parts_needed class name desc before ≡ Some (found, after) → Grown before after
unfolding parts_needed
by_parts class name desc before after found h =
    let c = bind_some (class_needed class before) (λ c. name_and_type_needed name desc c.1 >>= λ n. Some (one c.0 n.0 n.1)) (found, after) h in
    let n = bind_some (name_and_type_needed name desc c.0.1) (λ n. Some (one c.0.0 n.0 n.1)) (found, after) c.2 in
    subst (λ (x : (ℕ × ℕ) × List PoolEntry). Grown before x.1) (some_is (one c.0.0 n.0.0 n.0.1) (found, after) n.2)
    (grown_then before c.0.1 n.0.1 (by_class class before c.0.1 c.0.0 c.1) (by_name_and_type name desc c.0.1 n.0.1 n.0.0 n.1))

by_member : (make : ℕ → ℕ → PoolEntry) (class name desc : List ℕ) (before after : List PoolEntry) (index : ℕ) → (parts_needed class name desc before >>= λ p. needed (make p.0.0 p.0.1) p.1) ≡ Some (index, after) → Grown before after
by_member make class name desc before after index h =
    let p = bind_some (parts_needed class name desc before) (λ p. needed (make p.0.0 p.0.1) p.1) (index, after) h in
    grown_then before p.0.1 after (by_parts class name desc before p.0.1 p.0.0 p.1) (by_needed (make p.0.0.0 p.0.0.1) p.0.1 after index p.2)

by_field : (class name desc : List ℕ) (before after : List PoolEntry) (index : ℕ) → field_needed class name desc before ≡ Some (index, after) → Grown before after
unfolding field_needed
by_field class name desc before after index h = by_member Fieldref class name desc before after index h

by_method : (class name desc : List ℕ) (before after : List PoolEntry) (index : ℕ) → method_needed class name desc before ≡ Some (index, after) → Grown before after
unfolding method_needed
by_method class name desc before after index h = by_member Methodref class name desc before after index h

by_interface_method : (class name desc : List ℕ) (before after : List PoolEntry) (index : ℕ) → interface_method_needed class name desc before ≡ Some (index, after) → Grown before after
unfolding interface_method_needed
by_interface_method class name desc before after index h = by_member InterfaceMethodref class name desc before after index h

-- ---- the law

without_parts : (e : PoolEntry) → parts e ≡ [] → Builds (needed e)
without_parts e none before after index h = record {
  built = λ b. (needed_built e before index after b (subst (AllByRecursion (λ part. part < length before)) (sym none) tt) h).built;
  grown = by_needed e before after index h;
}

pub pools_are_built : PoolsAreBuilt
pools_are_built = record {
  start = start_is_built;
  utf8 = λ text before after index h. record { built = λ b. (utf8_built text before index after b h).built; grown = by_utf8 text before after index h };
  integer = λ n. without_parts (Integer (cast_unsigned w32 n)) refl;
  float = λ bits. without_parts (Float bits) refl;
  long = λ n. without_parts (Long (cast_unsigned w64 n)) refl;
  double = λ bits. without_parts (Double bits) refl;
  class = λ name before after index h. record { built = λ b. (class_built name before index after b h).built; grown = by_class name before after index h };
  string = λ text before after index h. record { built = λ b. (string_built text before index after b h).built; grown = by_string text before after index h };
  name_and_type = λ name desc before after index h. record { built = λ b. (name_and_type_built name desc before index after b h).built; grown = by_name_and_type name desc before after index h };
  field = λ class name desc before after index h. record { built = λ b. (field_built class name desc before index after b h).built; grown = by_field class name desc before after index h };
  method = λ class name desc before after index h. record { built = λ b. (method_built class name desc before index after b h).built; grown = by_method class name desc before after index h };
  interface_method = λ class name desc before after index h. record { built = λ b. (interface_method_built class name desc before index after b h).built; grown = by_interface_method class name desc before after index h };
}
