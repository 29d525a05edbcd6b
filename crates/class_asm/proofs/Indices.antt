-- The index of what is needed fits two bytes.
use Rattle.std.proofs.Common.{◌≡◌, ℕ, ◌<◌, Bool, true, false, cond, List, length, position, Option, Some, None, refl, arith}
use Rattle.std.specs.Prelude.{nat_lt}
use Rattle.std.specs.List.{position_or_len}
use Rattle.std.proofs.lemmas.Bool.{ltb-true, ltb-false}
use Rattle.jsa_base.specs.Reading.{◌>>=◌}
use Rattle.class_tree.specs.declared.constant_pool.PoolEntry.{PoolEntry}
use Rattle.class_tree.specs.declared.constant_pool.PoolEntry.TheVariants as entries
use Rattle.asm_text.specs.declared.statement.Constant.{Constant}
use Rattle.asm_text.specs.declared.statement.Constant.TheVariants as constant
use Rattle.asm_text.specs.declared.statement.MemberKind.{MemberKind}
use Rattle.asm_text.specs.declared.statement.MemberKind.TheVariants.{Field, Method, InterfaceMethod}
use Rattle.asm_text.specs.declared.statement.MemberName.{MemberName}
use Rattle.pool_builder.specs.Needs.{is_same, added, within, held_or, needed, utf8_needed, class_needed, string_needed, name_and_type_needed, parts_needed, field_needed, method_needed, interface_method_needed}
use Rattle.class_asm.specs.Needs.{member_needed, constant_needed}
use Rattle.class_asm.proofs.Keeping.{AllIn, bind_all, some_all}

-- An index fits two bytes, and so does the count of the pool.
abbrev pub Small : ℕ × List PoolEntry → Type 0
Small x = (x.0 < 65536) × (length x.1 < 65536)

place_below : (n size : ℕ) (b : Bool) → nat_lt n size ≡ b → AllIn (cond b (Some n) None) (λ i. i < size)
place_below n size true e = some_all n (λ i. i < size) (ltb-true n size e)
place_below n size false e = λ y h. absurd cc

position_below : {X : Type 0} (p : X → Bool) (xs : List X) → AllIn (position p xs) (λ i. i < length xs)
position_below {X} p xs = place_below (position_or_len p xs) (length xs) (nat_lt (position_or_len p xs) (length xs)) refl

within_by : (much : Bool) (pool : List PoolEntry) → nat_lt 65535 (length pool) ≡ much → AllIn (cond much None (Some pool)) (λ after. length after < 65536)
within_by true pool e = λ y h. absurd cc
within_by false pool e = some_all pool (λ after. length after < 65536) (let k = ltb-false 65535 (length pool) e in omega (arith, k))

held_small : (o : Option ℕ) (pool : List PoolEntry) (fresh : Option (ℕ × List PoolEntry)) → length pool < 65536 → AllIn o (λ i. i < length pool) → AllIn fresh Small → AllIn (held_or o pool fresh) Small
held_small (Some i) pool fresh few below new = some_all (i, pool) Small (let k = below i refl in omega (arith, k, few), few)
held_small None pool fresh few below new = new

needed_small : (e : PoolEntry) (pool : List PoolEntry) → length pool < 65536 → AllIn (needed e pool) Small
unfolding needed
needed_small e pool few =
    held_small (position (is_same e) pool) pool (within (added pool e) >>= λ after. Some (length pool, after)) few (position_below (is_same e) pool)
    (bind_all (within (added pool e)) (λ after. Some (length pool, after)) (λ after. length after < 65536) Small (within_by (nat_lt 65535 (length (added pool e))) (added pool e) refl)
    (λ after h. some_all (length pool, after) Small (few, h)))

utf8_small : (text : List ℕ) (pool : List PoolEntry) → length pool < 65536 → AllIn (utf8_needed text pool) Small
unfolding utf8_needed
utf8_small text pool few = of (nat_lt 65535 (length text)) where
  of : (long : Bool) → AllIn (cond long None (needed (entries.Utf8 text) pool)) Small
  of true = λ y h. absurd cc
  of false = needed_small (entries.Utf8 text) pool few

pub class_small : (name : List ℕ) (pool : List PoolEntry) → length pool < 65536 → AllIn (class_needed name pool) Small
unfolding class_needed
class_small name pool few = bind_all (utf8_needed name pool) (λ x. needed (entries.Class x.0) x.1) Small Small (utf8_small name pool few) (λ x s. needed_small (entries.Class x.0) x.1 s.1)

string_small : (text : List ℕ) (pool : List PoolEntry) → length pool < 65536 → AllIn (string_needed text pool) Small
unfolding string_needed
string_small text pool few = bind_all (utf8_needed text pool) (λ x. needed (entries.Str x.0) x.1) Small Small (utf8_small text pool few) (λ x s. needed_small (entries.Str x.0) x.1 s.1)

name_and_type_small : (name desc : List ℕ) (pool : List PoolEntry) → length pool < 65536 → AllIn (name_and_type_needed name desc pool) Small
unfolding name_and_type_needed
name_and_type_small name desc pool few =
    bind_all (utf8_needed name pool) (λ n. utf8_needed desc n.1 >>= λ d. needed (entries.NameAndType n.0 d.0) d.1) Small Small (utf8_small name pool few)
    (λ n s. bind_all (utf8_needed desc n.1) (λ d. needed (entries.NameAndType n.0 d.0) d.1) Small Small (utf8_small desc n.1 s.1)
    (λ d t. needed_small (entries.NameAndType n.0 d.0) d.1 t.1))

parts_small : (class name desc : List ℕ) (pool : List PoolEntry) → length pool < 65536 → AllIn (parts_needed class name desc pool) (λ x. length x.1 < 65536)
unfolding parts_needed
parts_small class name desc pool few =
    bind_all (class_needed class pool) _ Small (λ x. length x.1 < 65536) (class_small class pool few)
    (λ c s. bind_all (name_and_type_needed name desc c.1) _ Small (λ x. length x.1 < 65536) (name_and_type_small name desc c.1 s.1)
    (λ n t. some_all ((c.0, n.0), n.1) (λ x. length x.1 < 65536) t.1))

pub member_small : (kind : MemberKind) (m : MemberName) (pool : List PoolEntry) → length pool < 65536 → AllIn (member_needed kind m pool) Small
unfolding member_needed field_needed method_needed interface_method_needed
member_small Field m pool few = bind_all (parts_needed m.class m.name m.desc pool) _ (λ x. length x.1 < 65536) Small (parts_small m.class m.name m.desc pool few) (λ p s. needed_small (entries.Fieldref p.0.0 p.0.1) p.1 s)
member_small Method m pool few = bind_all (parts_needed m.class m.name m.desc pool) _ (λ x. length x.1 < 65536) Small (parts_small m.class m.name m.desc pool few) (λ p s. needed_small (entries.Methodref p.0.0 p.0.1) p.1 s)
member_small InterfaceMethod m pool few =
    bind_all (parts_needed m.class m.name m.desc pool) _ (λ x. length x.1 < 65536) Small (parts_small m.class m.name m.desc pool few) (λ p s. needed_small (entries.InterfaceMethodref p.0.0 p.0.1) p.1 s)

pub constant_small : (k : Constant) (pool : List PoolEntry) → length pool < 65536 → AllIn (constant_needed k pool) Small
unfolding constant_needed
constant_small (constant.Integer n) pool few = needed_small _ pool few
constant_small (constant.Long n) pool few = needed_small _ pool few
constant_small (constant.Text text) pool few = string_small text pool few
constant_small (constant.Class name) pool few = class_small name pool few
