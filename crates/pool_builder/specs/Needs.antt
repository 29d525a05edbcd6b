-- What is needed of a constant pool (JVMS 4.4): an entry stands where it was first needed, its parts before it, and equal
-- ones are shared.
use Rattle.std.specs.Prelude.{ℕ, ℤ, ◌+◌, ◌<◌, List, [], ◌∷◌, ◌++◌, length, position, Bool, nat_lt, Option, Some, None, if◌then◌else◌}
use Rattle.std.specs.Int.{w32, w64, cast_unsigned}
use Rattle.std.specs.Str.{bytes_eq}
use Rattle.jsa_base.specs.Reading.{◌>>=◌}
use Rattle.class_tree.specs.declared.constant_pool.PoolEntry.{PoolEntry}
use Rattle.class_tree.specs.declared.constant_pool.PoolEntry.TheVariants as entries
use Rattle.class_tree.specs.Entries.{entry, is_wide}

-- the index of what is needed, with the pool after it
abbrev pub Need : Type 0
Need = List PoolEntry → Option (ℕ × List PoolEntry)

-- Equal entries are written alike.
abbrev pub is_same : PoolEntry → PoolEntry → Bool
is_same e f = bytes_eq (entry e) (entry f)

-- ---- one entry

-- A Long or a Double takes two indices, the second of which is unusable (4.4.5).
abbrev pub added : List PoolEntry → PoolEntry → List PoolEntry
added pool e = if is_wide e then pool ++ (e ∷ entries.Unusable ∷ []) else pool ++ e ∷ []

abbrev pub indices : PoolEntry → ℕ
indices e = if is_wide e then 2 else 1

-- The count of a pool stands in two bytes, and is one more than its last index (4.1).
abbrev pub within : List PoolEntry → Option (List PoolEntry)
within pool = if nat_lt 65535 (length pool) then None else Some pool

-- So many more indices would pass that count.
abbrev pub LacksIndices : ℕ → List PoolEntry → Type 0
LacksIndices n pool = 65535 < length pool + n

abbrev pub held_or : Option ℕ → List PoolEntry → Option (ℕ × List PoolEntry) → Option (ℕ × List PoolEntry)
held_or (Some index) pool fresh = Some (index, pool)
held_or None pool fresh = fresh

-- The index of an entry that is needed, with the pool after it: where an equal one stands, or else at the end, if the pool
-- has room.
unfoldable pub needed : PoolEntry → Need
needed e pool = held_or (position (is_same e) pool) pool (within (added pool e) >>= λ after. Some (length pool, after))

-- ---- entries without parts

-- A text has at most 65,535 bytes (4.4.7).
abbrev pub IsLong : List ℕ → Type 0
IsLong text = 65535 < length text

unfoldable pub utf8_needed : List ℕ → Need
utf8_needed text pool = if nat_lt 65535 (length text) then None else needed (entries.Utf8 text) pool

-- a number in two's complement (4.4.4, 4.4.5)
abbrev pub integer_needed : ℤ → Need
integer_needed n = needed (entries.Integer (cast_unsigned w32 n))

abbrev pub long_needed : ℤ → Need
long_needed n = needed (entries.Long (cast_unsigned w64 n))

-- the bits of a number (4.4.4, 4.4.5)
abbrev pub float_needed : ℕ → Need
float_needed bits = needed (entries.Float bits)

abbrev pub double_needed : ℕ → Need
double_needed bits = needed (entries.Double bits)

-- ---- entries with parts, which stand before them

-- a class, or an array by its descriptor (4.4.1)
unfoldable pub class_needed : List ℕ → Need
class_needed name pool = do
  text ← utf8_needed name pool
  needed (entries.Class text.0) text.1

unfoldable pub string_needed : List ℕ → Need
string_needed string pool = do
  text ← utf8_needed string pool
  needed (entries.Str text.0) text.1

unfoldable pub name_and_type_needed : List ℕ → List ℕ → Need
name_and_type_needed name desc pool = do
  n ← utf8_needed name pool
  d ← utf8_needed desc n.1
  needed (entries.NameAndType n.0 d.0) d.1

-- the parts of a member: its class, then its name with its descriptor (4.4.2)
unfoldable pub parts_needed : List ℕ → List ℕ → List ℕ → List PoolEntry → Option ((ℕ × ℕ) × List PoolEntry)
parts_needed class name desc pool = do
  c ← class_needed class pool
  n ← name_and_type_needed name desc c.1
  Some ((c.0, n.0), n.1)

unfoldable pub field_needed : List ℕ → List ℕ → List ℕ → Need
field_needed class name desc pool = do
  parts ← parts_needed class name desc pool
  needed (entries.Fieldref parts.0.0 parts.0.1) parts.1

unfoldable pub method_needed : List ℕ → List ℕ → List ℕ → Need
method_needed class name desc pool = do
  parts ← parts_needed class name desc pool
  needed (entries.Methodref parts.0.0 parts.0.1) parts.1

unfoldable pub interface_method_needed : List ℕ → List ℕ → List ℕ → Need
interface_method_needed class name desc pool = do
  parts ← parts_needed class name desc pool
  needed (entries.InterfaceMethodref parts.0.0 parts.0.1) parts.1
