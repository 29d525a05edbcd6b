-- How a constant pool is read from left to right.
use Rattle.std.specs.Prelude.{ℕ, zero, suc, List, [], ◌∷◌, Bool, true, Some, None, ◌==◌, if◌then◌else◌}
use Rattle.jsa_base.specs.Reading.{◌>>=◌, Read, u1_at, u2_at, u4_at, u8_at, pair_at, made, text_at}
use Rattle.class_tree.specs.declared.constant_pool.PoolEntry.{PoolEntry}
use Rattle.class_tree.specs.declared.constant_pool.PoolEntry.TheVariants.{Unusable, Utf8, Integer, Float, Long, Double, Class, Str, Fieldref, Methodref, InterfaceMethodref, NameAndType, MethodHandle, MethodType, InvokeDynamic}
use Rattle.class_tree.specs.Entries.{is_wide}

-- entries of the same parts, by their tags

abbrev pub number_entry : ℕ → ℕ → PoolEntry
number_entry tag bits = if tag == 3 then Integer bits else Float bits

abbrev pub wide_entry : ℕ → ℕ → PoolEntry
wide_entry tag bits = if tag == 5 then Long bits else Double bits

abbrev pub text_entry : ℕ → ℕ → PoolEntry
text_entry tag text = if tag == 7 then Class text else if tag == 8 then Str text else MethodType text

abbrev pub pair_entry : ℕ → ℕ × ℕ → PoolEntry
pair_entry tag p =
    if tag == 9 then Fieldref p.0 p.1
    else if tag == 10 then Methodref p.0 p.1
    else if tag == 11 then InterfaceMethodref p.0 p.1
    else if tag == 12 then NameAndType p.0 p.1
    else InvokeDynamic p.0 p.1

-- what stands behind a tag
unfoldable pub entry_by : ℕ → List ℕ → Read PoolEntry
entry_by tag bytes =
    if tag == 1 then made Utf8 text_at bytes
    else if tag == 3 then made Integer u4_at bytes
    else if tag == 4 then made Float u4_at bytes
    else if tag == 5 then made Long u8_at bytes
    else if tag == 6 then made Double u8_at bytes
    else if tag == 7 then made Class u2_at bytes
    else if tag == 8 then made Str u2_at bytes
    else if tag == 9 then made (λ p. Fieldref p.0 p.1) (pair_at u2_at u2_at) bytes
    else if tag == 10 then made (λ p. Methodref p.0 p.1) (pair_at u2_at u2_at) bytes
    else if tag == 11 then made (λ p. InterfaceMethodref p.0 p.1) (pair_at u2_at u2_at) bytes
    else if tag == 12 then made (λ p. NameAndType p.0 p.1) (pair_at u2_at u2_at) bytes
    else if tag == 15 then made (λ p. MethodHandle p.0 p.1) (pair_at u1_at u2_at) bytes
    else if tag == 16 then made MethodType u2_at bytes
    else if tag == 18 then made (λ p. InvokeDynamic p.0 p.1) (pair_at u2_at u2_at) bytes
    else None

unfoldable pub entry_at : List ℕ → Read PoolEntry
entry_at bytes = do
  tag ← u1_at bytes
  entry_by tag.0 tag.1

-- the entry at one index
unfoldable pub slot_at : Bool → List ℕ → Read PoolEntry
slot_at unusable bytes = if unusable then Some (Unusable, bytes) else entry_at bytes

-- the entries at so many indices
unfoldable pub entries_at : Bool → ℕ → List ℕ → Read (List PoolEntry)
entries_at unusable zero bytes = if unusable then None else Some ([], bytes)
entries_at unusable (suc n) bytes = do
  first ← slot_at unusable bytes
  others ← entries_at (is_wide first.0) n first.1
  Some (first.0 ∷ others.0, others.1)

unfoldable pub pool_at : List ℕ → Read (List PoolEntry)
pool_at bytes = do
  count ← u2_at bytes
  entries_at true count.0 count.1
