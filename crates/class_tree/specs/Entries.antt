-- How a constant pool is written (JVMS 4.1, 4.4), and which entries have what place in it.
use Rattle.std.specs.Prelude.{◌≡◌, ℕ, List, [], ◌∷◌, ◌++◌, length, Bool, true, false}
use Rattle.std.specs.List.{flat_map}
use Rattle.jsa_base.specs.Spelling.{u1, u2, u4, u8, text, Fits1, Fits2, Fits4, Fits8, FitsText}
use Rattle.class_tree.specs.declared.constant_pool.PoolEntry.{PoolEntry}
use Rattle.class_tree.specs.declared.constant_pool.PoolEntry.TheVariants.{Unusable, Utf8, Integer, Float, Long, Double, Class, Str, Fieldref, Methodref, InterfaceMethodref, NameAndType, MethodHandle, MethodType, InvokeDynamic}

-- ---- how it is written

-- the tag, and what stands behind it (4.4). At an unusable index nothing is written.
abbrev pub entry : PoolEntry → List ℕ
entry Unusable = []
entry (Utf8 bytes) = u1 1 ++ text bytes
entry (Integer bits) = u1 3 ++ u4 bits
entry (Float bits) = u1 4 ++ u4 bits
entry (Long bits) = u1 5 ++ u8 bits
entry (Double bits) = u1 6 ++ u8 bits
entry (Class name) = u1 7 ++ u2 name
entry (Str string) = u1 8 ++ u2 string
entry (Fieldref class member) = u1 9 ++ (u2 class ++ u2 member)
entry (Methodref class member) = u1 10 ++ (u2 class ++ u2 member)
entry (InterfaceMethodref class member) = u1 11 ++ (u2 class ++ u2 member)
entry (NameAndType name desc) = u1 12 ++ (u2 name ++ u2 desc)
entry (MethodHandle kind member) = u1 15 ++ (u1 kind ++ u2 member)
entry (MethodType desc) = u1 16 ++ u2 desc
entry (InvokeDynamic bootstrap member) = u1 18 ++ (u2 bootstrap ++ u2 member)

-- The count is one more than the greatest index, so it counts index 0.
abbrev pub pool_text : List PoolEntry → List ℕ
pool_text pool = u2 (length pool) ++ flat_map entry pool

-- ---- which entries fit

-- The numbers and the length of the text fit where they are written.
abbrev pub FitsEntry : PoolEntry → Type 0
FitsEntry Unusable = ⊥
FitsEntry (Utf8 bytes) = FitsText bytes
FitsEntry (Integer bits) = Fits4 bits
FitsEntry (Float bits) = Fits4 bits
FitsEntry (Long bits) = Fits8 bits
FitsEntry (Double bits) = Fits8 bits
FitsEntry (Class name) = Fits2 name
FitsEntry (Str string) = Fits2 string
FitsEntry (Fieldref class member) = Fits2 class × Fits2 member
FitsEntry (Methodref class member) = Fits2 class × Fits2 member
FitsEntry (InterfaceMethodref class member) = Fits2 class × Fits2 member
FitsEntry (NameAndType name desc) = Fits2 name × Fits2 desc
FitsEntry (MethodHandle kind member) = Fits1 kind × Fits2 member
FitsEntry (MethodType desc) = Fits2 desc
FitsEntry (InvokeDynamic bootstrap member) = Fits2 bootstrap × Fits2 member

-- Long and Double take two indices (4.4.5).
abbrev pub is_wide : PoolEntry → Bool
is_wide (Long bits) = true
is_wide (Double bits) = true
is_wide _ = false

-- The entries from one index on, which is unusable where that is said. Behind a Long or a Double the next index is
-- unusable, and must be there; no other is.
abbrev pub FitsFrom : Bool → List PoolEntry → Type 0
FitsFrom unusable [] = unusable ≡ false
FitsFrom true (e ∷ entries) = (e ≡ Unusable) × FitsFrom false entries
FitsFrom false (e ∷ entries) = FitsEntry e × FitsFrom (is_wide e) entries

-- Index 0 is there, and unusable.
abbrev pub FitsPool : List PoolEntry → Type 0
FitsPool pool = FitsFrom true pool × Fits2 (length pool)
