-- What the definitions are worth.
use Rattle.std.specs.Prelude.{◌≡◌, ℕ, ℤ, ◌<◌, List, [], ◌∷◌, ◌++◌, Bool, true, false, slice_get, Some, IsTrue, length}
use Rattle.std.specs.List.{AllByRecursion}
use Rattle.class_tree.specs.declared.constant_pool.PoolEntry.{PoolEntry}
use Rattle.class_tree.specs.declared.constant_pool.PoolEntry.TheVariants as entries
use Rattle.class_tree.specs.Entries.{entry}
use Rattle.pool_builder.specs.Needs.{Need, needed, utf8_needed, integer_needed, float_needed, long_needed, double_needed, class_needed, string_needed, name_and_type_needed, field_needed, method_needed, interface_method_needed}

-- ---- what a pool is that was built so

abbrev pub is_usable : PoolEntry → Bool
is_usable entries.Unusable = false
is_usable _ = true

-- Each entry stands once: two that are written alike stand at one index.
abbrev pub StandOnce : List PoolEntry → Type 0
StandOnce pool = (i j : ℕ) (e f : PoolEntry) → slice_get pool i ≡ Some e → slice_get pool j ≡ Some f → IsTrue (is_usable e) → entry e ≡ entry f → i ≡ j

-- the indices inside an entry
abbrev pub parts : PoolEntry → List ℕ
parts (entries.Class name) = name ∷ []
parts (entries.Str string) = string ∷ []
parts (entries.Fieldref class member) = class ∷ member ∷ []
parts (entries.Methodref class member) = class ∷ member ∷ []
parts (entries.InterfaceMethodref class member) = class ∷ member ∷ []
parts (entries.NameAndType name desc) = name ∷ desc ∷ []
parts (entries.MethodHandle kind member) = member ∷ []
parts (entries.MethodType desc) = desc ∷ []
parts (entries.InvokeDynamic bootstrap member) = member ∷ []
parts _ = []

-- Parts stand before the whole.
abbrev pub PartsStandFirst : List PoolEntry → Type 0
PartsStandFirst pool = (i : ℕ) (e : PoolEntry) → slice_get pool i ≡ Some e → AllByRecursion (λ part. part < i) (parts e)

-- Its count fits two bytes, too.
pub record IsBuilt (pool : List PoolEntry) : Type 0 where
  pub once : StandOnce pool
  pub first : PartsStandFirst pool
  pub few : length pool < 65536

-- ---- what a pool keeps

-- A pool grows at its end alone, so that each index stays that of its entry.
pub record Grown (before after : List PoolEntry) : Type 0 where
  pub more : List PoolEntry
  pub is : after ≡ before ++ more

-- It grew, and is built so if it was.
pub record Keeps (before after : List PoolEntry) : Type 0 where
  pub built : IsBuilt before → IsBuilt after
  pub grown : Grown before after

-- ---- laws

-- an entry that is written so stands at the index
abbrev pub StandsAt : PoolEntry → ℕ → List PoolEntry → Type 0
StandsAt e index pool = (held : PoolEntry) × (slice_get pool index ≡ Some held) × (entry held ≡ entry e)

-- A pool grows at its end alone, so that indices stay, and what was needed stands at its index.
pub record Grows (e : PoolEntry) (before : List PoolEntry) (index : ℕ) (after : List PoolEntry) : Type 0 where
  pub more : List PoolEntry
  pub kept : after ≡ before ++ more
  pub stands : StandsAt e index after

abbrev pub NeededGrows : Type 0
NeededGrows = (e : PoolEntry) (before after : List PoolEntry) (index : ℕ) → needed e before ≡ Some (index, after) → Grows e before index after

-- What is needed leaves a pool that keeps.
abbrev pub Builds : Need → Type 0
Builds need = (before after : List PoolEntry) (index : ℕ) → need before ≡ Some (index, after) → Keeps before after

-- A pool that holds index 0 alone is built so, and whatever is needed leaves one that is.
pub record PoolsAreBuilt : Type 0 where
  pub start : IsBuilt (entries.Unusable ∷ [])
  pub utf8 : (bytes : List ℕ) → Builds (utf8_needed bytes)
  pub integer : (n : ℤ) → Builds (integer_needed n)
  pub float : (bits : ℕ) → Builds (float_needed bits)
  pub long : (n : ℤ) → Builds (long_needed n)
  pub double : (bits : ℕ) → Builds (double_needed bits)
  pub class : (name : List ℕ) → Builds (class_needed name)
  pub string : (string : List ℕ) → Builds (string_needed string)
  pub name_and_type : (name desc : List ℕ) → Builds (name_and_type_needed name desc)
  pub field : (class name desc : List ℕ) → Builds (field_needed class name desc)
  pub method : (class name desc : List ℕ) → Builds (method_needed class name desc)
  pub interface_method : (class name desc : List ℕ) → Builds (interface_method_needed class name desc)
