-- What the code keeps beside the entries: a map from the bytes by which an entry is written to its index.
use Rattle.std.specs.Prelude.{◌≡◌, ℕ, ◌≤◌, List, [], length, position, Option, Some}
use Rattle.std.specs.Global.{Vec}
use Rattle.std.specs.HashMap.{HashMap, get_by}
use Rattle.std.specs.Str.{bytes_eq}
use Rattle.jsa_base.specs.Reading.{◌>>=◌}
use Rattle.class_tree.specs.declared.constant_pool.PoolEntry.{PoolEntry}
use Rattle.class_tree.specs.Entries.{entry}
use Rattle.pool_builder.specs.Needs.{added, within}

-- the index that is known of the bytes
abbrev pub known_at : {S : Type 0} → HashMap (Vec ℕ) ℕ S → List ℕ → Option ℕ
known_at places bytes = get_by (λ key. bytes_eq bytes key.items) places

-- the index of the first entry that is written so
abbrev pub first_written : List ℕ → List PoolEntry → Option ℕ
first_written bytes pool = position (λ e. bytes_eq bytes (entry e)) pool

-- The count of the pool fits its two bytes, index 0 is written as no bytes, and of all bytes the first entry that is
-- written so is known.
pub record Knows {S : Type 0} (places : HashMap (Vec ℕ) ℕ S) (pool : List PoolEntry) : Type 0 where
  pub small : length pool ≤ 65535
  pub start : known_at places [] ≡ Some 0
  pub known : (bytes : List ℕ) → known_at places bytes ≡ first_written bytes pool

-- the index of an entry that is put at the end, with the pool after it, if the pool has room
abbrev pub put_last : PoolEntry → List PoolEntry → Option (ℕ × List PoolEntry)
put_last e pool = within (added pool e) >>= λ after. Some (length pool, after)
