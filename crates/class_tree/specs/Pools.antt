-- Which bytes spell which constant pool.
use Rattle.std.specs.Prelude.{◌≡◌, ℕ, List, ◌++◌, Some, None, IsTrue, if◌then◌else◌}
use Rattle.jsa_base.specs.Reading.{◌>>=◌, Read}
use Rattle.class_tree.specs.declared.constant_pool.PoolEntry.{PoolEntry}
use Rattle.class_tree.specs.Entries.{pool_text, FitsPool}
use Rattle.class_tree.specs.Reading.{pool_at}
use Rattle.class_tree.specs.Links.{is_linked}

-- The bytes are the text of the pool, and behind it the rest.
pub record SpellsPool (bytes : List ℕ) (pool : List PoolEntry) (rest : List ℕ) : Type 0 where
  pub written : bytes ≡ pool_text pool ++ rest
  pub fits : FitsPool pool
  pub linked : IsTrue (is_linked pool)

-- Bytes have one pool in front at most, wherever it ends.
abbrev pub OnePool : Type 0
OnePool = (bytes : List ℕ) (p q : List PoolEntry) (x y : List ℕ) → SpellsPool bytes p x → SpellsPool bytes q y → (p ≡ q) × (x ≡ y)

-- How it is read: the entries first, then what they say of each other.
unfoldable pub linked_pool_at : List ℕ → Read (List PoolEntry)
linked_pool_at bytes = do
  pool ← pool_at bytes
  if is_linked pool.0 then Some pool else None
