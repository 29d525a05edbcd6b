-- Texts and indices that grow along a list of what is needed.
use Rattle.std.proofs.Common.{ℕ, Option, Some, None, List, ◌++◌}
use Rattle.class_tree.specs.declared.constant_pool.PoolEntry.{PoolEntry}

abbrev pub front : {A : Type 0} → List A → Option (List A × List PoolEntry) → Option (List A × List PoolEntry)
front done (Some x) = Some (done ++ x.0, x.1)
front done None = None

abbrev pub front_text : List ℕ → Option (List ℕ) → Option (List ℕ)
front_text done (Some text) = Some (done ++ text)
front_text done None = None
