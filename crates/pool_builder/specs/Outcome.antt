-- What the calls of a builder answer.
use Rattle.std.specs.Prelude.{◌≡◌, ⊤, List, Option, Some, None, Result, Ok, Err}
use Rattle.class_tree.specs.declared.constant_pool.PoolEntry.{PoolEntry}
use Rattle.pool_builder.specs.declared.fault.PoolFault.{PoolFault}
use Rattle.pool_builder.specs.declared.fault.PoolFault.TheVariants.{NoRoom, Memory}

-- NoRoom comes exactly where the definition has no value, and want of memory says nothing.
abbrev pub Refuses : {Y : Type 0} → PoolFault → Option Y → Type 0
Refuses NoRoom defined = defined ≡ None
Refuses Memory defined = ⊤

-- What was answered, and the pool that is left, are those of the definition.
abbrev pub Finds : {X : Type 0} → Result X PoolFault → List PoolEntry → Option (X × List PoolEntry) → Type 0
Finds (Ok x) left defined = defined ≡ Some (x, left)
Finds (Err fault) left defined = Refuses fault defined
