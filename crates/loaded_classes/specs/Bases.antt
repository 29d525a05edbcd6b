-- Auxiliary: what a class is based on, by the places of classes in the load order.
use Rattle.std.specs.Prelude.{ℕ, List, [], ◌∷◌, nat_eq, Option, Some, None, slice_get}
use Rattle.std.specs.List.{filter_map}
use Rattle.std.specs.Global.{Vec}
use Rattle.std.specs.HashMap.{HashMap}
use Rattle.indexmap.specs.IndexSet.{insert_key}
use Rattle.class_tree.specs.declared.constant_pool.PoolEntry.{PoolEntry}
use Rattle.class_tree.specs.WellFormed.{class_name}
use Rattle.class_record.specs.Files.{Name}
use Rattle.loaded_classes.specs.declared.held.HeldClass.{HeldClass}
use Rattle.loaded_classes.specs.Held.{known_at}

abbrev pub known_of : {S : Type 0} → HashMap (Vec ℕ) ℕ S → Option Name → Option ℕ
known_of places None = None
known_of places (Some name) = known_at places name

-- the class that the Class at an index names
abbrev pub base_id : {S : Type 0} → HashMap (Vec ℕ) ℕ S → List PoolEntry → ℕ → Option ℕ
base_id places pool index = known_of places (class_name pool index)

unfoldable pub base_ids : {S : Type 0} → HashMap (Vec ℕ) ℕ S → List PoolEntry → List ℕ → List ℕ
base_ids places pool indices = filter_map (base_id places pool) indices

-- ---- its superinterfaces

-- those that aren't there are put at the end, each once
abbrev pub ids_appended : List ℕ → List ℕ → List ℕ
ids_appended old [] = old
ids_appended old (n ∷ ns) = ids_appended (insert_key nat_eq old n) ns

abbrev pub superinterfaces_held : Option HeldClass → List ℕ
superinterfaces_held None = []
superinterfaces_held (Some h) = h.superinterfaces

abbrev pub superinterfaces_at : List HeldClass → ℕ → List ℕ
superinterfaces_at held id = superinterfaces_held (slice_get held id)

abbrev pub of_super : List HeldClass → Option ℕ → List ℕ
of_super held None = []
of_super held (Some id) = superinterfaces_at held id

-- an interface behind its superinterfaces
abbrev pub interface_appended : List HeldClass → List ℕ → ℕ → List ℕ
interface_appended held old id = insert_key nat_eq (ids_appended old (superinterfaces_at held id)) id

abbrev pub interfaces_appended : List HeldClass → List ℕ → List ℕ → List ℕ
interfaces_appended held old [] = old
interfaces_appended held old (n ∷ ns) = interfaces_appended held (interface_appended held old n) ns

abbrev pub superinterface_ids : List HeldClass → Option ℕ → List ℕ → List ℕ
superinterface_ids held sup interfaces = interfaces_appended held (ids_appended [] (of_super held sup)) interfaces

-- ---- its size

abbrev pub size_held : Option HeldClass → ℕ
size_held None = 0
size_held (Some h) = h.instance_size

abbrev pub size_at : List HeldClass → Option ℕ → ℕ
size_at held None = 0
size_at held (Some id) = size_held (slice_get held id)
