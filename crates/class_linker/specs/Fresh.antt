-- What contracts see of the classes of a run that are taken from their files.
use Rattle.std.specs.Prelude.{ℕ, List, [], Option, Some, None}
use Rattle.std.specs.Option.{option_map}
use Rattle.jsa_files.specs.Store.{Store}
use Rattle.loader_rules.specs.Lists.{FolderLists}
use Rattle.class_record.specs.Worlds.{World}
use Rattle.loaded_classes.specs.Table.{ClassTable, empty_table}
use Rattle.class_linker.specs.declared.readings.Reading.{Reading}
use Rattle.class_linker.specs.Kept.{IsKept}
use Rattle.class_linker.specs.Rights.{ForFiles, IsRight}

pub record FreshView (F : Type 0) : Type 0 where
  pub folders : FolderLists
  pub files : F
  pub readings : List Reading
  pub loaded : ClassTable

abbrev pub fresh_view : {F : Type 0} → FolderLists → F → FreshView F
fresh_view folders files = record { folders = folders; files = files; readings = []; loaded = empty_table }

pub record Stands (store : Option Store) (folders : FolderLists) (read : List Reading) (t : ClassTable) : Type 0 where
  pub kept : IsKept read t
  pub right : ForFiles store folders (λ p. IsRight p read t)

-- ---- the meanings that the classes of a run have

abbrev pub world_in : Option Store → FolderLists → World
world_in store folders = record { folders = folders; contents = option_map (λ s. s.contents) store }

abbrev pub reads_in : Option Store → List (List ℕ)
reads_in None = []
reads_in (Some store) = store.reads
