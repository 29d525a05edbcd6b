-- How the code searches: the end of a class's path is the same in each folder. No public contract cites these.
use Rattle.std.specs.Prelude.{◌≡◌, ℕ, List, ◌++◌, map, Option, Some, None, ⊤}
use Rattle.jsa_files.specs.Store.{Store}
use Rattle.loader_rules.specs.Finding.{Place, first_of}
use Rattle.loader_rules.specs.Outcomes.{FindAnswer, Finds, IsAmong, reads_after}

-- the class's file in a folder, by what follows the folder in its path
abbrev pub file_at : List ℕ → Place → Place
file_at tail folder = record { loader = folder.loader; folder = folder.folder; path = folder.path ++ tail }

abbrev pub files_at : List ℕ → List Place → List Place
files_at tail folders = map (file_at tail) folders

-- The answer is the first of these files that is there, where the store tells.
abbrev pub FirstAsTold : Option Store → List Place → FindAnswer → Type 0
FirstAsTold None files result = ⊤
FirstAsTold (Some store) files result = Finds store.contents (first_of store.contents files) result

abbrev pub store_after : Option Store → List Place → FindAnswer → Option Store
store_after None files result = None
store_after (Some store) files result = Some (record { contents = store.contents; reads = reads_after store.reads (first_of store.contents files) result })

-- what a search for the first of these files answers and leaves
pub record Searches (before after : Option Store) (files : List Place) (result : FindAnswer) : Type 0 where
  pub answer : FirstAsTold before files result
  pub among : IsAmong files result
  pub store : after ≡ store_after before files result
