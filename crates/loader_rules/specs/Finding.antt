-- Which file a loader finds for the name of a class, in a store's contents.
use Rattle.std.specs.Prelude.{ℕ, ◌+◌, List, [], ◌∷◌, ◌++◌, Bool, if◌then◌else◌, is_some, Option, nat_eq, codes}
use Rattle.std.specs.List.{filter_map, find, starts_with}
use Rattle.std.specs.Option.{option_map}
use Rattle.std.specs.FinMap.{get}
use Rattle.jsa_files.specs.Store.{Contents}
use Rattle.jsa_names.specs.Paths.{path_of}
use Rattle.loader_rules.specs.declared.loader.Loader.{Loader}
use Rattle.loader_rules.specs.declared.loader.Loader.TheVariants.{Boot, Platform, App}
use Rattle.loader_rules.specs.Lists.{FolderLists}

-- the path of a folder, or of a file in it, with the loader whose folder it is and the folder's number
pub record Place : Type 0 where
  pub loader : Loader
  pub folder : ℕ
  pub path : List ℕ

-- the folders of a loader, with their numbers from this one on
abbrev pub numbered : Loader → ℕ → List (List ℕ) → List Place
numbered loader first [] = []
numbered loader first (path ∷ paths) = record { loader = loader; folder = first; path = path } ∷ numbered loader (first + 1) paths

-- The folders that are asked, in order: each loader asks those of the loaders above it first (JVMS 5.3.2). The boot
-- folder has the number 0, the platform folder 1, the application folders those from 2 on.
abbrev pub folders_of : FolderLists → Loader → List Place
folders_of lists Boot = numbered Boot 0 lists.boot
folders_of lists Platform = numbered Boot 0 lists.boot ++ numbered Platform 1 lists.platform
folders_of lists App = (numbered Boot 0 lists.boot ++ numbered Platform 1 lists.platform) ++ numbered App 2 lists.app

-- names for which the boot folders alone are asked
abbrev pub is_java : List ℕ → Bool
is_java name = starts_with nat_eq name (codes "java/")

-- the loader whose folders are asked last
abbrev pub last_asked : Loader → List ℕ → Loader
last_asked from name = if is_java name then Boot else from

-- the class's file in a folder, where a name can have one
abbrev pub file_in : List ℕ → Place → Option Place
file_in name folder = option_map (λ path. record { loader = folder.loader; folder = folder.folder; path = path }) (path_of folder.path name)

-- the class's file in each folder that is asked, whether it is there or not
abbrev pub files_of : FolderLists → Loader → List ℕ → List Place
files_of lists from name = filter_map (file_in name) (folders_of lists (last_asked from name))

-- the first of these files that is there
abbrev pub first_of : Contents → List Place → Option Place
first_of contents files = find (λ file. is_some (get contents file.path)) files

-- the file that a loader finds for a name
abbrev pub found : Contents → FolderLists → Loader → List ℕ → Option Place
found contents lists from name = first_of contents (files_of lists from name)
