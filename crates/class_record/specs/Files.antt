-- The files of a run, and which of them a loader finds for the name of a class (JVMS 5.3).
use Rattle.std.specs.Prelude.{ℕ, List, Bool, true, false, Option}
use Rattle.std.specs.Option.{option_map}
use Rattle.std.specs.FinMap.{get}
use Rattle.jsa_base.specs.Reading.{◌>>=◌}
use Rattle.jsa_files.specs.Store.{Contents}
use Rattle.loader_rules.specs.declared.loader.Loader.{Loader}
use Rattle.loader_rules.specs.declared.loader.Loader.TheVariants.{Boot, Platform, App}
use Rattle.loader_rules.specs.Lists.{FolderLists}
use Rattle.loader_rules.specs.Finding.{Place, found}

-- an internal name (4.2.1)
abbrev pub Name : Type 0
Name = List ℕ

-- what the files hold, by their paths, and the folders of the three loaders
pub record RunFiles : Type 0 where
  pub contents : Contents
  pub folders : FolderLists

-- a file that a loader finds, with the loader whose folder it is in: the one that defines its class
pub record ClassFile : Type 0 where
  pub loader : Loader
  pub folder : ℕ
  pub path : List ℕ
  pub bytes : List ℕ

abbrev pub file_at : Place → List ℕ → ClassFile
file_at place bytes = record { loader = place.loader; folder = place.folder; path = place.path; bytes = bytes }

-- the file that a loader finds for a name
abbrev pub file_of : RunFiles → Loader → Name → Option ClassFile
file_of p from name = found p.contents p.folders from name >>= λ place. option_map (file_at place) (get p.contents place.path)

-- The file of a name is the same for each loader that finds one, and the application loader asks all folders.
abbrev pub path_of : RunFiles → Name → Option (List ℕ)
path_of p name = option_map (λ file. file.path) (file_of p App name)

-- A loader sees the classes that it defines itself and those of the loaders above it.
abbrev pub sees : Loader → Loader → Bool
sees from Boot = true
sees Boot Platform = false
sees Platform Platform = true
sees App Platform = true
sees Boot App = false
sees Platform App = false
sees App App = true
