-- Classes that were loaded one after the other from the files of a run.
use Rattle.std.specs.Prelude.{◌≡◌, ◌≤◌, List, [], ◌∷◌, length, true, false, Some, None}
use Rattle.std.specs.List.{AllByRecursion}
use Rattle.std.specs.Str.{bytes_eq}
use Rattle.jsa_files.specs.declared.TheConstants.{MAX_FILE}
use Rattle.loader_rules.specs.declared.loader.Loader.{Loader}
use Rattle.loader_rules.specs.declared.loader.Loader.TheVariants.{App}
use Rattle.class_tree.specs.declared.tree.ClassTree.{ClassTree}
use Rattle.class_record.specs.Files.{Name, RunFiles, ClassFile, file_of}
use Rattle.class_record.specs.Readings.{IsClass, reading_of}
use Rattle.class_record.specs.declared.bases.Base.{Base}
use Rattle.class_tree.specs.ClassNames.{own_name}
use Rattle.class_record.specs.Trees.{bases_of}
use Rattle.class_record.specs.Loading.{Outcome, is_among, tests, load_under, begun_in, completed_in}

-- A class is based on this one, which is loaded, is the same from the loader that defines the class, and passes the tests.
pub record IsBase (p : RunFiles) (older : List Name) (name : Name) (loader : Loader) (base : Base) : Type 0 where
  pub loaded : is_among base.name older ≡ true
  pub same : file_of p loader base.name ≡ file_of p App base.name
  pub passes : (tests p name loader base).fault ≡ None

-- The class of a name is found and spelled, its name is its own, and all that it is based on was loaded before it.
pub record IsLoaded (p : RunFiles) (older : List Name) (name : Name) : Type 0 where
  pub file : ClassFile
  pub tree : ClassTree
  pub is_new : is_among name older ≡ false
  pub found : file_of p App name ≡ Some file
  pub small : length file.bytes ≤ MAX_FILE
  pub spells : reading_of file.bytes ≡ IsClass tree
  pub named : bytes_eq (own_name tree) name ≡ true
  pub bases : AllByRecursion (IsBase p older name file.loader) (bases_of tree)

-- names of loaded classes, the newest first
abbrev pub IsOrder : RunFiles → List Name → Type 0
IsOrder p [] = Unit {0}
IsOrder p (name ∷ older) = IsLoaded p older name × IsOrder p older

-- no name under way is loaded
abbrev pub Apart : List Name → List Name → Type 0
Apart under order = (name : Name) → is_among name order ≡ true → is_among name under ≡ false

-- The load is Ok, and only what is loaded begins and completes in it.
pub record StaysIn (order : List Name) (outcome : Outcome) : Type 0 where
  pub ok : outcome.fault ≡ None
  pub begun : AllByRecursion (λ name. is_among name order ≡ true) (begun_in outcome.events)
  pub completed : AllByRecursion (λ name. is_among name order ≡ true) (completed_in outcome.events)

-- Names that were loaded one after the other (`IsOrder`: each found, small enough to be read, spelled, based on older ones)
-- load again, whatever is under way beside them, and nothing new happens.
abbrev pub LoadsAgain : Type 0
LoadsAgain = (p : RunFiles) (order under : List Name) (from : Loader) (name : Name) → IsOrder p order → Apart under order → is_among name order ≡ true
    → file_of p from name ≡ file_of p App name → StaysIn order (load_under p under from name)
