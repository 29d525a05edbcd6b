-- A world of classes: all that a run asks of where its classes come from.
use Rattle.std.specs.Prelude.{ℕ, List, length, Bool, false, Option, Some, None, nat_lt, ⊤}
use Rattle.jsa_files.specs.declared.TheConstants.{MAX_FILE}
use Rattle.jsa_files.specs.Store.{Contents}
use Rattle.loader_rules.specs.declared.loader.Loader.{Loader}
use Rattle.loader_rules.specs.declared.loader.Loader.TheVariants.{App}
use Rattle.loader_rules.specs.Lists.{FolderLists}
use Rattle.class_record.specs.Files.{Name, RunFiles, ClassFile, file_of, path_of}
use Rattle.class_record.specs.Loading.{Outcome, load_of}
use Rattle.class_record.specs.Linking.{link_of}
use Rattle.class_record.specs.Facts.{Facts}
use Rattle.class_record.specs.Records.{record_of}

pub record ClassWorld : Type 0 where
  -- the load of a name from a loader
  pub load : Loader → Name → Outcome
  -- the link of a class that loads
  pub link : Name → Outcome
  -- what is known of a class that loads
  pub class : Name → Option Facts
  -- the path at which the class file of a name is read, and whether the file is above the limit on its size
  pub path : Name → Option (List ℕ)
  pub is_large : Name → Bool

abbrev pub is_larger : Option ClassFile → Bool
is_larger None = false
is_larger (Some file) = nat_lt MAX_FILE (length file.bytes)

-- the world in which each class comes from its file
abbrev pub world_of_files : RunFiles → ClassWorld
world_of_files p = record {
  load = load_of p;
  link = link_of p;
  class = record_of p;
  path = path_of p;
  is_large = λ name. is_larger (file_of p App name);
}

-- where the classes of a run come from: the folders of its loaders, and what the files hold, where they tell it
pub record World : Type 0 where
  pub folders : FolderLists
  pub contents : Option Contents

-- The statement holds of the world of these files, where they are told.
abbrev pub AsToldOf : FolderLists → Option Contents → (ClassWorld → Type 0) → Type 0
AsToldOf folders None P = ⊤
AsToldOf folders (Some contents) P = P (world_of_files (record { contents = contents; folders = folders }))

abbrev pub AsTold : World → (ClassWorld → Type 0) → Type 0
AsTold w P = AsToldOf w.folders w.contents P
