-- What is so of all that loading keeps where the store of files tells what they hold.
use Rattle.std.specs.Prelude.{◌≡◌, ℕ, ◌≤◌, List, [], ◌∷◌, length, take, Option, Some, None, ⊤}
use Rattle.std.specs.List.{AllByRecursion}
use Rattle.std.specs.Option.{option_map}
use Rattle.jsa_files.specs.declared.TheConstants.{MAX_FILE}
use Rattle.jsa_files.specs.Store.{Store}
use Rattle.loader_rules.specs.declared.loader.Loader.{Loader}
use Rattle.loader_rules.specs.declared.loader.Loader.TheVariants.{App}
use Rattle.loader_rules.specs.Lists.{FolderLists}
use Rattle.class_tree.specs.declared.tree.ClassTree.{ClassTree}
use Rattle.class_record.specs.declared.bases.Base.{Base}
use Rattle.class_record.specs.Files.{Name, RunFiles, ClassFile, file_of}
use Rattle.class_record.specs.Readings as readings
use Rattle.class_record.specs.Facts.{Facts, names_of}
use Rattle.class_record.specs.Loading.{class_of}
use Rattle.class_record.specs.Ancestors.{newest}
use Rattle.class_record.specs.Orders.{IsBase, IsOrder}
use Rattle.class_record.specs.Worlds.{world_of_files}
use Rattle.class_record.specs.Calls.{AreOf, Progress}
use Rattle.loaded_classes.specs.Table.{ClassTable}
use Rattle.class_linker.specs.declared.readings.Held.{Held}
use Rattle.class_linker.specs.declared.readings.Held.TheVariants.{Tree, Loaded, OtherVersion, NotClass}
use Rattle.class_linker.specs.declared.readings.Reading.{Reading}
use Rattle.class_linker.specs.declared.under_way.Frame.{Frame}
use Rattle.class_linker.specs.Kept.{names_read, names_loaded, bases_left}

-- the files that a store tells, in these folders
abbrev pub files_in : Store → FolderLists → RunFiles
files_in store folders = record { contents = store.contents; folders = folders }

abbrev pub ForFiles : Option Store → FolderLists → (RunFiles → Type 0) → Type 0
ForFiles None folders P = ⊤
ForFiles (Some store) folders P = P (files_in store folders)

-- how far loading has come
abbrev pub progress_of : Store → List Reading → ClassTable → Progress
progress_of store read t = record { order = names_loaded t; begun = names_read read; reads = store.reads }

-- the loaded names, the newest first
abbrev pub order_of : ClassTable → List Name
order_of t = names_of (newest t.classes)

-- What is held is what the bytes are.
abbrev pub IsHeldOf : readings.Reading → Held → Type 0
IsHeldOf reading (Tree tree) = reading ≡ readings.IsClass tree
IsHeldOf reading Loaded = ⊤
IsHeldOf reading OtherVersion = reading ≡ readings.OtherVersion
IsHeldOf reading NotClass = reading ≡ readings.NotClass

-- A class file that was read is the one that is found for its name.
pub record IsRead (p : RunFiles) (r : Reading) : Type 0 where
  pub file : ClassFile
  pub found : file_of p App r.name ≡ Some file
  pub loader : file.loader ≡ r.loader
  pub folder : file.folder ≡ r.folder
  pub small : length file.bytes ≤ MAX_FILE
  pub held : IsHeldOf (readings.reading_of file.bytes) r.held

-- the tree of the class that the application loader finds for a name
abbrev pub tree_of : RunFiles → Name → Option ClassTree
tree_of p name = option_map (λ c. c.tree) (class_of p App name)

-- Each tree is that of the class file that is found for the name of the class at its place.
abbrev pub AreTreesOf : RunFiles → List Facts → List ClassTree → Type 0
AreTreesOf p [] [] = Unit {0}
AreTreesOf p [] (t ∷ ts) = ⊥
AreTreesOf p (f ∷ fs) [] = ⊥
AreTreesOf p (f ∷ fs) (t ∷ ts) = (tree_of p f.name ≡ Some t) × AreTreesOf p fs ts

pub record IsRight (p : RunFiles) (read : List Reading) (t : ClassTable) : Type 0 where
  pub readings : AllByRecursion (IsRead p) read
  pub order : IsOrder p (order_of t)
  pub facts : AreOf (world_of_files p) t.classes
  pub trees : AreTreesOf p t.classes t.trees

-- What a class under way is based on, as far as it is done, is loaded and passes the tests.
abbrev pub IsFrameOf : RunFiles → ClassTable → Frame → Type 0
IsFrameOf p t f = AllByRecursion (IsBase p (order_of t) f.name f.loader) (take f.done f.bases)

-- What a class further out waits for is found by the loader that defines that class.
abbrev pub IsSeen : RunFiles → Loader → List Base → Type 0
IsSeen p loader [] = ⊤
IsSeen p loader (b ∷ bs) = file_of p loader b.name ≡ file_of p App b.name

abbrev pub AreFramesOf : RunFiles → ClassTable → List Frame → Type 0
AreFramesOf p t [] = Unit {0}
AreFramesOf p t (f ∷ fs) = IsFrameOf p t f × AreFramesOf p t fs

abbrev pub AreSeen : RunFiles → List Frame → Type 0
AreSeen p [] = Unit {0}
AreSeen p (f ∷ fs) = IsSeen p f.loader (bases_left f) × AreSeen p fs

abbrev pub IsPathOf : RunFiles → ClassTable → List Frame → Type 0
IsPathOf p t [] = Unit {0}
IsPathOf p t (f ∷ fs) = AreFramesOf p t (f ∷ fs) × AreSeen p fs

-- the same with these paths as what was read
abbrev pub progress_at : List (List ℕ) → List Reading → ClassTable → Progress
progress_at reads read t = record { order = names_loaded t; begun = names_read read; reads = reads }
