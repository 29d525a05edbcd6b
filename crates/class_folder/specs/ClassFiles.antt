-- The files of classes in a folder, and what files that are written to a store one after the other leave there.
use Rattle.std.specs.Prelude.{◌≡◌, ◌⊎◌, ◌≤◌, ℕ, List, [], ◌∷◌, ◌++◌, length, Option, Some, Result, Ok, Err}
use Rattle.std.specs.FinMap.{insert}
use Rattle.std.specs.List.{filter_map}
use Rattle.std.specs.Option.{option_and_then, option_map}
use Rattle.jsa_files.specs.declared.fault.FilesFault.{FilesFault}
use Rattle.jsa_files.specs.declared.fault.FilesFault.TheVariants.{Failed, TooLarge, TooMany, Memory}
use Rattle.jsa_files.specs.Causes.{Rose}
use Rattle.jsa_files.specs.Store.{Contents}
use Rattle.jsa_files.specs.Told.{HoldsFront}
use Rattle.jsa_names.specs.Paths as names
use Rattle.class_tree.specs.declared.tree.ClassTree.{ClassTree}
use Rattle.class_tree.specs.WellFormed.{class_name}
use Rattle.class_tree.specs.Encoded.{encoded}

-- a file: its path and its bytes
pub record File : Type 0 where
  pub path : List ℕ
  pub bytes : List ℕ

-- ---- the files of classes

-- The path of a class's file in the folder, where its name has one.
abbrev pub path_of_tree : List ℕ → ClassTree → Option (List ℕ)
path_of_tree folder tree = option_and_then (names.path_of folder) (class_name tree.pool tree.this)

abbrev pub file_of_tree : List ℕ → ClassTree → Option File
file_of_tree folder tree = option_map (λ path. record { path = path; bytes = encoded tree }) (path_of_tree folder tree)

-- the files of classes, in the order of the classes
abbrev pub files_of : List ℕ → List ClassTree → List File
files_of folder trees = filter_map (file_of_tree folder) trees

-- The class's name has a path in the folder.
abbrev pub HasFile : List ℕ → ClassTree → Type 0
HasFile folder tree = (path : List ℕ) × (path_of_tree folder tree ≡ Some path)

-- as many files as classes
abbrev pub HaveFiles : List ℕ → List ClassTree → Type 0
HaveFiles folder trees = length (files_of folder trees) ≡ length trees

abbrev pub file_at : List ℕ → List ℕ → File
file_at path bytes = record { path = path; bytes = bytes }

-- ---- what a store holds

-- what it holds once files were written, one after the other
abbrev pub with_files : Contents → List File → Contents
with_files contents [] = contents
with_files contents (file ∷ files) = with_files (insert contents file.path file.bytes) files

-- the same, where it tells
abbrev pub after_files : Option Contents → List File → Option Contents
after_files contents files = option_map (λ c. with_files c files) contents

-- The first of the files were written, and nothing else.
pub record WritesSome (old new : Option Contents) (files : List File) : Type 0 where
  pub done : List File
  pub rest : List File
  pub among : files ≡ done ++ rest
  pub holds : new ≡ after_files old done

-- The first of the files were written, and then one wasn't: its path holds what it held or a front of its bytes.
pub record FailsAt (old new : Option Contents) (files : List File) : Type 0 where
  pub done : List File
  pub file : File
  pub rest : List File
  pub among : files ≡ done ++ file ∷ rest
  pub holds : (new ≡ after_files old done) ⊎ HoldsFront (after_files old done) new file.path file.bytes

-- ---- what a call that writes files answers

-- Files were written, one after the other; or the first of them, and why not all.
abbrev pub WritesFiles : {T : Type 0} → Option Contents → Option Contents → ℕ × ℕ → List File → Result T FilesFault → Type 0
WritesFiles old new faults asked (Ok x) = new ≡ after_files old asked
WritesFiles old new faults asked (Err Failed) = FailsAt old new asked × Rose faults.0 faults.1
WritesFiles old new faults asked (Err Memory) = WritesSome old new asked
WritesFiles old new faults asked (Err (TooLarge size)) = ⊥
WritesFiles old new faults asked (Err (TooMany count)) = ⊥

-- The count of a store's writes that failed: it rose where a write failed, and else is as before.
abbrev pub CountsWrites : {T : Type 0} → ℕ → ℕ → Result T FilesFault → Type 0
CountsWrites before now (Ok x) = now ≡ before
CountsWrites before now (Err Failed) = (before ≤ now) × Rose before now
CountsWrites before now (Err Memory) = now ≡ before
CountsWrites before now (Err (TooLarge size)) = now ≡ before
CountsWrites before now (Err (TooMany count)) = now ≡ before
