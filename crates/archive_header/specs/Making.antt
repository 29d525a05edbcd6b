-- How the code makes a manifest: file by file, then folder by folder. No public contract cites these.
use Rattle.std.specs.Prelude.{◌≡◌, ℕ, ◌+◌, ◌<◌, ◌≤◌, List, [], ◌∷◌, ◌++◌, length, IsTrue, Option, Some, None, Result, Ok, Err, ⊤}
use Rattle.std.specs.List.{list_all}
use Rattle.std.specs.Option.{option_to_list, IfSome}
use Rattle.jsa_files.specs.declared.TheConstants.{MAX_FILE, MAX_NAMES}
use Rattle.jsa_files.specs.declared.fault.FilesFault.{FilesFault}
use Rattle.jsa_files.specs.declared.fault.FilesFault.TheVariants.{Failed, TooLarge, TooMany, Memory}
use Rattle.jsa_files.specs.Store.{Store, Contents}
use Rattle.archive_header.specs.declared.folders.ListedFile.{ListedFile}
use Rattle.archive_header.specs.declared.folders.Folder.{Folder}
use Rattle.archive_header.specs.Folders.{has_text_name, is_folder}
use Rattle.archive_header.specs.Manifests.{names_to, is_small, files_of, paths_of}

-- This holds of the contents, where the store tells.
abbrev pub IfTold : Option Store → (Contents → Type 0) → Type 0
IfTold None P = ⊤
IfTold (Some store) P = P store.contents

-- Where the store tells, the answer has this property where no limit is met, and is else the first limit.
abbrev pub Answers : {A : Type 0} → Option Store → (Contents → Option FilesFault) → (Contents → A → Type 0) → Result A FilesFault → Type 0
Answers told limit Is (Ok x) = IfTold told (λ contents. (limit contents ≡ None) × Is contents x)
Answers told limit Is (Err Failed) = ⊤
Answers told limit Is (Err (TooLarge size)) = IfTold told (λ contents. limit contents ≡ Some (TooLarge size))
Answers told limit Is (Err (TooMany count)) = IfTold told (λ contents. limit contents ≡ Some (TooMany count))
Answers told limit Is (Err Memory) = ⊤

-- What is too large or too many is above the limit.
abbrev pub IsAbove : FilesFault → Type 0
IsAbove Failed = ⊤
IsAbove (TooLarge size) = MAX_FILE < size
IsAbove (TooMany count) = MAX_NAMES < count
IsAbove Memory = ⊤

-- a file of this name, which is small enough
abbrev pub IsListed : List ℕ → ListedFile → Type 0
IsListed name file = (file.name ≡ name) × IsTrue (has_text_name file) × IsTrue (is_small file)

-- A file of this name is appended, or none.
pub record Adds (name : List ℕ) (before after : List ListedFile) : Type 0 where
  pub file : Option ListedFile
  pub listed : IfSome file (IsListed name)
  pub is : after ≡ before ++ option_to_list file

-- The files have these names in their order, where some may be left out.
abbrev pub HaveNames : List ListedFile → List (List ℕ) → Type 0
HaveNames files [] = files ≡ []
HaveNames files (name ∷ names) = (file : Option ListedFile) × (rest : List ListedFile) × IfSome file (IsListed name) × (files ≡ option_to_list file ++ rest) × HaveNames rest names

-- A folder of this path. Where there were so many names before it, there are now so many.
pub record IsMade (path : List ℕ) (before now : ℕ) (folder : Folder) : Type 0 where
  pub path_is : folder.path ≡ path
  pub listed : IsTrue (is_folder folder)
  pub small : IsTrue (list_all is_small folder.files)
  pub number : before + length folder.files ≤ now

-- Such a folder is appended.
pub record AddsFolder (path : List ℕ) (before now : ℕ) (old new : List Folder) : Type 0 where
  pub folder : Folder
  pub made : IsMade path before now folder
  pub is : new ≡ old ++ folder ∷ []

-- how many names there are up to and with these folders
abbrev pub names_from : Contents → ℕ → List (List ℕ) → ℕ
names_from contents before [] = before
names_from contents before (folder ∷ folders) = names_from contents (names_to contents before folder) folders

-- folders of these paths, in the same way
pub record AreMade (paths : List (List ℕ)) (before now : ℕ) (folders : List Folder) : Type 0 where
  pub paths_are : paths_of folders ≡ paths
  pub listed : IsTrue (list_all is_folder folders)
  pub small : IsTrue (list_all is_small (files_of folders))
  pub number : before + length (files_of folders) ≤ now
