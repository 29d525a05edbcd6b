-- The manifest of a store: which class files there are in which folders, and the limits that making it meets.
use Rattle.std.specs.Prelude.{◌≡◌, ℕ, ◌+◌, ◌<◌, ◌≤◌, List, [], ◌∷◌, ◌++◌, length, map, Bool, if◌then◌else◌, nat_lt, not, IsTrue, Option, Some, None, Result, Ok, Err, codes, ⊤}
use Rattle.std.specs.List.{filter_map, flat_map, list_all}
use Rattle.std.specs.Option.{option_map, option_or, option_and_then, option_to_list}
use Rattle.std.specs.FinMap.{get}
use Rattle.sha2.specs.Sha256.{sha256}
use Rattle.jsa_files.specs.declared.TheConstants.{MAX_FILE, MAX_NAMES}
use Rattle.jsa_files.specs.declared.fault.FilesFault.{FilesFault}
use Rattle.jsa_files.specs.declared.fault.FilesFault.TheVariants.{Failed, TooLarge, TooMany, Memory}
use Rattle.jsa_files.specs.Store.{Store, Contents}
use Rattle.jsa_files.specs.Listing.{class_names}
use Rattle.loader_rules.specs.Lists.{FolderLists}
use Rattle.archive_header.specs.declared.folders.ListedFile.{ListedFile}
use Rattle.archive_header.specs.declared.folders.Folder.{Folder}
use Rattle.archive_header.specs.declared.folders.Folders.{Folders}

-- ---- the manifest

-- the path of a file of a folder
abbrev pub path_in : List ℕ → List ℕ → List ℕ
path_in folder name = (folder ++ codes "/") ++ name

-- a name with the size and the SHA-256 (FIPS 180-4) of these bytes
abbrev pub listed : List ℕ → List ℕ → ListedFile
listed name bytes = record { name = name; size = length bytes; sha256 = sha256 bytes }

-- the file of a name in a folder, where it is there
abbrev pub listed_at : Contents → List ℕ → List ℕ → Option ListedFile
listed_at contents folder name = option_map (listed name) (get contents (path_in folder name))

-- a folder with its class files, in ascending order of their names
abbrev pub folder_now : Contents → List ℕ → Folder
folder_now contents path = record { path = path; files = filter_map (listed_at contents path) (class_names contents path) }

-- the folder of a loader that has one at most
abbrev pub one_now : Contents → List (List ℕ) → Option Folder
one_now contents [] = None
one_now contents (path ∷ paths) = Some (folder_now contents path)

-- The manifest of a store: each folder of the loaders, as the contents have it.
abbrev pub manifest_now : Contents → FolderLists → Folders
manifest_now contents lists = record {
  boot = one_now contents lists.boot;
  platform = one_now contents lists.platform;
  app = map (folder_now contents) lists.app;
}

-- ---- the limits

-- a file of more than 64 MiB
abbrev pub too_large : List ℕ → Option FilesFault
too_large bytes = if nat_lt MAX_FILE (length bytes) then Some (TooLarge (length bytes)) else None

-- a file of a folder that is too large
abbrev pub large_at : Contents → List ℕ → List ℕ → Option FilesFault
large_at contents folder name = option_and_then too_large (get contents (path_in folder name))

-- the first file of a folder that is too large, in the order of these names
abbrev pub first_large : Contents → List ℕ → List (List ℕ) → Option FilesFault
first_large contents folder [] = None
first_large contents folder (name ∷ names) = option_or (large_at contents folder name) (first_large contents folder names)

-- more names than are listed
abbrev pub too_many : ℕ → Option FilesFault
too_many count = if nat_lt MAX_NAMES count then Some (TooMany count) else None

-- What a folder with these names meets first, where the folders before it have so many: too many names in its own list,
-- too many in the lists so far, or a file that is too large.
abbrev pub limit_of : Contents → ℕ → List ℕ → List (List ℕ) → Option FilesFault
limit_of contents before folder names = option_or (too_many (length names)) (option_or (too_many (before + length names)) (first_large contents folder names))

-- how many names the folders up to and with this one have
abbrev pub names_to : Contents → ℕ → List ℕ → ℕ
names_to contents before folder = before + length (class_names contents folder)

-- the first limit that these folders meet, one after the other
abbrev pub limit_from : Contents → ℕ → List (List ℕ) → Option FilesFault
limit_from contents before [] = None
limit_from contents before (folder ∷ folders) = option_or (limit_of contents before folder (class_names contents folder)) (limit_from contents (names_to contents before folder) folders)

-- the folders of all loaders in their order: boot, platform, application
abbrev pub all_folders : FolderLists → List (List ℕ)
all_folders lists = (lists.boot ++ lists.platform) ++ lists.app

-- the first limit that a manifest of these folders meets
abbrev pub limit_met : Contents → FolderLists → Option FilesFault
limit_met contents lists = limit_from contents 0 (all_folders lists)

-- ---- what making it answers

abbrev pub MakeAnswer : Type 0
MakeAnswer = Result Folders FilesFault

-- The answer is the manifest where no limit is met, and else the first limit.
abbrev pub Makes : Contents → FolderLists → MakeAnswer → Type 0
Makes contents lists (Ok m) = (limit_met contents lists ≡ None) × (m ≡ manifest_now contents lists)
Makes contents lists (Err Failed) = ⊤
Makes contents lists (Err (TooLarge size)) = limit_met contents lists ≡ Some (TooLarge size)
Makes contents lists (Err (TooMany count)) = limit_met contents lists ≡ Some (TooMany count)
Makes contents lists (Err Memory) = ⊤

-- the same, where the store tells
abbrev pub MakesAsTold : Option Store → FolderLists → MakeAnswer → Type 0
MakesAsTold None lists result = ⊤
MakesAsTold (Some store) lists result = Makes store.contents lists result

-- the files of all folders
abbrev pub files_of : List Folder → List ListedFile
files_of folders = flat_map (λ f. f.files) folders

abbrev pub files_in : Folders → List ListedFile
files_in m = (files_of (option_to_list m.boot) ++ files_of (option_to_list m.platform)) ++ files_of m.app

abbrev pub is_small : ListedFile → Bool
is_small file = not (nat_lt MAX_FILE file.size)

-- Whether the store tells or not: a manifest has small files, and not too many of them. What is too large or too many
-- is above the limit.
abbrev pub MakesSmall : MakeAnswer → Type 0
MakesSmall (Ok m) = IsTrue (list_all is_small (files_in m)) × (length (files_in m) ≤ MAX_NAMES)
MakesSmall (Err Failed) = ⊤
MakesSmall (Err (TooLarge size)) = MAX_FILE < size
MakesSmall (Err (TooMany count)) = MAX_NAMES < count
MakesSmall (Err Memory) = ⊤

-- the folders of a manifest by their paths
abbrev pub paths_of : List Folder → List (List ℕ)
paths_of folders = map (λ f. f.path) folders

abbrev pub lists_of : Folders → FolderLists
lists_of m = record {
  boot = paths_of (option_to_list m.boot);
  platform = paths_of (option_to_list m.platform);
  app = paths_of m.app;
}
