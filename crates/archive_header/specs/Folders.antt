-- The folders that a manifest lists, by their numbers, and which of them changed.
use Rattle.std.specs.Prelude.{◌≡◌, ℕ, ◌-◌, ◌<◌, List, [], ◌∷◌, length, Bool, true, ◌&&◌, ◌==◌, nat_lt, if◌then◌else◌, Option, Some, None, slice_get}
use Rattle.std.specs.List.{list_all}
use Rattle.std.specs.Option.{option_map}
use Rattle.std.specs.Ordering.{is_lt, nat_cmp}
use Rattle.std.specs.Cmp.Lexicographic.{slice_cmp}
use Rattle.std.specs.Str.{is_utf8}
use Rattle.jsa_base.specs.Reading.{◌>>=◌}
use Rattle.loader_rules.specs.declared.loader.Loader.{Loader}
use Rattle.loader_rules.specs.declared.loader.Loader.TheVariants.{Boot, Platform, App}
use Rattle.archive_header.specs.declared.folders.ListedFile.{ListedFile}
use Rattle.archive_header.specs.declared.folders.Folder.{Folder}
use Rattle.archive_header.specs.declared.folders.Folders.{Folders}

-- ---- by number

-- boot 0, platform 1, application from 2
abbrev pub folder_of : Folders → ℕ → Option Folder
folder_of m number =
    if number == 0 then m.boot
    else if number == 1 then m.platform
    else slice_get m.app (number - 2)

-- the loader whose folders have this number
abbrev pub loader_at : ℕ → Loader
loader_at number = if number == 0 then Boot else if number == 1 then Platform else App

-- the loader of a folder that is there
abbrev pub loader_of : Folders → ℕ → Option Loader
loader_of m number = option_map (λ _. loader_at number) (folder_of m number)

abbrev pub path_of : Folders → ℕ → Option (List ℕ)
path_of m number = option_map (λ f. f.path) (folder_of m number)

-- the name at a place of a list
abbrev pub name_at : List ListedFile → ℕ → Option (List ℕ)
name_at files place = option_map (λ x. x.name) (slice_get files place)

-- the name at a place of a folder's list
abbrev pub name_of : Folders → ℕ → ℕ → Option (List ℕ)
name_of m number place = folder_of m number >>= λ f. name_at f.files place

-- The place is that of the name in a list, and there is none only where the name isn't in it.
abbrev pub IsPlaceIn : List ListedFile → List ℕ → Option ℕ → Type 0
IsPlaceIn files name (Some place) = name_at files place ≡ Some name
IsPlaceIn files name None = (place : ℕ) → name_at files place ≡ Some name → ⊥

-- The place is that of the name in the folder's list, and there is none only where the name isn't in it.
abbrev pub IsPlaceOf : Folders → ℕ → List ℕ → Option ℕ → Type 0
IsPlaceOf m number name (Some place) = name_of m number place ≡ Some name
IsPlaceOf m number name None = (place : ℕ) → name_of m number place ≡ Some name → ⊥

-- ---- which lists there are

-- one name stands before the other by its bytes
abbrev pub is_below : List ℕ → List ℕ → Bool
is_below a b = is_lt (slice_cmp nat_cmp a b)

-- a file's name stands before that of the next, where there is one
abbrev pub is_before : ListedFile → List ListedFile → Bool
is_before f [] = true
is_before f (g ∷ files) = is_below f.name g.name

-- each name stands before the next
abbrev pub ascends : List ListedFile → Bool
ascends [] = true
ascends (f ∷ files) = is_before f files && ascends files

abbrev pub has_text_name : ListedFile → Bool
has_text_name f = is_utf8 f.name

-- The path and the names are UTF-8, the names ascend, so no two are alike, and each place is a number of 32 bits.
abbrev pub is_folder : Folder → Bool
is_folder f = is_utf8 f.path && nat_lt (length f.files) 0x1_0000_0000 && list_all has_text_name f.files && ascends f.files

abbrev pub is_folder_or_none : Option Folder → Bool
is_folder_or_none None = true
is_folder_or_none (Some f) = is_folder f

-- the same for all folders, and each has a number of 32 bits
abbrev pub are_folders : Folders → Bool
are_folders m = is_folder_or_none m.boot && is_folder_or_none m.platform && nat_lt (length m.app) 0xffff_ffff && list_all is_folder m.app

-- ---- what changed

-- A folder stays where what was kept of it is there now, and for boot and platform nothing is there that wasn't kept.
abbrev pub Stays : Folders → Folders → ℕ → Type 0
Stays kept now number = ((f : Folder) → folder_of kept number ≡ Some f → folder_of now number ≡ Some f) × (number < 2 → folder_of kept number ≡ None → folder_of now number ≡ None)

-- the least number of a folder that doesn't stay
abbrev pub IsFirstChanged : Folders → Folders → Option ℕ → Type 0
IsFirstChanged kept now None = (number : ℕ) → Stays kept now number
IsFirstChanged kept now (Some number) = (Stays kept now number → ⊥) × ((k : ℕ) → k < number → Stays kept now k)
