-- Whether two folders are the same, as tests, and the first of a list that isn't as it was.
use Rattle.std.specs.Prelude.{ℕ, suc, List, [], ◌∷◌, Bool, true, false, ◌&&◌, ◌==◌, if◌then◌else◌, Option, Some, None}
use Rattle.std.specs.Option.{option_map}
use Rattle.std.specs.Cmp.Lexicographic.{pointwise}
use Rattle.std.specs.Str.{bytes_eq}
use Rattle.archive_header.specs.declared.folders.ListedFile.{ListedFile}
use Rattle.archive_header.specs.declared.folders.Folder.{Folder}

abbrev pub is_same_file : ListedFile → ListedFile → Bool
is_same_file a b = bytes_eq a.name b.name && (a.size == b.size) && bytes_eq a.sha256 b.sha256

abbrev pub is_same_folder : Folder → Folder → Bool
is_same_folder a b = bytes_eq a.path b.path && pointwise is_same_file a.files b.files

abbrev pub is_same_option : Option Folder → Option Folder → Bool
is_same_option None None = true
is_same_option None (Some g) = false
is_same_option (Some f) None = false
is_same_option (Some f) (Some g) = is_same_folder f g

-- the place of the first that isn't the same now
abbrev pub first_other : List Folder → List Folder → Option ℕ
first_other [] now = None
first_other (f ∷ kept) [] = Some 0
first_other (f ∷ kept) (g ∷ now) = if is_same_folder f g then option_map suc (first_other kept now) else Some 0
