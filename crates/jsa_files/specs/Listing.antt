-- Which class files lie below a folder, and what the listing of a folder answers.
use Rattle.std.specs.Prelude.{◌≡◌, ◌<◌, ◌≤◌, ℕ, List, ◌++◌, length, drop, Option, Some, None, Result, Ok, Err, Bool, ◌&&◌, if◌then◌else◌, nat_eq, IsTrue, codes, ⊤}
use Rattle.std.specs.List.{filter_map, starts_with, ends_with, All}
use Rattle.std.specs.List.Sorted.{IsStrictlySortedBy}
use Rattle.std.specs.Ordering.{nat_cmp}
use Rattle.std.specs.Cmp.Lexicographic.{slice_cmp}
use Rattle.std.specs.FinMap.{keys}
use Rattle.jsa_files.specs.declared.TheConstants.{MAX_NAMES}
use Rattle.jsa_files.specs.declared.fault.FilesFault.{FilesFault}
use Rattle.jsa_files.specs.declared.fault.FilesFault.TheVariants.{Failed, TooLarge, TooMany, Memory}
use Rattle.jsa_files.specs.Store.{Store, Contents}

-- the name ends in .class
abbrev pub ends_in_class : List ℕ → Bool
ends_in_class name = ends_with nat_eq name (codes ".class")

-- the rest of a path that begins with this front and ends in .class
abbrev pub name_behind : List ℕ → List ℕ → Option (List ℕ)
name_behind front path = if starts_with nat_eq path front && ends_in_class (drop (length front) path) then Some (drop (length front) path) else None

-- of these paths, in their order, those below the folder that end in .class, each without the folder and its slash
abbrev pub classes_below : List (List ℕ) → List ℕ → List (List ℕ)
classes_below paths folder = filter_map (name_behind (folder ++ codes "/")) paths

-- The class files below the folder, in ascending order of bytes: the order in which the map has its paths.
abbrev pub class_names : Contents → List ℕ → List (List ℕ)
class_names contents folder = classes_below (keys contents) folder

-- A list of names, each one's bytes, or why there is none.
abbrev pub ListAnswer : Type 0
ListAnswer = Result (List (List ℕ)) FilesFault

-- The answer is all of the names. TooMany comes exactly where they are too many.
abbrev pub Lists : List (List ℕ) → ListAnswer → Type 0
Lists all (Ok names) = names ≡ all
Lists all (Err Failed) = ⊤
Lists all (Err (TooLarge size)) = ⊤
Lists all (Err (TooMany count)) = length all ≡ count
Lists all (Err Memory) = ⊤

-- the same, where the store tells
abbrev pub ListsAsTold : Option Store → List ℕ → ListAnswer → Type 0
ListsAsTold None folder result = ⊤
ListsAsTold (Some store) folder result = Lists (class_names store.contents folder) result

-- What is handed out is few enough, and what is too many isn't. A listing never answers TooLarge.
abbrev pub ListsFew : ListAnswer → Type 0
ListsFew (Ok names) = length names ≤ MAX_NAMES
ListsFew (Err Failed) = ⊤
ListsFew (Err (TooLarge size)) = ⊥
ListsFew (Err (TooMany count)) = MAX_NAMES < count
ListsFew (Err Memory) = ⊤

-- a fault of a list of names that is at hand
abbrev pub IsOfList : FilesFault → Type 0
IsOfList Failed = ⊥
IsOfList (TooLarge size) = ⊥
IsOfList (TooMany count) = ⊤
IsOfList Memory = ⊤

-- The names ascend by their bytes, and none stands twice.
abbrev pub Ascend : List (List ℕ) → Type 0
Ascend names = IsStrictlySortedBy (slice_cmp nat_cmp) names

-- each of them ends in .class
abbrev pub AllEndInClass : List (List ℕ) → Type 0
AllEndInClass names = All (λ name. IsTrue (ends_in_class name)) names
