-- The names in a class list.
use Rattle.std.specs.Prelude.{ℕ, List, [], ◌∷◌, ◌++◌, ◌==◌, ◌||◌, not, Bool, false, Option, Some, None, map, filter, if◌then◌else◌}
use Rattle.std.specs.List.{filter_map, list_any}
use Rattle.std.specs.Str.{byte, bytes_eq}
use Rattle.bstr.specs.Text.{lines_of, without_terminator}

-- The lines, each without the LF or CR LF that ends it. The last may lack its end, and a CR that isn't before LF is part
-- of its line.
abbrev pub list_lines : List ℕ → List (List ℕ)
list_lines bytes = map without_terminator (lines_of bytes)

-- whether a line is skipped
abbrev pub is_comment : List ℕ → Bool
is_comment [] = false
is_comment (b ∷ line) = b == byte "#" || b == byte "@"

-- what stands before the first space
abbrev pub before_space : List ℕ → List ℕ
before_space [] = []
before_space (b ∷ line) = if b == byte " " then [] else b ∷ before_space line

abbrev pub name_of : List ℕ → Option (List ℕ)
name_of [] = None
name_of (b ∷ name) = Some (b ∷ name)

-- The name that a line lists: what stands before its first space, unless that is empty or the line is skipped.
abbrev pub listed_name : List ℕ → Option (List ℕ)
listed_name line = if is_comment line then None else name_of (before_space line)

-- the names, as often as they are listed
abbrev pub listed_names : List ℕ → List (List ℕ)
listed_names bytes = filter_map listed_name (list_lines bytes)

-- the first of each
abbrev pub distinct : List (List ℕ) → List (List ℕ)
distinct [] = []
distinct (name ∷ names) = name ∷ filter (λ other. not (bytes_eq name other)) (distinct names)

-- the names, each once, where it is listed first
abbrev pub listed_once : List ℕ → List (List ℕ)
listed_once bytes = distinct (listed_names bytes)

-- a name behind others, where it is none of them
abbrev pub added : List (List ℕ) → Option (List ℕ) → List (List ℕ)
added names None = names
added names (Some name) = if list_any (bytes_eq name) names then names else names ++ name ∷ []
