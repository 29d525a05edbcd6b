-- The class list of a run: the names of its loaded classes.
use Rattle.std.specs.Prelude.{List, [], ◌∷◌, ◌++◌, ℕ}
use Rattle.class_record.specs.Files.{Name}

-- each name and a line feed, in load order
abbrev pub class_list : List Name → List ℕ
class_list [] = []
class_list (name ∷ names) = name ++ 10 ∷ class_list names
