-- The names that a class file gives of its class and of those that it is based on (JVM Specification SE 8, 4.1).
use Rattle.std.specs.Prelude.{ℕ, List, [], Option, Some, None}
use Rattle.std.specs.List.{filter_map}
use Rattle.class_tree.specs.declared.tree.ClassTree.{ClassTree}
use Rattle.class_tree.specs.WellFormed.{class_name}

-- the text, or the empty one; in a class file these texts are there (4.1, 4.4 to 4.6)
abbrev pub or_empty : Option (List ℕ) → List ℕ
or_empty (Some text) = text
or_empty None = []

-- the name that the class has inside: this_class (4.1)
abbrev pub own_name : ClassTree → List ℕ
own_name t = or_empty (class_name t.pool t.this)

-- the name of its direct superclass, super_class, which java/lang/Object alone doesn't have (4.1)
abbrev pub sup_name : ClassTree → Option (List ℕ)
sup_name t = class_name t.pool t.sup

-- the names of its direct superinterfaces, in the order of the array interfaces (4.1)
abbrev pub interface_names : ClassTree → List (List ℕ)
interface_names t = filter_map (class_name t.pool) t.interfaces
