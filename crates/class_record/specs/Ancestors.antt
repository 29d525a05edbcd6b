-- The superclasses and superinterfaces of a class, in their order. The direct ones are those that its file names (JVMS 4.1)
-- and that are loaded with it (5.3.5).
use Rattle.std.specs.Prelude.{ℕ, ◌+◌, zero, suc, List, [], ◌∷◌, ◌++◌, if◌then◌else◌, Option, Some, None, reverse}
use Rattle.std.specs.List.{flat_map}
use Rattle.std.specs.Str.{bytes_eq}
use Rattle.std.specs.FinMap.{len}
use Rattle.loader_rules.specs.declared.loader.Loader.TheVariants.{App}
use Rattle.class_record.specs.Files.{Name, RunFiles}
use Rattle.class_tree.specs.ClassNames.{sup_name, interface_names}
use Rattle.class_record.specs.Loading.{FoundClass, class_of, appended}
use Rattle.class_record.specs.Facts.{Facts}

-- ---- one level, over what gives those of the classes above

-- the superclass (4.1, 5.3.5), then its superclasses: the chain of superclasses (4.10.1.2)
abbrev pub supers_by : (Name → List Name) → Option Name → List Name
supers_by above None = []
supers_by above (Some sup) = sup ∷ above sup

-- what stands above the superclass, where there is one (4.1)
abbrev pub of_super : (Name → List Name) → Option Name → List Name
of_super above None = []
of_super above (Some sup) = above sup

-- an interface behind its superinterfaces (4.1, 5.3.5)
abbrev pub up_to_interface : (Name → List Name) → Name → List Name
up_to_interface above name = above name ++ name ∷ []

-- The superinterfaces of the superclass, then each direct superinterface (4.1, 5.3.5) behind its own, and each of them once.
-- They are those among which fields and methods are resolved (5.4.3.2, 5.4.3.3).
abbrev pub superinterfaces_by : (Name → List Name) → Option Name → List Name → List Name
superinterfaces_by above sup interfaces = appended [] (of_super above sup ++ flat_map (up_to_interface above) interfaces)

-- ---- among loaded classes, the newest first: what a class is based on was loaded before it (5.3.5)

abbrev pub newest : List Facts → List Facts
newest fs = reverse fs

unfoldable pub supers_in : List Facts → Name → List Name
supers_in [] name = []
supers_in (f ∷ older) name = if bytes_eq f.name name then supers_by (supers_in older) f.sup else supers_in older name

unfoldable pub superinterfaces_in : List Facts → Name → List Name
superinterfaces_in [] name = []
superinterfaces_in (f ∷ older) name =
    if bytes_eq f.name name then superinterfaces_by (superinterfaces_in older) f.sup f.interfaces else superinterfaces_in older name

-- ---- in the files of a run, for the name of a class that loads

-- super_class and interfaces of a class that is found (4.1), and nothing of one that isn't
abbrev pub sup_in : Option FoundClass → Option Name
sup_in None = None
sup_in (Some c) = sup_name c.tree

abbrev pub interfaces_in : Option FoundClass → List Name
interfaces_in None = []
interfaces_in (Some c) = interface_names c.tree

-- so many steps upwards, each to what the file of the class names (4.1)
unfoldable pub supers_up : ℕ → RunFiles → Name → List Name
supers_up zero p name = []
supers_up (suc room) p name = supers_by (supers_up room p) (sup_in (class_of p App name))

unfoldable pub superinterfaces_up : ℕ → RunFiles → Name → List Name
superinterfaces_up zero p name = []
superinterfaces_up (suc room) p name = superinterfaces_by (superinterfaces_up room p) (sup_in (class_of p App name)) (interfaces_in (class_of p App name))

-- The name of each class that loads was found to be the name inside its file, so they have files of their own, and a class
-- that loads has fewer above it than there are files (5.3.5 lets none stand above itself).
abbrev pub supers : RunFiles → Name → List Name
supers p name = supers_up (len p.contents + 1) p name

abbrev pub superinterfaces : RunFiles → Name → List Name
superinterfaces p name = superinterfaces_up (len p.contents + 1) p name
