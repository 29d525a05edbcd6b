-- What is so of all loads: the laws that callers rest on.
use Rattle.std.specs.Prelude.{◌≡◌, List, [], ◌∷◌, ◌++◌, true, false, Some, None}
use Rattle.std.specs.List.{AllByRecursion}
use Rattle.std.specs.Str.{bytes_eq}
use Rattle.class_tree.specs.declared.tree.ClassTree.{ClassTree}
use Rattle.loader_rules.specs.declared.loader.Loader.{Loader}
use Rattle.loader_rules.specs.declared.loader.Loader.TheVariants.{App}
use Rattle.class_record.specs.Files.{Name, RunFiles, ClassFile, file_of}
use Rattle.class_record.specs.Readings.{IsClass, reading_of}
use Rattle.class_record.specs.declared.bases.Base.{Base}
use Rattle.class_tree.specs.ClassNames.{own_name}
use Rattle.class_record.specs.Trees.{bases_of}
use Rattle.class_record.specs.Loading.{Event, class_of, is_among, load_under, level, loads_bases, Loaded, order_after, begun_after}
use Rattle.class_record.specs.Linking.{links, verification, link_of}
use Rattle.class_record.specs.Ancestors.{supers_in, superinterfaces_in, supers, superinterfaces}
use Rattle.class_record.specs.Facts.{Facts, names_of}
use Rattle.class_record.specs.Records.{record_of}
use Rattle.class_record.specs.Built.{AreBuilt}

-- Loading is one level of loading over itself: how many names may be under way shows nowhere.
abbrev pub LoadsByLevels : Type 0
LoadsByLevels = (p : RunFiles) (under : List Name) (from : Loader) (name : Name) → load_under p under from name ≡ level (load_under p) p under from name

-- Of a class that loads, linking is one level over itself: how many classes may stand one above the other shows nowhere.
abbrev pub LinksByLevels : Type 0
LinksByLevels = (p : RunFiles) (name : Name) → Loaded p App name ≡ None → link_of p name ≡ links (link_of p) (verification p) (class_of p App name)

-- The recursion that is begun with no name under way comes to the load of this name from this loader while these are under
-- way: it is the name that was asked for, or the class of such a name is based on it, and what comes before it there is Ok.
pub data Reaches (p : RunFiles) : List Name → Loader → Name → Type 0 where
  Start : (from : Loader) (name : Name) → Reaches p [] from name
  Below : (under : List Name) (from : Loader) (name : Name) (file : ClassFile) (tree : ClassTree) (before : List Base) (base : Base) (behind : List Base)
      → Reaches p under from name → file_of p from name ≡ Some file → is_among name under ≡ false → reading_of file.bytes ≡ IsClass tree
      → bytes_eq (own_name tree) name ≡ true → bases_of tree ≡ before ++ base ∷ behind
      → (loads_bases (load_under p) p under name file.loader before).fault ≡ None
      → Reaches p (name ∷ under) file.loader base.name

-- Wherever the recursion comes to a name, its load ends as the load of that name alone does. The law is on names under way:
-- what was loaded before is no argument of a load at all.
abbrev pub LoadsAlike : Type 0
LoadsAlike = (p : RunFiles) (under : List Name) (from : Loader) (name : Name) → Reaches p under from name → (load_under p under from name).fault ≡ Loaded p from name

abbrev pub AreDistinct : List Name → Type 0
AreDistinct [] = Unit {0}
AreDistinct (n ∷ ns) = (is_among n ns ≡ false) × AreDistinct ns

-- The load order only grows, and so do the names whose loading has begun; where no name stands twice before, none does after.
-- This is so of any events, and so of those of any load and any link.
pub record Grows (order : List Name) (events : List Event) : Type 0 where
  pub more : List Name
  pub at_the_end : order_after order events ≡ order ++ more
  pub distinct : AreDistinct order → AreDistinct (order_after order events)
  pub begun_more : List Name
  pub begun_at_the_end : begun_after order events ≡ order ++ begun_more
  pub begun_distinct : AreDistinct order → AreDistinct (begun_after order events)

abbrev pub OrdersGrow : Type 0
OrdersGrow = (order : List Name) (events : List Event) → Grows order events

-- the facts of classes as their files say them
abbrev pub AreRecorded : RunFiles → List Facts → Type 0
AreRecorded p facts = AllByRecursion (λ (f : Facts). record_of p f.name ≡ Some f) facts

-- The facts of classes that were loaded one after the other, the newest first, say of each which classes stand above it, as
-- the files do.
pub record Ancestry (p : RunFiles) (facts : List Facts) (name : Name) : Type 0 where
  pub supers : supers_in facts name ≡ supers p name
  pub superinterfaces : superinterfaces_in facts name ≡ superinterfaces p name

abbrev pub AncestorsAgree : Type 0
AncestorsAgree = (p : RunFiles) (facts : List Facts) (name : Name) → AreBuilt facts → AreRecorded p facts → is_among name (names_of facts) ≡ true → Ancestry p facts name
