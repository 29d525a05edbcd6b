-- Loading a class (JVMS 5.3, 5.3.5): what comes of it, and which loadings begin and complete, in order.
use Rattle.std.specs.Prelude.{ℕ, ◌+◌, zero, suc, List, [], ◌∷◌, ◌++◌, Bool, true, false, ◌||◌, if◌then◌else◌, Option, Some, None}
use Rattle.std.specs.List.{list_any}
use Rattle.std.specs.Option.{option_map}
use Rattle.std.specs.Str.{bytes_eq}
use Rattle.std.specs.FinMap.{len}
use Rattle.loader_rules.specs.declared.loader.Loader.{Loader}
use Rattle.loader_rules.specs.Packages.{share_package}
use Rattle.class_tree.specs.declared.tree.ClassTree.{ClassTree}
use Rattle.class_tree.specs.Flags.{is_public}
use Rattle.class_record.specs.declared.fault.JavaFault.{JavaFault}
use Rattle.class_record.specs.declared.fault.JavaFault.TheVariants.{NoClassDefFoundError, ClassFormatError, UnsupportedClassVersionError, ClassCircularityError, IncompatibleClassChangeError, IllegalAccessError}
use Rattle.class_record.specs.Files.{Name, RunFiles, ClassFile, file_of}
use Rattle.class_record.specs.Readings.{Reading, IsClass, OtherVersion, NotClass, reading_of, tree_in}
use Rattle.class_record.specs.declared.bases.Base.{Base}
use Rattle.class_tree.specs.ClassNames.{own_name}
use Rattle.class_record.specs.Trees.{bases_of, suits}

-- ---- what a load or a link does

-- The loading of a name begins where its file is found, and completes where its class is loaded.
pub data Event : Type 0 where
  Begins : Name → Event
  Completes : Name → Event

-- the throwable that it ends with, or none, and the loadings that begin and complete in it, in order
pub record Outcome : Type 0 where
  pub fault : Option JavaFault
  pub events : List Event

abbrev pub nothing : Outcome
nothing = record { fault = None; events = [] }

abbrev pub fails : JavaFault → Outcome
fails fault = record { fault = Some fault; events = [] }

abbrev pub unless : Bool → JavaFault → Outcome
unless true fault = nothing
unless false fault = fails fault

abbrev pub after_fault : Option JavaFault → Outcome → Outcome → Outcome
after_fault (Some fault) a b = a
after_fault None a b = record { fault = b.fault; events = a.events ++ b.events }

-- the one, and then the other where the one is Ok
abbrev pub and_then : Outcome → Outcome → Outcome
and_then a b = after_fault a.fault a b

abbrev pub begins : Name → Outcome → Outcome
begins name a = record { fault = a.fault; events = Begins name ∷ a.events }

abbrev pub completes : Name → Outcome
completes name = record { fault = None; events = Completes name ∷ [] }

-- one after the other, up to the first that isn't Ok
abbrev pub each : {A : Type 0} → (A → Outcome) → List A → Outcome
each one [] = nothing
each one (x ∷ xs) = and_then (one x) (each one xs)

abbrev pub is_among : Name → List Name → Bool
is_among name names = list_any (bytes_eq name) names

-- ---- the class that a loader finds, and who may use it

pub record FoundClass : Type 0 where
  pub file : ClassFile
  pub tree : ClassTree

abbrev pub found_in : Option ClassFile → Option FoundClass
found_in None = None
found_in (Some file) = option_map (λ tree. record { file = file; tree = tree }) (tree_in (reading_of file.bytes))

abbrev pub class_of : RunFiles → Loader → Name → Option FoundClass
class_of p from name = found_in (file_of p from name)

abbrev pub is_class_that : (FoundClass → Bool) → Option FoundClass → Bool
is_class_that test None = false
is_class_that test (Some c) = test c

-- A class is accessible to all where it is public, and else to those of its own run-time package (5.4.4).
abbrev pub is_accessible : Name → Loader → Name → FoundClass → Bool
is_accessible name loader other c = is_public c.tree.flags || share_package other c.file.loader name loader

-- what is tested of a loaded class that the class `name`, which `loader` defines, is based on: access, then its kind
abbrev pub tests : RunFiles → Name → Loader → Base → Outcome
tests p name loader base =
    and_then (unless (is_class_that (is_accessible name loader base.name) (class_of p loader base.name)) IllegalAccessError)
    (unless (is_class_that (λ c. suits base.kind c.tree.flags) (class_of p loader base.name)) IncompatibleClassChangeError)

-- ---- loading

-- One level of loading, over what loads the names below it, with these names under way. Each class that this one is based
-- on is loaded by the loader that defines this one, and tested, before the next is begun.
module _ (deeper : List Name → Loader → Name → Outcome) (p : RunFiles) (under : List Name) where
  abbrev pub loads_base : Name → Loader → Base → Outcome
  loads_base name loader base = and_then (deeper (name ∷ under) loader base.name) (tests p name loader base)

  abbrev pub loads_bases : Name → Loader → List Base → Outcome
  loads_bases name loader bases = each (loads_base name loader) bases

  abbrev pub on_reading : Name → Loader → Reading → Outcome
  on_reading name loader OtherVersion = fails UnsupportedClassVersionError
  on_reading name loader NotClass = fails ClassFormatError
  on_reading name loader (IsClass tree) =
      if bytes_eq (own_name tree) name then and_then (loads_bases name loader (bases_of tree)) (completes name)
      else fails NoClassDefFoundError

  abbrev pub on_found : Name → Option ClassFile → Outcome
  on_found name None = fails NoClassDefFoundError
  on_found name (Some file) =
      if is_among name under then fails ClassCircularityError
      else begins name (on_reading name file.loader (reading_of file.bytes))

  abbrev pub level : Loader → Name → Outcome
  level from name = on_found name (file_of p from name)

-- Loading where at most so many names may be under way.
unfoldable pub load : ℕ → RunFiles → List Name → Loader → Name → Outcome
load zero p under from name = fails ClassCircularityError
load (suc room) p under from name = level (load room p) p under from name

-- The load of a name while these are under way. Each name under way was found to be the name inside its file, so they have
-- files of their own, and there is room for all.
unfoldable pub load_under : RunFiles → List Name → Loader → Name → Outcome
load_under p under from name = load (len p.contents + 1) p under from name

-- The load of a name: no outcome of an earlier one is known to it.
abbrev pub load_of : RunFiles → Loader → Name → Outcome
load_of p from name = load_under p [] from name

-- ---- what it comes to

-- Ok, or the throwable
abbrev pub Loaded : RunFiles → Loader → Name → Option JavaFault
Loaded p from name = (load_of p from name).fault

-- each name that isn't there is put at the end
abbrev pub appended : List Name → List Name → List Name
appended old [] = old
appended old (n ∷ ns) = appended (if is_among n old then old else old ++ n ∷ []) ns

abbrev pub begun_in : List Event → List Name
begun_in [] = []
begun_in (Begins n ∷ es) = n ∷ begun_in es
begun_in (Completes n ∷ es) = begun_in es

abbrev pub completed_in : List Event → List Name
completed_in [] = []
completed_in (Begins n ∷ es) = completed_in es
completed_in (Completes n ∷ es) = n ∷ completed_in es

-- the load order after these events, where it was that before
abbrev pub order_after : List Name → List Event → List Name
order_after order events = appended order (completed_in events)

-- the names whose loading has begun after these events
abbrev pub begun_after : List Name → List Event → List Name
begun_after begun events = appended begun (begun_in events)

-- the load order after the load of a name
abbrev pub Loads : RunFiles → Loader → Name → List Name → List Name
Loads p from name order = order_after order (load_of p from name).events

-- the begun names after it
abbrev pub BeginsBy : RunFiles → Loader → Name → List Name → List Name
BeginsBy p from name begun = begun_after begun (load_of p from name).events
