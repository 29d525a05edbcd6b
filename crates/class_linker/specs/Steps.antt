-- What each step of a load does, and what is left to do after it.
use Rattle.std.specs.Prelude.{◌≡◌, ℕ, ◌≤◌, List, [], ◌∷◌, ◌++◌, length, true, not, ◌||◌, if◌then◌else◌, Option, Some, None, Result, Ok, Err, ⊤}
use Rattle.jsa_files.specs.Store.{Store}
use Rattle.loader_rules.specs.declared.loader.Loader.{Loader}
use Rattle.loader_rules.specs.Lists.{FolderLists}
use Rattle.class_tree.specs.Flags.{is_public}
use Rattle.loader_rules.specs.Packages.{share_package}
use Rattle.class_record.specs.Trees.{suits}
use Rattle.class_record.specs.declared.fault.JavaFault.{JavaFault}
use Rattle.class_record.specs.declared.fault.JavaFault.TheVariants.{IllegalAccessError, IncompatibleClassChangeError}
use Rattle.class_record.specs.declared.fault.ClassesFault.{ClassesFault}
use Rattle.class_record.specs.declared.bases.Base.{Base}
use Rattle.class_record.specs.Files.{Name, RunFiles}
use Rattle.class_record.specs.Loading.{Event, Begins, Outcome, is_among, nothing, and_then, begins, completes, tests, loads_bases, load_under}
use Rattle.class_record.specs.Worlds.{ClassWorld, world_of_files}
use Rattle.class_record.specs.Calls.{Progress, Leaves, Stops}
use Rattle.loaded_classes.specs.Table.{ClassTable}
use Rattle.class_linker.specs.declared.entering.Entered.{Entered}
use Rattle.class_linker.specs.declared.entering.Entered.TheVariants.{Present, Begun, Fails}
use Rattle.class_linker.specs.declared.loading.Next.{Next}
use Rattle.class_linker.specs.declared.under_way.Frame.{Frame}
use Rattle.class_linker.specs.Kept.{names_under, names_loaded, bases_left, Waits}
use Rattle.class_linker.specs.Rights.{files_in}

-- ---- what is left to do

-- of the innermost class: its bases that are left, and then it completes
abbrev pub loads_rest : RunFiles → List Frame → Frame → List Base → Outcome
loads_rest p below f bases = and_then (loads_bases (load_under p) p (names_under below) f.name f.loader bases) (completes f.name)

-- of the classes that wait, once the one that the first of them waits for is loaded: this one is tested, and the others
-- are loaded
abbrev pub tests_then : RunFiles → List Frame → Frame → Outcome → List Base → Outcome
tests_then p below f rest [] = nothing
tests_then p below f rest (b ∷ bs) = and_then (tests p f.name f.loader b) (and_then (loads_rest p below f bs) rest)

unfoldable pub left_after : RunFiles → List Frame → Outcome
left_after p [] = nothing
left_after p (f ∷ fs) = tests_then p fs f (left_after p fs) (bases_left f)

-- of all classes under way
abbrev pub left_of : RunFiles → List Frame → Outcome
left_of p [] = nothing
left_of p (f ∷ fs) = and_then (loads_rest p fs f (bases_left f)) (left_after p fs)

-- ---- what a step does

-- One thing to do comes to another by these events, and leaves so much.
pub record Leads (w : ClassWorld) (from to : Outcome) (before after : Progress) : Type 0 where
  pub events : List Event
  pub fault : from.fault ≡ to.fault
  pub whole : from.events ≡ events ++ to.events
  pub leaves : Leaves w events before after

-- One thing to do comes to this answer: None where it is Ok, or its throwable.
pub record Comes (w : ClassWorld) (from : Outcome) (fault : Option JavaFault) (before after : Progress) : Type 0 where
  pub fault_is : from.fault ≡ fault
  pub leaves : Leaves w from.events before after

-- the load of a name, where these classes are under way
abbrev pub load_in : RunFiles → List Frame → Loader → Name → Outcome
load_in p path from name = load_under p (names_under path) from name

-- The loading of a name begins: the innermost class is the one of this name, and what it is based on is left.
abbrev pub BeginsIn : RunFiles → Loader → Name → List Frame → List Frame → Progress → Progress → Type 0
BeginsIn p from name path [] before after = ⊥
BeginsIn p from name path (f ∷ fs) before after =
    (load_in p path from name ≡ begins name (loads_rest p path f (bases_left f))) × Leaves (world_of_files p) (Begins name ∷ []) before after

-- what entering a name comes to: it is loaded, its loading begins, or it ends with a throwable
abbrev pub Enters : RunFiles → Loader → Name → List Frame → List Frame → Progress → Progress → Result Entered ClassesFault → Type 0
Enters p from name path now before after (Ok Present) = Comes (world_of_files p) (load_in p path from name) None before after
Enters p from name path now before after (Ok Begun) = BeginsIn p from name path now before after
Enters p from name path now before after (Ok (Fails fault)) = Comes (world_of_files p) (load_in p path from name) (Some fault) before after
Enters p from name path now before after (Err fault) = Stops (world_of_files p) (load_in p path from name) before fault

-- two stores that tell the same files, with what was read of each
abbrev pub ForStores : Option Store → Option Store → FolderLists → (RunFiles → Store → Store → Type 0) → Type 0
ForStores (Some before) (Some after) folders P = P (files_in before folders) before after
ForStores (Some before) None folders P = ⊤
ForStores None after folders P = ⊤

-- What was read may have grown, and nothing else.
abbrev pub KeepsFiles : Option Store → Option Store → Type 0
KeepsFiles None after = after ≡ None
KeepsFiles (Some before) None = ⊥
KeepsFiles (Some before) (Some after) = after.contents ≡ before.contents

-- Where classes are under way, the innermost one asks for this name next, from the loader that defines it.
abbrev pub IsAsked : Name → Loader → List Frame → Type 0
IsAsked name from [] = ⊤
IsAsked name from (f ∷ fs) = Waits name f × (from ≡ f.loader)

-- Where the loading of a name begins, its class is the innermost one, and all but this leaves the path. A name that is
-- present is loaded.
abbrev pub KeepsPath : Name → ClassTable → List Frame → List Frame → Result Entered ClassesFault → Type 0
KeepsPath name t path now (Ok Present) = (now ≡ path) × (is_among name (names_loaded t) ≡ true)
KeepsPath name t path now (Ok Begun) = (f : Frame) × (now ≡ f ∷ path) × (f.name ≡ name) × (f.done ≡ 0) × (length f.bases ≤ 65_536)
KeepsPath name t path now (Ok (Fails fault)) = now ≡ path
KeepsPath name t path now (Err fault) = ⊤

-- The next base of the innermost class is loaded.
abbrev pub HasNext : ClassTable → List Frame → Type 0
HasNext t [] = ⊤
HasNext t (f ∷ fs) = (base : Base) × (rest : List Base) × (bases_left f ≡ base ∷ rest) × (is_among base.name (names_loaded t) ≡ true)

-- The innermost class has no base left.
abbrev pub HasNone : List Frame → Type 0
HasNone [] = ⊥
HasNone (f ∷ fs) = bases_left f ≡ []

-- what testing the next base of the innermost class comes to
abbrev pub Passes : RunFiles → List Frame → List Frame → Progress → Option JavaFault → Type 0
Passes p path now at None = Leads (world_of_files p) (left_after p path) (left_of p now) at at
Passes p path now at (Some fault) = Comes (world_of_files p) (left_after p path) (Some fault) at at

-- what completing the innermost class comes to
abbrev pub CompletesTop : RunFiles → List Frame → List Frame → Progress → Progress → Result (Unit {0}) ClassesFault → Type 0
CompletesTop p path now before after (Ok done) = Leads (world_of_files p) (left_of p path) (left_after p now) before after
CompletesTop p path now before after (Err fault) = Stops (world_of_files p) (left_of p path) before fault

-- what a step comes to: more is left, or the load ends with a throwable
abbrev pub Goes : RunFiles → List Frame → List Frame → Progress → Progress → Result (Option JavaFault) ClassesFault → Type 0
Goes p path now before after (Ok None) = Leads (world_of_files p) (left_of p path) (left_of p now) before after
Goes p path now before after (Ok (Some fault)) = Comes (world_of_files p) (left_of p path) (Some fault) before after
Goes p path now before after (Err fault) = Stops (world_of_files p) (left_of p path) before fault

-- what all steps come to
abbrev pub Ends : RunFiles → Outcome → Progress → Progress → Result (Option JavaFault) ClassesFault → Type 0
Ends p outcome before after (Ok fault) = Comes (world_of_files p) outcome fault before after
Ends p outcome before after (Err fault) = Stops (world_of_files p) outcome before fault

-- The name is loaded, or its loading is under way.
abbrev pub IsAwaited : Name → ClassTable → List Frame → Type 0
IsAwaited name t path = is_among name (names_under path ++ names_loaded t) ≡ true

-- A class is under way.
abbrev pub IsSomePath : List Frame → Type 0
IsSomePath [] = ⊥
IsSomePath (f ∷ fs) = ⊤

-- the throwable that a base is refused with, which has these flags and this loader
abbrev pub fault_of_base : Name → Loader → Base → ℕ → Loader → Option JavaFault
fault_of_base name loader base flags other =
    if not (is_public flags || share_package base.name other name loader) then Some IllegalAccessError
    else if not (suits base.kind flags) then Some IncompatibleClassChangeError
    else None

-- the next base of the innermost class, with the loader that defines that class
abbrev pub IsNext : List Frame → Option Next → Type 0
IsNext [] next = next ≡ None
IsNext (f ∷ fs) None = bases_left f ≡ []
IsNext (f ∷ fs) (Some next) = Waits next.name f × (next.loader ≡ f.loader)
