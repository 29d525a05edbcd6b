-- What the calls on the classes of a run answer and leave.
use Rattle.std.specs.Prelude.{◌≡◌, ◌==◌, ℕ, ◌<◌, ◌≤◌, List, [], ◌∷◌, ◌++◌, length, Bool, true, false, if◌then◌else◌, Option, Some, None, Result, Ok, Err, slice_get, nat_lt, ⊤}
use Rattle.std.specs.List.{filter_map, AllByRecursion}
use Rattle.jsa_base.specs.declared.quantity.Quantity.{Quantity}
use Rattle.jsa_base.specs.declared.quantity.Quantity.TheVariants.{FileSize, Names, Classes, ArchiveSize, Loaded}
use Rattle.jsa_files.specs.declared.TheConstants.{MAX_FILE}
use Rattle.jsa_files.specs.Causes.{Rose}
use Rattle.loader_rules.specs.declared.loader.Loader.{Loader}
use Rattle.class_record.specs.declared.fault.TheConstants.{MAX_LOADED}
use Rattle.class_record.specs.declared.fault.JavaFault.{JavaFault}
use Rattle.class_record.specs.declared.fault.ClassesFault.{ClassesFault}
use Rattle.class_record.specs.declared.fault.ClassesFault.TheVariants.{Read, Limit, Memory}
use Rattle.class_record.specs.declared.facts.ClassId.{ClassId}
use Rattle.class_record.specs.Files.{Name}
use Rattle.class_record.specs.Loading.{Event, Begins, Completes, Outcome, is_among, order_after, begun_after, begun_in}
use Rattle.class_record.specs.Worlds.{ClassWorld}
use Rattle.class_record.specs.Facts.{Facts, names_of}

-- ---- limits

-- The limit that is passed first in the course of these events, where these classes are loaded: a class file is too large,
-- or a class too many would be loaded.
abbrev pub passed : ClassWorld → List Name → List Event → Option (Quantity × ℕ)
passed w order [] = None
passed w order (Begins name ∷ es) = if w.is_large name then Some (FileSize, MAX_FILE) else passed w order es
passed w order (Completes name ∷ es) =
    if is_among name order then passed w order es
    else if nat_lt (length order) MAX_LOADED then passed w (order ++ name ∷ []) es
    else Some (Loaded, MAX_LOADED)

-- ---- what a load or a link leaves

-- the load order, the names whose loading has begun, and the paths of the class files that were read
pub record Progress : Type 0 where
  pub order : List Name
  pub begun : List Name
  pub reads : List (List ℕ)

-- the names that aren't among the others, each once
abbrev pub newly : List Name → List Name → List Name
newly old [] = []
newly old (n ∷ ns) = if is_among n old then newly old ns else n ∷ newly (old ++ n ∷ []) ns

-- What these events leave: all that begins and completes is noted, the class file of each name that begins newly is read,
-- and no limit is passed.
pub record Leaves (w : ClassWorld) (events : List Event) (before after : Progress) : Type 0 where
  pub order : after.order ≡ order_after before.order events
  pub begun : after.begun ≡ begun_after before.begun events
  pub reads : after.reads ≡ before.reads ++ filter_map w.path (newly before.begun (begun_in events))
  pub limits : passed w before.order events ≡ None

-- A call that ends with a fault of the outside did no more than this: Limit comes exactly where one is passed.
abbrev pub Stops : ClassWorld → Outcome → Progress → ClassesFault → Type 0
Stops w outcome before Read = ⊤
Stops w outcome before (Limit quantity limit) = passed w before.order outcome.events ≡ Some (quantity, limit)
Stops w outcome before Memory = ⊤

abbrev pub LoadAnswer : Type 0
LoadAnswer = Result (Result ClassId JavaFault) ClassesFault

-- Ok comes exactly where the load is Ok, with the class of that name, and a throwable exactly where the load ends with it.
abbrev pub Answers : ClassWorld → Name → Outcome → Progress → Progress → LoadAnswer → Type 0
Answers w name outcome before after (Ok (Ok id)) = (outcome.fault ≡ None) × (slice_get after.order id.0 ≡ Some name) × Leaves w outcome.events before after
Answers w name outcome before after (Ok (Err fault)) = (outcome.fault ≡ Some fault) × Leaves w outcome.events before after
Answers w name outcome before after (Err fault) = Stops w outcome before fault

abbrev pub AnswersLoad : ClassWorld → Loader → Name → Progress → Progress → LoadAnswer → Type 0
AnswersLoad w from name before after result = Answers w name (w.load from name) before after result

abbrev pub LinkAnswer : Type 0
LinkAnswer = Result (Option JavaFault) ClassesFault

-- None comes exactly where the link is Ok, and a throwable exactly where the link ends with it.
abbrev pub AnswersLink : ClassWorld → Option Name → Progress → Progress → LinkAnswer → Type 0
AnswersLink w None before after result = ⊤
AnswersLink w (Some name) before after (Ok fault) = ((w.link name).fault ≡ fault) × Leaves w (w.link name).events before after
AnswersLink w (Some name) before after (Err fault) = Stops w (w.link name) before fault

-- Whatever world: the class of an Ok load is loaded, and has this name.
abbrev pub GivesClass : List Facts → Name → LoadAnswer → Type 0
GivesClass fs name (Ok (Ok id)) = slice_get (names_of fs) id.0 ≡ Some name
GivesClass fs name (Ok (Err fault)) = ⊤
GivesClass fs name (Err fault) = ⊤

abbrev pub IsLimit : Quantity → ℕ → Type 0
IsLimit FileSize limit = limit ≡ MAX_FILE
IsLimit Loaded limit = limit ≡ MAX_LOADED
IsLimit Names limit = ⊥
IsLimit Classes limit = ⊥
IsLimit ArchiveSize limit = ⊥

-- Limit names one of two limits.
abbrev pub NamesLimit : {T : Type 0} → Result T ClassesFault → Type 0
NamesLimit (Ok x) = ⊤
NamesLimit (Err Read) = ⊤
NamesLimit (Err (Limit quantity limit)) = IsLimit quantity limit
NamesLimit (Err Memory) = ⊤

-- The count of faults rose where the answer is Read, and else is as before.
abbrev pub CountsRead : {T : Type 0} → ℕ → ℕ → Result T ClassesFault → Type 0
CountsRead before now (Ok x) = now ≡ before
CountsRead before now (Err Read) = (before ≤ now) × Rose before now
CountsRead before now (Err (Limit quantity limit)) = now ≡ before
CountsRead before now (Err Memory) = now ≡ before

-- A class that was linked stays so, and the class of an Ok link is linked now, and no other.
abbrev pub LinksOne : (ℕ → Bool) → (ℕ → Bool) → ℕ → LinkAnswer → Type 0
LinksOne before now id (Ok None) = (k : ℕ) → now k ≡ (if k == id then true else before k)
LinksOne before now id (Ok (Some fault)) = (k : ℕ) → now k ≡ before k
LinksOne before now id (Err fault) = (k : ℕ) → now k ≡ before k

-- ---- what the facts of loaded classes answer

-- It is the class of the wanted name, which was loaded before the class `id`. None comes exactly where none is wanted.
abbrev pub IsClassBefore : List Facts → ℕ → Option Name → Option ClassId → Type 0
IsClassBefore fs id wanted None = wanted ≡ None
IsClassBefore fs id wanted (Some found) = (found.0 < id) × (slice_get (names_of fs) found.0 ≡ wanted)

-- It is the class of this name. None comes exactly where none is loaded.
abbrev pub IsClassNamed : List Facts → Name → Option ClassId → Type 0
IsClassNamed fs name None = is_among name (names_of fs) ≡ false
IsClassNamed fs name (Some found) = slice_get (names_of fs) found.0 ≡ Some name

-- What is known of each loaded class is what the world says of it.
abbrev pub AreOf : ClassWorld → List Facts → Type 0
AreOf w fs = AllByRecursion (λ (f : Facts). w.class f.name ≡ Some f) fs

-- A class that is linked links in the world.
abbrev pub AreLinked : ClassWorld → List Facts → (ℕ → Bool) → Type 0
AreLinked w fs linked = (id : ℕ) (name : Name) → linked id ≡ true → slice_get (names_of fs) id ≡ Some name → (w.link name).fault ≡ None
