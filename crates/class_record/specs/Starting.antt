-- The start of a run: the classes that every run begins with are loaded and linked, and then the main class is loaded.
use Rattle.std.specs.Prelude.{◌≡◌, ℕ, ◌+◌, ◌<◌, ◌≤◌, List, [], ◌∷◌, ◌++◌, length, Bool, true, false, ◌&&◌, not, if◌then◌else◌, is_none, Option, Some, None, Result, Ok, Err, slice_get, zero, suc, ⊤}
use Rattle.loader_rules.specs.declared.loader.Loader.TheVariants.{Boot, App}
use Rattle.class_record.specs.declared.fault.JavaFault.{JavaFault}
use Rattle.class_record.specs.declared.fault.ClassesFault.{ClassesFault}
use Rattle.class_record.specs.declared.fault.ClassesFault.TheVariants.{Read, Limit, Memory}
use Rattle.class_record.specs.Files.{Name}
use Rattle.class_record.specs.Facts.{Facts}
use Rattle.class_record.specs.Loading.{Event, Outcome, and_then}
use Rattle.class_record.specs.Worlds.{ClassWorld}
use Rattle.class_record.specs.Calls.{Progress, Leaves, passed}
use Rattle.class_record.specs.declared.start.Start.{Start}
use Rattle.class_record.specs.declared.start.Start.TheVariants as starts
use Rattle.class_record.specs.Required.{Required, required, meets}

-- ---- the definition

-- A required class is loaded by the boot loader and, where that is Ok, linked (JVMS 5.3, 5.4).
abbrev pub fetch : ClassWorld → Required → Outcome
fetch w r = and_then (w.load Boot r.name) (w.link r.name)

abbrev pub is_as_asked : Required → Option Facts → Bool
is_as_asked r None = false
is_as_asked r (Some f) = meets r f

-- Its load or its link isn't Ok, or it isn't as it is asked for.
abbrev pub is_wanting : ClassWorld → Required → Bool
is_wanting w r = not (is_none (fetch w r).fault && is_as_asked r (w.class r.name))

-- How the start ends: at the first required class that is wanting, by its number from 1 on; without a main class; or with
-- it.
pub data StartEnd : Type 0 where
  NoBoot : ℕ → StartEnd
  NoMain : StartEnd
  Ready : StartEnd

-- and which loadings begin and complete in it, in order
pub record Started : Type 0 where
  pub end : StartEnd
  pub events : List Event

abbrev pub after_events : List Event → Started → Started
after_events events s = record { end = s.end; events = events ++ s.events }

abbrev pub main_end : Option JavaFault → StartEnd
main_end None = Ready
main_end (Some fault) = NoMain

-- The main class is loaded by the application loader (5.2).
abbrev pub start_main : ClassWorld → Name → Started
start_main w main = record { end = main_end (w.load App main).fault; events = (w.load App main).events }

-- The required classes from this number on, one after the other, and then the main class.
abbrev pub start_from : ClassWorld → Name → ℕ → List Required → Started
start_from w main number [] = start_main w main
start_from w main number (r ∷ rs) =
    if is_wanting w r then record { end = NoBoot number; events = (fetch w r).events }
    else after_events (fetch w r).events (start_from w main (number + 1) rs)

unfoldable pub start : ClassWorld → Name → Started
start w main = start_from w main 1 required

-- ---- what a call answers

-- The class that the start ends with is the main class, by its place in the load order.
abbrev pub IsEnd : StartEnd → Name → List Name → Start → Type 0
IsEnd end main order (starts.NoBoot number) = end ≡ NoBoot number
IsEnd end main order starts.NoMain = end ≡ NoMain
IsEnd end main order (starts.Ready id) = (end ≡ Ready) × (slice_get order id.0 ≡ Some main)

-- Each end comes exactly where the start ends so, and Limit exactly where a limit is passed in its course.
abbrev pub Answers : ClassWorld → Name → Started → Progress → Progress → Result Start ClassesFault → Type 0
Answers w main s before after (Ok end) = IsEnd s.end main after.order end × Leaves w s.events before after
Answers w main s before after (Err Read) = ⊤
Answers w main s before after (Err (Limit quantity limit)) = passed w before.order s.events ≡ Some (quantity, limit)
Answers w main s before after (Err Memory) = ⊤

abbrev pub AnswersStart : ClassWorld → Name → Progress → Progress → Result Start ClassesFault → Type 0
AnswersStart w main before after result = Answers w main (start w main) before after result

-- Whatever world: the class that is wanting is one of those that are required, and the main class is loaded.
abbrev pub NamesClass : List Name → Name → Result Start ClassesFault → Type 0
NamesClass order main (Ok (starts.NoBoot number)) = (1 ≤ number) × (number ≤ length required)
NamesClass order main (Ok starts.NoMain) = ⊤
NamesClass order main (Ok (starts.Ready id)) = slice_get order id.0 ≡ Some main
NamesClass order main (Err fault) = ⊤

-- A class of this name is loaded and linked.
abbrev pub IsLinkedClass : List Name → (ℕ → Bool) → Name → Type 0
IsLinkedClass order linked name = (id : ℕ) × (slice_get order id ≡ Some name) × (linked id ≡ true)

-- Whatever world: the required classes before the one that is wanting are linked, and where none is, all of them.
abbrev pub LinksRequired : List Name → (ℕ → Bool) → Result Start ClassesFault → Type 0
LinksRequired order linked (Ok (starts.NoBoot number)) = (k : ℕ) (r : Required) → k + 1 < number → slice_get required k ≡ Some r → IsLinkedClass order linked r.name
LinksRequired order linked (Ok starts.NoMain) = (k : ℕ) (r : Required) → slice_get required k ≡ Some r → IsLinkedClass order linked r.name
LinksRequired order linked (Ok (starts.Ready id)) = (k : ℕ) (r : Required) → slice_get required k ≡ Some r → IsLinkedClass order linked r.name
LinksRequired order linked (Err fault) = ⊤

-- ---- the names of the required classes

abbrev pub name_or_empty : Option Required → Name
name_or_empty None = []
name_or_empty (Some r) = r.name

-- the name of the class with a number from 1 on
abbrev pub required_name : ℕ → Name
required_name zero = []
required_name (suc k) = name_or_empty (slice_get required k)
