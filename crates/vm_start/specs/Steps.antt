-- One step of the start of a run: a required class is loaded, linked and looked at.
use Rattle.std.specs.Prelude.{◌≡◌, List, ℕ, drop, ◌-◌, Bool, ◌&&◌, is_none, Result, Ok, Err}
use Rattle.class_record.specs.declared.fault.ClassesFault.{ClassesFault}
use Rattle.class_record.specs.Files.{Name}
use Rattle.class_record.specs.Loading.{Outcome}
use Rattle.class_record.specs.Worlds.{ClassWorld}
use Rattle.class_record.specs.Calls.{Progress, Leaves, Stops}
use Rattle.class_record.specs.declared.start.Start.{Start}
use Rattle.class_record.specs.Required.{Required, required}
use Rattle.class_record.specs.Starting.{is_as_asked, start_from, Answers}

-- whether it comes to this outcome without a throwable, and is as it is asked for
abbrev pub is_good : ClassWorld → Required → Outcome → Bool
is_good w r outcome = is_none outcome.fault && is_as_asked r (w.class r.name)

abbrev pub AnswersTest : ClassWorld → Required → Outcome → Progress → Progress → Result Bool ClassesFault → Type 0
AnswersTest w r outcome before after (Ok good) = (good ≡ is_good w r outcome) × Leaves w outcome.events before after
AnswersTest w r outcome before after (Err fault) = Stops w outcome before fault

-- the required classes from a number on
abbrev pub from_number : ℕ → List Required
from_number number = drop (number - 1) required

-- What the classes from a number on come to, from here, is what all of them come to, from the beginning.
abbrev pub Leads : ClassWorld → Name → Progress → Progress → ℕ → Type 0
Leads w main before now number =
    (after : Progress) (result : Result Start ClassesFault)
    → Answers w main (start_from w main number (from_number number)) now after result → Answers w main (start_from w main 1 required) before after result
