-- What the steps of a run leave to one another. No public contract cites these.
use Rattle.std.specs.Prelude.{◌≡◌, ◌⊎◌, ◌≤◌, ℕ, List, ◌++◌, length, true, false, Option, Some, None, ⊤}
use Rattle.std.specs.FinMap.{insert}
use Rattle.std.specs.Option.{option_map}
use Rattle.jsa_files.specs.Causes.{Rose}
use Rattle.jsa_files.specs.Store.{Contents, Store}
use Rattle.loader_rules.specs.Lists.{FolderLists}
use Rattle.class_record.specs.declared.fault.ClassesFault.{ClassesFault}
use Rattle.class_record.specs.declared.fault.ClassesFault.TheVariants as faults
use Rattle.class_record.specs.Files.{Name, RunFiles}
use Rattle.class_record.specs.Facts.{names_of}
use Rattle.class_record.specs.Worlds.{World, world_of_files}
use Rattle.class_record.specs.Calls.{Progress, Leaves, passed, IsLimit}
use Rattle.class_linker.specs.Fresh.{FreshView, reads_in}
use Rattle.class_linker.specs.Kept.{names_read}
use Rattle.first_form.specs.Runs.{Run, Runs, Begins, IsSomeRun}
use Rattle.class_record.specs.Required.{required}
use Rattle.class_record.specs.Starting.{StartEnd, NoBoot, NoMain, Ready, start}
use Rattle.home_run.specs.declared.end.HomeEnd.{HomeEnd}
use Rattle.home_run.specs.declared.end.HomeEnd.TheVariants as ended
use Rattle.home_run.specs.Answers.{MainHasRun, MainHasNoRun, with_list}

abbrev pub files_of : Contents → FolderLists → RunFiles
files_of contents folders = record { contents = contents; folders = folders }

-- ---- the run of the main class

-- What a run of this kind answers, or that there is none.
abbrev pub MainAnswersAs : (Run → Type 0) → Type 0 → ℕ → Option (List ℕ) → Option (List ℕ) → HomeEnd → Type 0
MainAnswersAs Of Other steps before after ended.Exit = Runs Of steps true before after
MainAnswersAs Of Other steps before after ended.Stopped = Runs Of steps false before after
MainAnswersAs Of Other steps before after ended.Unsupported = Other × (after ≡ before)
MainAnswersAs Of Other steps before after ended.Write = Begins Of steps before after
MainAnswersAs Of Other steps before after ended.Memory = (after ≡ before) ⊎ Begins Of steps before after
MainAnswersAs Of Other steps before after (ended.NoBoot number) = ⊥
MainAnswersAs Of Other steps before after ended.NoMain = ⊥
MainAnswersAs Of Other steps before after ended.Read = ⊥
MainAnswersAs Of Other steps before after (ended.Limit quantity limit) = ⊥

-- of the class file that is found for a name, where the files are told
abbrev pub MainAnswersOf : FolderLists → Option Contents → Name → ℕ → Option (List ℕ) → Option (List ℕ) → HomeEnd → Type 0
MainAnswersOf folders None name steps before after end = MainAnswersAs IsSomeRun ⊤ steps before after end
MainAnswersOf folders (Some contents) name steps before after end =
    MainAnswersAs (MainHasRun (files_of contents folders) name) (MainHasNoRun (files_of contents folders) name) steps before after end

abbrev pub MainAnswers : World → Name → ℕ → Option (List ℕ) → Option (List ℕ) → HomeEnd → Type 0
MainAnswers w name steps before after end = MainAnswersOf w.folders w.contents name steps before after end

-- the count of out's puts that failed, in the run of the main class
abbrev pub CountsPuts : ℕ → ℕ → HomeEnd → Type 0
CountsPuts before now ended.Write = (before ≤ now) × Rose before now
CountsPuts before now ended.Memory = before ≤ now
CountsPuts before now ended.Exit = now ≡ before
CountsPuts before now ended.Stopped = now ≡ before
CountsPuts before now ended.Unsupported = now ≡ before
CountsPuts before now (ended.NoBoot number) = now ≡ before
CountsPuts before now ended.NoMain = now ≡ before
CountsPuts before now ended.Read = now ≡ before
CountsPuts before now (ended.Limit quantity limit) = now ≡ before

-- ---- the run but for the class list

-- The start ends so, and this is what it leaves.
pub record Comes (p : RunFiles) (name : Name) (end : StartEnd) (a b : Progress) : Type 0 where
  pub ends : (start (world_of_files p) name).end ≡ end
  pub leaves : Leaves (world_of_files p) (start (world_of_files p) name).events a b

abbrev pub RunAnswers : RunFiles → Name → ℕ → Progress → Progress → Option (List ℕ) → Option (List ℕ) → HomeEnd → Type 0
RunAnswers p name steps a b before after ended.Exit = Comes p name Ready a b × Runs (MainHasRun p name) steps true before after
RunAnswers p name steps a b before after ended.Stopped = Comes p name Ready a b × Runs (MainHasRun p name) steps false before after
RunAnswers p name steps a b before after ended.Unsupported = Comes p name Ready a b × MainHasNoRun p name × (after ≡ before)
RunAnswers p name steps a b before after ended.Write = Comes p name Ready a b × Begins (MainHasRun p name) steps before after
RunAnswers p name steps a b before after ended.Memory = (after ≡ before) ⊎ (Comes p name Ready a b × Begins (MainHasRun p name) steps before after)
RunAnswers p name steps a b before after (ended.NoBoot number) = Comes p name (NoBoot number) a b × (after ≡ before)
RunAnswers p name steps a b before after ended.NoMain = Comes p name NoMain a b × (after ≡ before)
RunAnswers p name steps a b before after ended.Read = after ≡ before
RunAnswers p name steps a b before after (ended.Limit quantity limit) = (passed (world_of_files p) a.order (start (world_of_files p) name).events ≡ Some (quantity, limit)) × (after ≡ before)

-- the same where the files aren't told
abbrev pub RunAnswersUntold : ℕ → Option (List ℕ) → Option (List ℕ) → HomeEnd → Type 0
RunAnswersUntold steps before after ended.Exit = Runs IsSomeRun steps true before after
RunAnswersUntold steps before after ended.Stopped = Runs IsSomeRun steps false before after
RunAnswersUntold steps before after ended.Unsupported = after ≡ before
RunAnswersUntold steps before after ended.Write = Begins IsSomeRun steps before after
RunAnswersUntold steps before after ended.Memory = (after ≡ before) ⊎ Begins IsSomeRun steps before after
RunAnswersUntold steps before after (ended.NoBoot number) = (1 ≤ number) × (number ≤ length required) × (after ≡ before)
RunAnswersUntold steps before after ended.NoMain = after ≡ before
RunAnswersUntold steps before after ended.Read = after ≡ before
RunAnswersUntold steps before after (ended.Limit quantity limit) = IsLimit quantity limit × (after ≡ before)

abbrev pub ClassesAnswerOf : FolderLists → Option Contents → Name → ℕ → Progress → Progress → Option (List ℕ) → Option (List ℕ) → HomeEnd → Type 0
ClassesAnswerOf folders None name steps a b before after end = RunAnswersUntold steps before after end
ClassesAnswerOf folders (Some contents) name steps a b before after end = RunAnswers (files_of contents folders) name steps a b before after end

abbrev pub ClassesAnswer : World → Name → ℕ → Progress → Progress → Option (List ℕ) → Option (List ℕ) → HomeEnd → Type 0
ClassesAnswer w name steps a b before after end = ClassesAnswerOf w.folders w.contents name steps a b before after end

-- the end of a run whose classes ended it with a fault
abbrev pub end_of_fault : ClassesFault → HomeEnd
end_of_fault faults.Read = ended.Read
end_of_fault (faults.Limit quantity limit) = ended.Limit quantity limit
end_of_fault faults.Memory = ended.Memory

-- how far the classes of a run have come
abbrev pub progress_in : {F : Type 0} → (F → Option Store) → FreshView F → Progress
progress_in store classes = record { order = names_of classes.loaded.classes; begun = names_read classes.readings; reads = reads_in (store classes.files) }

-- ---- the class list

-- It couldn't be written, and the count of such failures rose.
pub record FailsToList (old new : Option Contents) (faults : ℕ × ℕ) (list : Option (List ℕ)) (bytes : List ℕ) : Type 0 where
  pub path : List ℕ
  pub asked : list ≡ Some path
  pub front : List ℕ
  pub tail : List ℕ
  pub whole : bytes ≡ front ++ tail
  pub holds : (new ≡ old) ⊎ (new ≡ option_map (λ c. insert c path front) old)
  pub rose : Rose faults.0 faults.1

-- The list was written, where one is asked for; or not, and its path holds what it held or a front of it.
abbrev pub ListAnswers : Option Contents → Option Contents → ℕ × ℕ → Option (List ℕ) → List ℕ → HomeEnd → Type 0
ListAnswers old new faults list bytes ended.Exit = new ≡ option_map (with_list list bytes) old
ListAnswers old new faults list bytes ended.Write = FailsToList old new faults list bytes
ListAnswers old new faults list bytes ended.Memory = new ≡ old
ListAnswers old new faults list bytes ended.Stopped = ⊥
ListAnswers old new faults list bytes ended.Unsupported = ⊥
ListAnswers old new faults list bytes (ended.NoBoot number) = ⊥
ListAnswers old new faults list bytes ended.NoMain = ⊥
ListAnswers old new faults list bytes ended.Read = ⊥
ListAnswers old new faults list bytes (ended.Limit quantity limit) = ⊥

-- the count of the store's writes that failed, where the list is written
abbrev pub CountsList : ℕ → ℕ → HomeEnd → Type 0
CountsList before now ended.Write = (before ≤ now) × Rose before now
CountsList before now ended.Memory = now ≡ before
CountsList before now ended.Exit = now ≡ before
CountsList before now ended.Stopped = now ≡ before
CountsList before now ended.Unsupported = now ≡ before
CountsList before now (ended.NoBoot number) = now ≡ before
CountsList before now ended.NoMain = now ≡ before
CountsList before now ended.Read = now ≡ before
CountsList before now (ended.Limit quantity limit) = now ≡ before
