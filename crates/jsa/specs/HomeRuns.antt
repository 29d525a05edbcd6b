-- What a run over a home and the making of a home answer.
use Rattle.std.specs.Prelude.{◌≡◌, ◌⊎◌, ℕ, List, Option, Some, None, Result, Ok, Err}
use Rattle.std.specs.FinMap.{get}
use Rattle.jsa_files.specs.Store.{Contents, Store}
use Rattle.jsa_files.specs.declared.fault.FilesFault.TheVariants as files
use Rattle.command_words.specs.HomeWords.{HomeRequest}
use Rattle.home_run.specs.Answers.{AnswersRun}
use Rattle.home_run.specs.declared.end.HomeEnd.{HomeEnd}
use Rattle.home_run.specs.declared.end.HomeEnd.TheVariants as ends
use Rattle.class_record.specs.Starting.{required_name}
use Rattle.boot_library.specs.declared.fault.HomeFault.{HomeFault}
use Rattle.boot_library.specs.declared.fault.HomeFault.TheVariants as home
use Rattle.boot_library.specs.Home.{HomeAnswers, IsHome, files_asked, boot_text}
use Rattle.jsa.specs.Assembles.{IsNoneOf}
use Rattle.jsa.specs.declared.ended.Ended.{Ended}
use Rattle.jsa.specs.declared.ended.Ended.TheVariants.{Exit, BadText, NoBoot, NoMain, Stopped, Unsupported, ReadFault, WriteFault, Limit, Memory}

-- ---- a run over a home

abbrev pub end_of_run : HomeEnd → Ended
end_of_run ends.Exit = Exit 0
end_of_run (ends.NoBoot number) = NoBoot
end_of_run ends.NoMain = NoMain
end_of_run ends.Stopped = Stopped
end_of_run ends.Unsupported = Unsupported
end_of_run ends.Read = ReadFault
end_of_run ends.Write = WriteFault
end_of_run (ends.Limit quantity limit) = Limit quantity limit
end_of_run ends.Memory = Memory

-- What the line of the run's end tells: the class that is wanting, and else the main class.
abbrev pub home_subject : HomeRequest → HomeEnd → List ℕ
home_subject r (ends.NoBoot number) = required_name number
home_subject r ends.Exit = r.name
home_subject r ends.NoMain = r.name
home_subject r ends.Stopped = r.name
home_subject r ends.Unsupported = r.name
home_subject r ends.Read = r.name
home_subject r ends.Write = r.name
home_subject r (ends.Limit quantity limit) = r.name
home_subject r ends.Memory = r.name

-- The run ended so, and this is the answer; or memory ran out, in the run or in telling its end.
pub record HomeRunAnswers (old new : Option Store) (faults : ℕ × ℕ) (r : HomeRequest) (before after : Option (List ℕ)) (subject : List ℕ) (ended : Ended) : Type 0 where
  pub end : HomeEnd
  pub run : AnswersRun old new faults r before after end
  pub is : (ended ≡ end_of_run end) ⊎ (ended ≡ Memory)
  pub tells : (ended ≡ Memory) ⊎ (subject ≡ home_subject r end)

-- ---- the making of a home

abbrev pub end_of_home : Result (Unit {0}) HomeFault → Ended
end_of_home (Ok done) = Exit 0
end_of_home (Err (home.Line number)) = BadText number
end_of_home (Err (home.Files files.Failed)) = WriteFault
end_of_home (Err (home.Files files.Memory)) = Memory
end_of_home (Err (home.Files (files.TooLarge size))) = Memory
end_of_home (Err (home.Files (files.TooMany count))) = Memory
end_of_home (Err home.Memory) = Memory

-- The home of the boot library was made so, in this folder, and this is the answer; or memory ran out.
pub record MakeHomeAnswers (old new : Option Contents) (faults : ℕ × ℕ) (dir : List ℕ) (ended : Ended) : Type 0 where
  pub made : Result (Unit {0}) HomeFault
  pub answer : HomeAnswers old new faults dir boot_text made
  pub is : (ended ≡ end_of_home made) ⊎ (ended ≡ Memory)

-- ---- what stays

-- Every path that no file of the home has holds what it held.
abbrev pub MakeHomeLeaves : List ℕ → Option Contents → Option Contents → Type 0
MakeHomeLeaves dir None new = new ≡ None
MakeHomeLeaves dir (Some old) None = ⊥
MakeHomeLeaves dir (Some old) (Some new) = (path : List ℕ) → ((h : IsHome dir boot_text) → IsNoneOf path (files_asked h)) → get new path ≡ get old path
