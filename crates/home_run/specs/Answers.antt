-- What a run over a home answers, and what it leaves.
use Rattle.std.specs.Prelude.{◌≡◌, ◌⊎◌, ◌≤◌, ℕ, List, [], ◌++◌, length, true, false, Option, Some, None}
use Rattle.std.specs.FinMap.{insert}
use Rattle.std.specs.Option.{option_map}
use Rattle.jsa_files.specs.Causes.{Rose}
use Rattle.jsa_files.specs.Store.{Contents, Store}
use Rattle.jsa_files.specs.Told.{contents_told, reads_told}
use Rattle.loader_rules.specs.declared.loader.Loader.TheVariants.{App}
use Rattle.class_record.specs.Files.{Name, RunFiles}
use Rattle.class_record.specs.Loading.{FoundClass, class_of}
use Rattle.class_record.specs.Calls.{passed, IsLimit}
use Rattle.first_form.specs.Runs.{Run, run_of, Runs, Begins, IsSomeRun}
use Rattle.class_record.specs.Required.{required}
use Rattle.class_record.specs.Starting.{StartEnd, NoBoot, NoMain, Ready}
use Rattle.class_record.specs.ClassList.{class_list}
use Rattle.home_run.specs.declared.end.HomeEnd.{HomeEnd}
use Rattle.home_run.specs.declared.end.HomeEnd.TheVariants as ended
use Rattle.command_words.specs.HomeWords.{HomeRequest}
use Rattle.home_run.specs.Requests.{run_files, run_world, started, load_order, paths_read}

-- ---- the main class

-- The class that is found for the name has this run.
pub record MainHasRun (p : RunFiles) (name : Name) (run : Run) : Type 0 where
  pub class : FoundClass
  pub found : class_of p App name ≡ Some class
  pub run_is : run_of class.tree ≡ Some run

-- It has none.
pub record MainHasNoRun (p : RunFiles) (name : Name) : Type 0 where
  pub class : FoundClass
  pub found : class_of p App name ≡ Some class
  pub none : run_of class.tree ≡ None

-- ---- the start

-- The start ends so, no limit is passed in its course, and the reads grow by the class files of what is loaded.
pub record Starts (contents : Contents) (r : HomeRequest) (end : StartEnd) (old new : Option (List (List ℕ))) : Type 0 where
  pub ends : (started contents r).end ≡ end
  pub within : passed (run_world contents r) [] (started contents r).events ≡ None
  pub reads : new ≡ option_map (λ reads. reads ++ paths_read contents r) old

-- ---- the class list

-- what the files hold once the list is written, where one is asked for
abbrev pub with_list : Option (List ℕ) → List ℕ → Contents → Contents
with_list None bytes contents = contents
with_list (Some path) bytes contents = insert contents path bytes

-- The list couldn't be written, and the count of such failures rose: its path holds what it held or a front of its bytes.
pub record FailsList (contents : Contents) (new : Option Contents) (faults : ℕ × ℕ) (r : HomeRequest) : Type 0 where
  pub path : List ℕ
  pub asked : r.list ≡ Some path
  pub front : List ℕ
  pub tail : List ℕ
  pub whole : class_list (load_order contents r) ≡ front ++ tail
  pub holds : (new ≡ Some contents) ⊎ (new ≡ Some (insert contents path front))
  pub rose : Rose faults.0 faults.1

-- ---- the answer

-- Where the files are told. Each answer but the last three comes exactly where its case holds, since these exclude each
-- other; Limit comes exactly where that limit is the first that is passed. The count of the store's writes that failed is
-- given before and now.
abbrev pub Answers : Contents → Option Contents → ℕ × ℕ → Option (List (List ℕ)) → Option (List (List ℕ)) → HomeRequest → Option (List ℕ) → Option (List ℕ) → HomeEnd → Type 0
Answers contents new faults old_reads new_reads r before after ended.Exit =
    Starts contents r Ready old_reads new_reads × Runs (MainHasRun (run_files contents r) r.name) r.steps true before after
    × (new ≡ Some (with_list r.list (class_list (load_order contents r)) contents))
Answers contents new faults old_reads new_reads r before after ended.Stopped =
    Starts contents r Ready old_reads new_reads × Runs (MainHasRun (run_files contents r) r.name) r.steps false before after × (new ≡ Some contents)
Answers contents new faults old_reads new_reads r before after ended.Unsupported =
    Starts contents r Ready old_reads new_reads × MainHasNoRun (run_files contents r) r.name × (after ≡ before) × (new ≡ Some contents)
Answers contents new faults old_reads new_reads r before after (ended.NoBoot number) =
    Starts contents r (NoBoot number) old_reads new_reads × (after ≡ before) × (new ≡ Some contents)
Answers contents new faults old_reads new_reads r before after ended.NoMain =
    Starts contents r NoMain old_reads new_reads × (after ≡ before) × (new ≡ Some contents)
Answers contents new faults old_reads new_reads r before after (ended.Limit quantity limit) =
    (passed (run_world contents r) [] (started contents r).events ≡ Some (quantity, limit)) × (after ≡ before) × (new ≡ Some contents)
Answers contents new faults old_reads new_reads r before after ended.Read = (after ≡ before) × (new ≡ Some contents)
Answers contents new faults old_reads new_reads r before after ended.Write =
    Starts contents r Ready old_reads new_reads
    × ((Begins (MainHasRun (run_files contents r) r.name) r.steps before after × (new ≡ Some contents))
    ⊎ (Runs (MainHasRun (run_files contents r) r.name) r.steps true before after × FailsList contents new faults r))
Answers contents new faults old_reads new_reads r before after ended.Memory =
    ((after ≡ before) ⊎ (Starts contents r Ready old_reads new_reads × Begins (MainHasRun (run_files contents r) r.name) r.steps before after)) × (new ≡ Some contents)

-- Where they aren't: what goes to out is what the run of some class puts.
abbrev pub AnswersUntold : HomeRequest → Option (List ℕ) → Option (List ℕ) → HomeEnd → Type 0
AnswersUntold r before after ended.Exit = Runs IsSomeRun r.steps true before after
AnswersUntold r before after ended.Stopped = Runs IsSomeRun r.steps false before after
AnswersUntold r before after ended.Unsupported = after ≡ before
AnswersUntold r before after (ended.NoBoot number) = (1 ≤ number) × (number ≤ length required) × (after ≡ before)
AnswersUntold r before after ended.NoMain = after ≡ before
AnswersUntold r before after (ended.Limit quantity limit) = IsLimit quantity limit × (after ≡ before)
AnswersUntold r before after ended.Read = after ≡ before
AnswersUntold r before after ended.Write = Begins IsSomeRun r.steps before after
AnswersUntold r before after ended.Memory = (after ≡ before) ⊎ Begins IsSomeRun r.steps before after

abbrev pub AnswersBy : Option Contents → Option Contents → ℕ × ℕ → Option (List (List ℕ)) → Option (List (List ℕ)) → HomeRequest → Option (List ℕ) → Option (List ℕ) → HomeEnd → Type 0
AnswersBy None new faults old_reads new_reads r before after ended = AnswersUntold r before after ended × (new ≡ None)
AnswersBy (Some contents) new faults old_reads new_reads r before after ended = Answers contents new faults old_reads new_reads r before after ended

-- The answer of a run, by the store before and after it.
abbrev pub AnswersRun : Option Store → Option Store → ℕ × ℕ → HomeRequest → Option (List ℕ) → Option (List ℕ) → HomeEnd → Type 0
AnswersRun old new faults r before after ended = AnswersBy (contents_told old) (contents_told new) faults (reads_told old) (reads_told new) r before after ended

-- ---- counts of faults

-- The count of reads that failed rose where the answer is Read, and else is as before.
abbrev pub CountsReads : ℕ → ℕ → HomeEnd → Type 0
CountsReads before now ended.Read = (before ≤ now) × Rose before now
CountsReads before now ended.Exit = now ≡ before
CountsReads before now ended.Stopped = now ≡ before
CountsReads before now ended.Unsupported = now ≡ before
CountsReads before now (ended.NoBoot number) = now ≡ before
CountsReads before now ended.NoMain = now ≡ before
CountsReads before now (ended.Limit quantity limit) = now ≡ before
CountsReads before now ended.Write = now ≡ before
CountsReads before now ended.Memory = now ≡ before

-- The counts of the store's writes and of out's puts that failed: one of them rose where the answer is Write.
abbrev pub CountsWrites : ℕ → ℕ → ℕ → ℕ → HomeEnd → Type 0
CountsWrites files files' out out' ended.Write = ((files ≤ files') × Rose files files' × (out' ≡ out)) ⊎ ((files' ≡ files) × (out ≤ out') × Rose out out')
CountsWrites files files' out out' ended.Memory = (files' ≡ files) × (out ≤ out')
CountsWrites files files' out out' ended.Read = (files' ≡ files) × (out' ≡ out)
CountsWrites files files' out out' ended.Exit = (files' ≡ files) × (out' ≡ out)
CountsWrites files files' out out' ended.Stopped = (files' ≡ files) × (out' ≡ out)
CountsWrites files files' out out' ended.Unsupported = (files' ≡ files) × (out' ≡ out)
CountsWrites files files' out out' (ended.NoBoot number) = (files' ≡ files) × (out' ≡ out)
CountsWrites files files' out out' ended.NoMain = (files' ≡ files) × (out' ≡ out)
CountsWrites files files' out out' (ended.Limit quantity limit) = (files' ≡ files) × (out' ≡ out)
