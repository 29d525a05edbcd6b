-- The run of a class of the first form. What stands above this crate names a run by these words alone.
use Rattle.std.specs.Prelude.{◌≡◌, ◌⊎◌, ℕ, List, Bool, true, false, Option, Some, None}
use Rattle.std.specs.Bool.{IsTrue}
use Rattle.std.specs.Option.{option_map}
use Rattle.jsa_files.specs.Sinks.{GrowsBy, GrowsByFront}
use Rattle.class_tree.specs.declared.tree.ClassTree.{ClassTree}
use Rattle.class_tree.specs.WellFormed.{is_well_formed}
use Rattle.class_tree.specs.Spells.{Spells}
use Rattle.first_form.specs.declared.program.Program.{Program}
use Rattle.first_form.specs.declared.machine.End.{End}
use Rattle.first_form.specs.declared.machine.End.TheVariants.{Exit, Stuck}
use Rattle.first_form.specs.declared.class_run.RunEnd.{RunEnd}
use Rattle.first_form.specs.declared.class_run.RunEnd.TheVariants as ended
use Rattle.first_form.specs.Program.{program_of}
use Rattle.first_form.specs.Machine.{state_after, start}

-- How far a run has come: whether main has returned, and what was put so far.
pub record Ran : Type 0 where
  pub returned : Bool
  pub out : List ℕ

-- how far a run has come after so many turns
abbrev pub Run : Type 0
Run = ℕ → Ran

abbrev pub is_exit : Option End → Bool
is_exit None = false
is_exit (Some Exit) = true
is_exit (Some Stuck) = false

abbrev pub run_of_program : Program → Run
run_of_program program turns = record { returned = is_exit (state_after program turns start).end; out = (state_after program turns start).out }

-- the run of the class of a tree, where it is of the first form
unfoldable pub run_of : ClassTree → Option Run
run_of tree = option_map run_of_program (program_of tree)

-- ---- the run of a class

-- The tree breaks no rule of form (4.1, 4.4 to 4.7), and its class has this run.
abbrev pub HasRun : ClassTree → Run → Type 0
HasRun tree run = IsTrue (is_well_formed tree) × (run_of tree ≡ Some run)

-- It breaks one, or its class has no run.
abbrev pub HasNoRun : ClassTree → Type 0
HasNoRun tree = IsTrue (is_well_formed tree) → run_of tree ≡ None

-- The bytes are a class file (JVMS 4), and its class has this run.
pub record FileHasRun (bytes : List ℕ) (run : Run) : Type 0 where
  pub tree : ClassTree
  pub spelled : Spells bytes tree
  pub run_is : run_of tree ≡ Some run

-- They are no class file, or its class has no run.
abbrev pub FileHasNoRun : List ℕ → Type 0
FileHasNoRun bytes = (run : Run) → FileHasRun bytes run → ⊥

-- the run of some class
abbrev pub IsSomeRun : Run → Type 0
IsSomeRun run = (tree : ClassTree) × HasRun tree run

-- ---- what it answers

-- A run of this kind has returned from main after so many turns, or it hasn't, and out took what it puts.
pub record Runs (Of : Run → Type 0) (turns : ℕ) (returned : Bool) (before after : Option (List ℕ)) : Type 0 where
  pub run : Run
  pub of : Of run
  pub returns : (run turns).returned ≡ returned
  pub out : GrowsBy before after (run turns).out

-- Out took a front of what such a run puts in so many turns.
pub record Begins (Of : Run → Type 0) (turns : ℕ) (before after : Option (List ℕ)) : Type 0 where
  pub run : Run
  pub of : Of run
  pub out : GrowsByFront before after (run turns).out

-- The answer of such a run of so many turns, or that there is none.
abbrev pub RunAnswers : (Run → Type 0) → Type 0 → ℕ → Option (List ℕ) → Option (List ℕ) → RunEnd → Type 0
RunAnswers Of Other turns before after ended.Returned = Runs Of turns true before after
RunAnswers Of Other turns before after ended.Stopped = Runs Of turns false before after
RunAnswers Of Other turns before after ended.Unsupported = Other × (after ≡ before)
RunAnswers Of Other turns before after ended.Write = Begins Of turns before after
RunAnswers Of Other turns before after ended.Memory = (after ≡ before) ⊎ Begins Of turns before after

-- A class file has one run at most.
abbrev pub OneRun : Type 0
OneRun = (bytes : List ℕ) (p q : Run) → FileHasRun bytes p → FileHasRun bytes q → p ≡ q
