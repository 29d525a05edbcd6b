-- What the top call answers, and why, and what it leaves.
use Rattle.std.specs.Prelude.{◌≡◌, ◌≢◌, ◌≤◌, ◌⊎◌, ℕ, List, IsTrue, Option, Some, None, codes, ⊤}
use Rattle.std.specs.FinMap.{get}
use Rattle.jsa_files.specs.Causes.{Rose}
use Rattle.jsa_files.specs.Store.{Contents, Store}
use Rattle.jsa_files.specs.Sinks.{GrowsByFront}
use Rattle.jsa.specs.declared.ended.Ended.{Ended}
use Rattle.jsa.specs.declared.ended.Ended.TheVariants.{Exit, Usage, BadText, NoBoot, NoMain, Missing, NotShared, Stopped, Unsupported, ReadFault, WriteFault, Limit, Memory}
use Rattle.command_words.specs.Words.{RunRequest, DumpRequest, AsmRequest, ends_in}
use Rattle.command_words.specs.Grammar.{Request, Run, Dump, Asm, HomeRun, MakeHome}
use Rattle.jsa_files.specs.Told.{contents_told, reads_told}
use Rattle.jsa.specs.Lines.{line_of, TakesLine}
use Rattle.jsa.specs.Runs.{ReadsPath, ReadsNothing}
use Rattle.jsa.specs.Archived.{ArchiveAnswers}
use Rattle.jsa.specs.Dumps.{DumpAnswers}
use Rattle.jsa.specs.Assembles.{AsmAnswers, AsmLeaves}
use Rattle.jsa.specs.HomeRuns.{HomeRunAnswers, MakeHomeAnswers, MakeHomeLeaves}

-- ---- the answer

abbrev pub RunAnswers : Option Store → Option Store → RunRequest → Option (List ℕ) → Option (List ℕ) → Ended → Type 0
RunAnswers old new r before after ended = ArchiveAnswers (contents_told old) (reads_told old) (reads_told new) r before after ended

-- What the line of a run's end tells: the archive's path where that is refused, and else the main class's name.
abbrev pub run_subject : RunRequest → Ended → List ℕ
run_subject r (NotShared refuse) = r.archive
run_subject r (Exit code) = r.name
run_subject r Usage = r.name
run_subject r (BadText number) = r.name
run_subject r NoBoot = r.name
run_subject r NoMain = r.name
run_subject r Missing = r.name
run_subject r Stopped = r.name
run_subject r Unsupported = r.name
run_subject r ReadFault = r.name
run_subject r WriteFault = r.name
run_subject r (Limit quantity limit) = r.name
run_subject r Memory = r.name

-- The line of a dump's end tells the list's path where the list is missing.
abbrev pub TellsList : DumpRequest → List ℕ → Ended → Type 0
TellsList d subject ended = ended ≡ Missing → subject ≡ d.list

-- The line of an assembly's end tells the text's path where the text is missing.
abbrev pub TellsText : AsmRequest → List ℕ → Ended → Type 0
TellsText a subject ended = ended ≡ Missing → subject ≡ a.text

-- The answer to the words, with what its line tells, where the store's count of writes that failed was and is so. Words
-- outside the grammar have Usage, and nothing is read or put. An assembly reads the text alone, once, and puts nothing, and
-- the making of a home reads and puts nothing.
abbrev pub RequestAnswers : Option Request → Option Store → Option Store → ℕ × ℕ → Option (List ℕ) → Option (List ℕ) → List ℕ → Ended → Type 0
RequestAnswers None old new faults before after subject ended = ((ended ≡ Usage) ⊎ (ended ≡ Memory)) × ReadsNothing (reads_told old) (reads_told new) × (after ≡ before)
RequestAnswers (Some (Run r)) old new faults before after subject ended = RunAnswers old new r before after ended × ((ended ≡ Memory) ⊎ (subject ≡ run_subject r ended))
RequestAnswers (Some (Dump d)) old new faults before after subject ended = DumpAnswers (contents_told old) (contents_told new) faults d before after subject ended × TellsList d subject ended
RequestAnswers (Some (Asm a)) old new faults before after subject ended = AsmAnswers (contents_told old) (contents_told new) faults a ended × ReadsPath (reads_told old) (reads_told new) a.text ended × (after ≡ before) × TellsText a subject ended
RequestAnswers (Some (HomeRun r)) old new faults before after subject ended = HomeRunAnswers old new faults r before after subject ended
RequestAnswers (Some (MakeHome dir)) old new faults before after subject ended = MakeHomeAnswers (contents_told old) (contents_told new) faults dir ended × ReadsNothing (reads_told old) (reads_told new) × (after ≡ before)

-- the limit of turns that a line may tell
abbrev pub steps_of : Option Request → ℕ
steps_of None = 0
steps_of (Some (Run r)) = r.steps
steps_of (Some (Dump d)) = 0
steps_of (Some (Asm a)) = 0
steps_of (Some (HomeRun r)) = r.steps
steps_of (Some (MakeHome dir)) = 0

-- The answer is one of these, and err took its line; where memory ran out a clause of its own says what err took.
pub record Answered (Answers : List ℕ → Ended → Type 0) (steps : ℕ) (before after : Option (List ℕ)) (old new : ℕ) (can_fail : Type 0) (ended : Ended) : Type 0 where
  pub subject : List ℕ
  pub answer : Answers subject ended
  pub line : ended ≢ Memory → TakesLine before after old new can_fail (line_of ended subject steps)

-- ---- counts of faults

-- The count of reads that failed rose where the answer is ReadFault. It may have risen where memory ran out then, and
-- with every other answer it is as before.
abbrev pub CountsReads : ℕ → ℕ → Ended → Type 0
CountsReads before now ReadFault = (before ≤ now) × Rose before now
CountsReads before now Memory = before ≤ now
CountsReads before now (Exit code) = now ≡ before
CountsReads before now Usage = now ≡ before
CountsReads before now (BadText number) = now ≡ before
CountsReads before now NoBoot = now ≡ before
CountsReads before now NoMain = now ≡ before
CountsReads before now Missing = now ≡ before
CountsReads before now (NotShared refuse) = now ≡ before
CountsReads before now Stopped = now ≡ before
CountsReads before now Unsupported = now ≡ before
CountsReads before now WriteFault = now ≡ before
CountsReads before now (Limit quantity limit) = now ≡ before

-- The same for the count of out's puts that failed in a run with an archive, or of a store's writes where files are
-- made, and WriteFault.
abbrev pub CountsWrites : ℕ → ℕ → Ended → Type 0
CountsWrites before now WriteFault = (before ≤ now) × Rose before now
CountsWrites before now Memory = before ≤ now
CountsWrites before now (Exit code) = now ≡ before
CountsWrites before now Usage = now ≡ before
CountsWrites before now (BadText number) = now ≡ before
CountsWrites before now NoBoot = now ≡ before
CountsWrites before now NoMain = now ≡ before
CountsWrites before now Missing = now ≡ before
CountsWrites before now (NotShared refuse) = now ≡ before
CountsWrites before now Stopped = now ≡ before
CountsWrites before now Unsupported = now ≡ before
CountsWrites before now ReadFault = now ≡ before
CountsWrites before now (Limit quantity limit) = now ≡ before

-- The counts of a store's writes and of out's puts that failed, where both are made: one of them rose where the answer is
-- WriteFault.
abbrev pub CountsDump : ℕ → ℕ → ℕ → ℕ → Ended → Type 0
CountsDump files files' out out' WriteFault = ((files ≤ files') × Rose files files' × (out' ≡ out)) ⊎ ((files' ≡ files) × (out ≤ out') × Rose out out')
CountsDump files files' out out' Memory = (files ≤ files') × (out ≤ out')
CountsDump files files' out out' (Exit code) = (files' ≡ files) × (out' ≡ out)
CountsDump files files' out out' Usage = (files' ≡ files) × (out' ≡ out)
CountsDump files files' out out' (BadText number) = (files' ≡ files) × (out' ≡ out)
CountsDump files files' out out' NoBoot = (files' ≡ files) × (out' ≡ out)
CountsDump files files' out out' NoMain = (files' ≡ files) × (out' ≡ out)
CountsDump files files' out out' Missing = (files' ≡ files) × (out' ≡ out)
CountsDump files files' out out' (NotShared refuse) = (files' ≡ files) × (out' ≡ out)
CountsDump files files' out out' Stopped = (files' ≡ files) × (out' ≡ out)
CountsDump files files' out out' Unsupported = (files' ≡ files) × (out' ≡ out)
CountsDump files files' out out' ReadFault = (files' ≡ files) × (out' ≡ out)
CountsDump files files' out out' (Limit quantity limit) = (files' ≡ files) × (out' ≡ out)

-- Which counts of writes rise, by what was asked: a run with an archive puts, an assembly and the making of a home
-- write files, and a dump and a run over a home do both.
abbrev pub CountsFor : Option Request → ℕ → ℕ → ℕ → ℕ → Ended → Type 0
CountsFor None files files' out out' ended = (files' ≡ files) × CountsWrites out out' ended
CountsFor (Some (Run r)) files files' out out' ended = (files' ≡ files) × CountsWrites out out' ended
CountsFor (Some (Dump d)) files files' out out' ended = CountsDump files files' out out' ended
CountsFor (Some (Asm a)) files files' out out' ended = (out' ≡ out) × CountsWrites files files' ended
CountsFor (Some (HomeRun r)) files files' out out' ended = CountsDump files files' out out' ended
CountsFor (Some (MakeHome dir)) files files' out out' ended = (out' ≡ out) × CountsWrites files files' ended

-- Which of the outside may have failed where the answer is WriteFault.
abbrev pub CanFailWrites : Option Request → Type 0 → Type 0 → Type 0
CanFailWrites None files out = out
CanFailWrites (Some (Run r)) files out = out
CanFailWrites (Some (Dump d)) files out = files ⊎ out
CanFailWrites (Some (Asm a)) files out = files
CanFailWrites (Some (HomeRun r)) files out = files ⊎ out
CanFailWrites (Some (MakeHome dir)) files out = files

-- An end that a call could have answered, which left these counts: its cause holds, and a fault's count rose.
pub record CouldAnswer (Answers Writes : Ended → Type 0) (reads_before reads_now : ℕ) (ended : Ended) : Type 0 where
  pub cause : Answers ended
  pub reads : CountsReads reads_before reads_now ended
  pub writes : Writes ended

-- A front of one line was taken, and nothing else: the line of want of memory, or the line of an end that could have been
-- the answer.
pub record TakesSomeFront (Answers : List ℕ → Ended → Type 0) (Writes : Ended → Type 0) (steps : ℕ) (before after : Option (List ℕ)) (reads_before reads_now : ℕ) : Type 0 where
  pub told : Ended
  pub subject : List ℕ
  pub why : (told ≡ Memory) ⊎ CouldAnswer (Answers subject) Writes reads_before reads_now told
  pub front : GrowsByFront before after (line_of told subject steps)

-- ---- the store

-- Every path but this one holds what it held.
abbrev pub OthersStay : List ℕ → Option Contents → Option Contents → Type 0
OthersStay written None new = new ≡ None
OthersStay written (Some old) None = ⊥
OthersStay written (Some old) (Some new) = (path : List ℕ) → path ≢ written → get new path ≡ get old path

-- A run over a home leaves all paths but that of its class list as they were.
abbrev pub HomeRunLeaves : Option (List ℕ) → Option Contents → Option Contents → Type 0
HomeRunLeaves None old new = new ≡ old
HomeRunLeaves (Some list) old new = OthersStay list old new

-- A run with an archive leaves all paths as they were, a dump all but the archive's, and an assembly and the making of
-- a home all but those of their files.
abbrev pub Leaves : Option Request → Option Store → Option Store → Type 0
Leaves None old new = contents_told new ≡ contents_told old
Leaves (Some (Run r)) old new = contents_told new ≡ contents_told old
Leaves (Some (Dump d)) old new = OthersStay d.archive (contents_told old) (contents_told new)
Leaves (Some (Asm a)) old new = AsmLeaves a (contents_told old) (contents_told new)
Leaves (Some (HomeRun r)) old new = HomeRunLeaves r.list (contents_told old) (contents_told new)
Leaves (Some (MakeHome dir)) old new = MakeHomeLeaves dir (contents_told old) (contents_told new)

-- Every path of a class file holds what it held.
abbrev pub ClassFilesStay : Option Contents → Option Contents → Type 0
ClassFilesStay None new = new ≡ None
ClassFilesStay (Some old) None = ⊥
ClassFilesStay (Some old) (Some new) = (path : List ℕ) → IsTrue (ends_in (codes ".class") path) → get new path ≡ get old path

-- Only an assembly and the making of a home write class files.
abbrev pub KeepsClassFiles : Option Request → Option Contents → Option Contents → Type 0
KeepsClassFiles None old new = ClassFilesStay old new
KeepsClassFiles (Some (Run r)) old new = ClassFilesStay old new
KeepsClassFiles (Some (Dump d)) old new = ClassFilesStay old new
KeepsClassFiles (Some (Asm a)) old new = ⊤
KeepsClassFiles (Some (HomeRun r)) old new = ClassFilesStay old new
KeepsClassFiles (Some (MakeHome dir)) old new = ⊤
