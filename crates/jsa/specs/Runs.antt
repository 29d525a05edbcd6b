-- What the run of a class answers, by the bytes that its class is taken from, and what out takes.
use Rattle.std.specs.Prelude.{◌≡◌, ◌<◌, ◌≤◌, ◌⊎◌, ℕ, List, [], ◌∷◌, ◌++◌, length, true, false, Option, Some, None}
use Rattle.std.specs.FinMap.{get}
use Rattle.jsa_base.specs.declared.quantity.Quantity.TheVariants.{FileSize, Names, Classes, ArchiveSize, Loaded}
use Rattle.jsa_files.specs.declared.TheConstants.{MAX_FILE}
use Rattle.jsa_files.specs.Store.{Contents}
use Rattle.first_form.specs.Runs.{Run, FileHasRun, FileHasNoRun, Runs, Begins}
use Rattle.jsa.specs.declared.ended.Ended.{Ended}
use Rattle.jsa.specs.declared.ended.Ended.TheVariants.{Exit, Usage, BadText, NoBoot, NoMain, Missing, NotShared, Stopped, Unsupported, ReadFault, WriteFault, Limit, Memory}
use Rattle.jsa_files.specs.Told.{ReadsBy}

-- The file is no larger than the limit, and its class has this run.
pub record HasRun (found : Option (List ℕ)) (run : Run) : Type 0 where
  pub bytes : List ℕ
  pub at : found ≡ Some bytes
  pub small : length bytes ≤ MAX_FILE
  pub of : FileHasRun bytes run

-- The file is no larger than the limit, and no class file whose class has a run.
pub record IsUnsupported (found : Option (List ℕ)) : Type 0 where
  pub bytes : List ℕ
  pub at : found ≡ Some bytes
  pub small : length bytes ≤ MAX_FILE
  pub other : FileHasNoRun bytes

-- The file is larger than the limit.
pub record IsTooLarge (found : Option (List ℕ)) : Type 0 where
  pub bytes : List ℕ
  pub at : found ≡ Some bytes
  pub passes : MAX_FILE < length bytes

-- The answer is the one that the file and the limit of turns have, and out took what goes with it. The cases but the last
-- three exclude each other, so each answer comes exactly where its case holds, faults and want of memory aside.
abbrev pub FileAnswers : Option (List ℕ) → ℕ → Option (List ℕ) → Option (List ℕ) → Ended → Type 0
FileAnswers found steps before after (Exit code) = (code ≡ 0) × Runs (HasRun found) steps true before after
FileAnswers found steps before after Stopped = Runs (HasRun found) steps false before after
FileAnswers found steps before after NoBoot = ⊥
FileAnswers found steps before after NoMain = (found ≡ None) × (after ≡ before)
FileAnswers found steps before after Unsupported = IsUnsupported found × (after ≡ before)
FileAnswers found steps before after (Limit FileSize limit) = (limit ≡ MAX_FILE) × IsTooLarge found × (after ≡ before)
FileAnswers found steps before after (Limit Names limit) = ⊥
FileAnswers found steps before after (Limit Classes limit) = ⊥
FileAnswers found steps before after (Limit ArchiveSize limit) = ⊥
FileAnswers found steps before after (Limit Loaded limit) = ⊥
FileAnswers found steps before after Usage = ⊥
FileAnswers found steps before after (BadText number) = ⊥
FileAnswers found steps before after Missing = ⊥
FileAnswers found steps before after (NotShared refuse) = ⊥
FileAnswers found steps before after ReadFault = after ≡ before
FileAnswers found steps before after WriteFault = Begins (HasRun found) steps before after
FileAnswers found steps before after Memory = (after ≡ before) ⊎ Begins (HasRun found) steps before after

-- the answer for the file at a path; where the store doesn't tell, the answer is that of some file
abbrev pub PathAnswers : Option Contents → List ℕ → ℕ → Option (List ℕ) → Option (List ℕ) → Ended → Type 0
PathAnswers None path steps before after ended = (found : Option (List ℕ)) × FileAnswers found steps before after ended
PathAnswers (Some contents) path steps before after ended = FileAnswers (get contents path) steps before after ended

-- The reads grow by these, then by the class's where its bytes were taken from a file that was read: the paths are that
-- file's, or none.
abbrev pub ReadsClass : Option (List (List ℕ)) → Option (List (List ℕ)) → List (List ℕ) → List (List ℕ) → Ended → Type 0
ReadsClass old new first paths (Exit code) = ReadsBy old new (first ++ paths)
ReadsClass old new first paths Stopped = ReadsBy old new (first ++ paths)
ReadsClass old new first paths Unsupported = ReadsBy old new (first ++ paths)
ReadsClass old new first paths WriteFault = ReadsBy old new (first ++ paths)
ReadsClass old new first paths Usage = ReadsBy old new first
ReadsClass old new first paths (BadText number) = ReadsBy old new (first ++ paths)
ReadsClass old new first paths NoBoot = ReadsBy old new first
ReadsClass old new first paths NoMain = ReadsBy old new first
ReadsClass old new first paths Missing = ReadsBy old new first
ReadsClass old new first paths (NotShared refuse) = ReadsBy old new first
ReadsClass old new first paths (Limit quantity limit) = ReadsBy old new first
ReadsClass old new first paths ReadFault = ReadsBy old new first
ReadsClass old new first paths Memory = ReadsBy old new first ⊎ ReadsBy old new (first ++ paths)

-- The reads of a run without an archive, or of an assembly: they grow by the path where its bytes were handed out, and
-- else not at all.
abbrev pub ReadsNothing : Option (List (List ℕ)) → Option (List (List ℕ)) → Type 0
ReadsNothing old new = new ≡ old

abbrev pub ReadsOnce : List ℕ → Option (List (List ℕ)) → Option (List (List ℕ)) → Type 0
ReadsOnce path old new = ReadsBy old new (path ∷ [])

abbrev pub ReadsPath : Option (List (List ℕ)) → Option (List (List ℕ)) → List ℕ → Ended → Type 0
ReadsPath old new path (Exit code) = ReadsOnce path old new
ReadsPath old new path Stopped = ReadsOnce path old new
ReadsPath old new path Unsupported = ReadsOnce path old new
ReadsPath old new path WriteFault = ReadsOnce path old new
ReadsPath old new path Usage = ReadsNothing old new
ReadsPath old new path (BadText number) = ReadsOnce path old new
ReadsPath old new path NoBoot = ReadsNothing old new
ReadsPath old new path NoMain = ReadsNothing old new
ReadsPath old new path Missing = ReadsNothing old new
ReadsPath old new path (NotShared refuse) = ReadsNothing old new
ReadsPath old new path (Limit quantity limit) = ReadsNothing old new
ReadsPath old new path ReadFault = ReadsNothing old new
ReadsPath old new path Memory = ReadsNothing old new ⊎ ReadsOnce path old new
