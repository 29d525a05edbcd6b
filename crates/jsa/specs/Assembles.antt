-- What an assembly answers and writes.
use Rattle.std.specs.Prelude.{◌≡◌, ◌≢◌, ◌≤◌, ◌⊎◌, ℕ, List, [], ◌∷◌, length, Option, Some, None, Ok, Err, ⊤}
use Rattle.std.specs.FinMap.{get}
use Rattle.jsa_base.specs.declared.quantity.Quantity.TheVariants.{FileSize, Names, Classes, ArchiveSize, Loaded}
use Rattle.jsa_files.specs.declared.TheConstants.{MAX_FILE}
use Rattle.jsa_files.specs.Causes.{Rose}
use Rattle.jsa_files.specs.Store.{Contents}
use Rattle.class_tree.specs.declared.tree.ClassTree.{ClassTree}
use Rattle.class_asm.specs.Assembly.{assembled}
use Rattle.jsa.specs.declared.ended.Ended.{Ended}
use Rattle.jsa.specs.declared.ended.Ended.TheVariants.{Exit, Usage, BadText, NoBoot, NoMain, Missing, NotShared, Stopped, Unsupported, ReadFault, WriteFault, Limit, Memory}
use Rattle.class_folder.specs.ClassFiles.{File, files_of, HaveFiles, after_files, WritesSome, FailsAt}
use Rattle.command_words.specs.Words.{AsmRequest}
use Rattle.jsa_files.specs.Told.{IsAt}
use Rattle.jsa.specs.Runs.{IsTooLarge}

-- ---- the text

-- The text is there and no larger than the limit.
pub record HasText (contents : Option Contents) (a : AsmRequest) : Type 0 where
  pub text : List ℕ
  pub at : IsAt contents a.text (Some text)
  pub small : length text ≤ MAX_FILE

-- It stands for these classes.
pub record IsAssembled (contents : Option Contents) (a : AsmRequest) : Type 0 where
  pub has : HasText contents a
  pub trees : List ClassTree
  pub is : assembled has.text ≡ Ok trees

-- the files that are to be written
abbrev pub files_asked : {contents : Option Contents} {a : AsmRequest} → IsAssembled contents a → List File
files_asked {a = a} x = files_of a.folder x.trees

-- This line of it is the first outside the grammar.
pub record IsBadText (contents : Option Contents) (a : AsmRequest) (line : ℕ) : Type 0 where
  pub has : HasText contents a
  pub is : assembled has.text ≡ Err line

-- The text is larger than the limit.
abbrev pub TextTooLarge : Option Contents → AsmRequest → Type 0
TextTooLarge contents a = (found : Option (List ℕ)) × IsAt contents a.text found × IsTooLarge found

-- ---- the answer

-- The write of a file failed, and the count of such failures rose, which is given before and now.
abbrev pub FailsToWrite : Option Contents → Option Contents → ℕ × ℕ → AsmRequest → Type 0
FailsToWrite old new faults a = (x : IsAssembled old a) × FailsAt old new (files_asked x) × Rose faults.0 faults.1

-- The answer of an assembly. After Exit the store holds a file for each class of the text, written in the order of the
-- text, and at every other path what it held. The cases but the last three exclude each other, so each answer comes exactly where its
-- case holds, faults and want of memory aside.
abbrev pub AsmAnswers : Option Contents → Option Contents → ℕ × ℕ → AsmRequest → Ended → Type 0
AsmAnswers old new faults a (Exit code) = (code ≡ 0) × (x : IsAssembled old a) × HaveFiles a.folder x.trees × (new ≡ after_files old (files_asked x))
AsmAnswers old new faults a Missing = IsAt old a.text None × (new ≡ old)
AsmAnswers old new faults a (BadText line) = IsBadText old a line × (new ≡ old)
AsmAnswers old new faults a (Limit FileSize limit) = (limit ≡ MAX_FILE) × TextTooLarge old a × (new ≡ old)
AsmAnswers old new faults a (Limit Names limit) = ⊥
AsmAnswers old new faults a (Limit Classes limit) = ⊥
AsmAnswers old new faults a (Limit ArchiveSize limit) = ⊥
AsmAnswers old new faults a (Limit Loaded limit) = ⊥
AsmAnswers old new faults a Usage = ⊥
AsmAnswers old new faults a NoBoot = ⊥
AsmAnswers old new faults a NoMain = ⊥
AsmAnswers old new faults a (NotShared refuse) = ⊥
AsmAnswers old new faults a Stopped = ⊥
AsmAnswers old new faults a Unsupported = ⊥
AsmAnswers old new faults a ReadFault = new ≡ old
AsmAnswers old new faults a WriteFault = FailsToWrite old new faults a
AsmAnswers old new faults a Memory = (new ≡ old) ⊎ (((x : IsAssembled old a) × WritesSome old new (files_asked x)) ⊎ FailsToWrite old new faults a)

-- ---- what stays

-- None of the files has this path.
abbrev pub IsNoneOf : List ℕ → List File → Type 0
IsNoneOf path [] = ⊤
IsNoneOf path (file ∷ files) = (path ≢ file.path) × IsNoneOf path files

-- Every path that no file of the text has holds what it held. Where the text stands for no classes these are all paths.
abbrev pub AsmLeaves : AsmRequest → Option Contents → Option Contents → Type 0
AsmLeaves a None new = new ≡ None
AsmLeaves a (Some old) None = ⊥
AsmLeaves a (Some old) (Some new) = (path : List ℕ) → ((x : IsAssembled (Some old) a) → IsNoneOf path (files_asked x)) → get new path ≡ get old path
