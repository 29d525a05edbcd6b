-- What a run that is given an archive answers where a dump wrote it: what the run answers that reads the class's file.
use Rattle.std.specs.Prelude.{◌≡◌, ◌⊎◌, ℕ, List, length, true, Option, Some, None, ⊤}
use Rattle.std.specs.List.{Contains}
use Rattle.std.specs.FinMap.{get}
use Rattle.sha2.specs.Sha256.{sha256}
use Rattle.jsa_files.specs.Store.{Contents, Store}
use Rattle.jsa_files.specs.Listing.{class_names}
use Rattle.archive_header.specs.declared.refuse.Refuse.{Refuse}
use Rattle.archive_header.specs.declared.refuse.Refuse.TheVariants as refusals
use Rattle.archive_header.specs.Folders.{IsFirstChanged}
use Rattle.archive_header.specs.Manifests.{path_in, manifest_now}
use Rattle.jsa.specs.declared.ended.Ended.{Ended}
use Rattle.jsa.specs.declared.ended.Ended.TheVariants.{Exit, Usage, BadText, NoBoot, NoMain, Missing, NotShared, Stopped, Unsupported, ReadFault, WriteFault, Limit, Memory}
use Rattle.command_words.specs.Words.{RunRequest, DumpRequest, class_path}
use Rattle.command_words.specs.Grammar.{Request, Run, Dump, Asm, HomeRun, MakeHome}
use Rattle.jsa.specs.Runs.{FileAnswers}
use Rattle.jsa.specs.Archived.{lists_of}
use Rattle.jsa.specs.Dumps.{Dumped}

-- ---- premises

-- The archive is what a dump wrote: of the class files that its folder had at the time.
pub record WrittenByDump (now : Contents) (archive : List ℕ) : Type 0 where
  pub past : Contents
  pub dump : DumpRequest
  pub dumped : Dumped (Some past) dump
  pub at : get now archive ≡ Some dumped.archive

-- a class file of a folder
pub record IsClassFile (contents : Contents) (folder bytes : List ℕ) : Type 0 where
  pub name : List ℕ
  pub listed : Contains (class_names contents folder) name
  pub at : get contents (path_in folder name) ≡ Some bytes

-- a class file of the folder of the dump, at the time, or of that of the run, now
abbrev pub IsOneOf : Contents → List ℕ → Contents → List ℕ → List ℕ → Type 0
IsOneOf past dumped now folder bytes = IsClassFile past dumped bytes ⊎ IsClassFile now folder bytes

-- No two different ones of these have the same size and the same SHA-256 (FIPS 180-4).
abbrev pub Clashfree : Contents → List ℕ → Contents → List ℕ → Type 0
Clashfree past dumped now folder = (a b : List ℕ) → IsOneOf past dumped now folder a → IsOneOf past dumped now folder b → length a ≡ length b → sha256 a ≡ sha256 b → a ≡ b

-- ---- the answer

-- The archive is refused since the first folder of its manifest that changed has this number, and it had to be used.
pub record HasChanged (now : Contents) (r : RunRequest) {archive : List ℕ} (w : WrittenByDump now archive) (refuse : Refuse) : Type 0 where
  pub on : r.on ≡ true
  pub number : ℕ
  pub cause : refuse ≡ refusals.Path number
  pub first : IsFirstChanged (manifest_now w.past (lists_of w.dump.folder)) (manifest_now now (lists_of r.folder)) (Some number)

-- The answer is that of the run that reads the class's file, and out took what goes with it; or the archive is refused.
-- Where a quantity passes its limit nothing is said here.
abbrev pub AsFromFile : (now : Contents) (r : RunRequest) {archive : List ℕ} → WrittenByDump now archive → Option (List ℕ) → Option (List ℕ) → Ended → Type 0
AsFromFile now r w before after (NotShared refuse) = HasChanged now r w refuse
AsFromFile now r w before after (Limit quantity limit) = ⊤
AsFromFile now r w before after (Exit code) = FileAnswers (get now (class_path r)) r.steps before after (Exit code)
AsFromFile now r w before after Usage = ⊥
AsFromFile now r w before after (BadText number) = ⊥
AsFromFile now r w before after NoBoot = ⊥
AsFromFile now r w before after NoMain = FileAnswers (get now (class_path r)) r.steps before after NoMain
AsFromFile now r w before after Missing = ⊥
AsFromFile now r w before after Stopped = FileAnswers (get now (class_path r)) r.steps before after Stopped
AsFromFile now r w before after Unsupported = FileAnswers (get now (class_path r)) r.steps before after Unsupported
AsFromFile now r w before after ReadFault = FileAnswers (get now (class_path r)) r.steps before after ReadFault
AsFromFile now r w before after WriteFault = FileAnswers (get now (class_path r)) r.steps before after WriteFault
AsFromFile now r w before after Memory = FileAnswers (get now (class_path r)) r.steps before after Memory

abbrev pub ArchiveKeeps : Contents → RunRequest → Option (List ℕ) → Option (List ℕ) → Ended → Type 0
ArchiveKeeps now r before after ended = (w : WrittenByDump now r.archive) → Clashfree w.past w.dump.folder now r.folder → AsFromFile now r w before after ended

-- Where the store tells, a run that is given an archive that a dump wrote is the run that reads the class's file, if no
-- two class files clash.
abbrev pub RunsAsFromFile : Option Request → Option Store → Option (List ℕ) → Option (List ℕ) → Ended → Type 0
RunsAsFromFile None store before after ended = ⊤
RunsAsFromFile (Some request) None before after ended = ⊤
RunsAsFromFile (Some (Dump d)) (Some store) before after ended = ⊤
RunsAsFromFile (Some (Asm a)) (Some store) before after ended = ⊤
RunsAsFromFile (Some (HomeRun r)) (Some store) before after ended = ⊤
RunsAsFromFile (Some (MakeHome dir)) (Some store) before after ended = ⊤
RunsAsFromFile (Some (Run r)) (Some store) before after ended = ArchiveKeeps store.contents r before after ended
