-- What a run that is given an archive answers, and where it takes its class from.
use Rattle.std.specs.Prelude.{◌≡◌, ◌≢◌, ◌<◌, ◌≤◌, ◌⊎◌, ℕ, List, [], ◌∷◌, length, Bool, true, false, Option, Some, None, unwrap_or, Ok, Err, ⊤}
use Rattle.jsa_base.specs.declared.quantity.Quantity.TheVariants.{FileSize, Names, Classes, ArchiveSize, Loaded}
use Rattle.jsa_files.specs.declared.TheConstants.{MAX_FILE, MAX_NAMES}
use Rattle.jsa_files.specs.declared.fault.FilesFault.TheVariants.{TooLarge, TooMany}
use Rattle.jsa_files.specs.Store.{Contents}
use Rattle.loader_rules.specs.Lists.{FolderLists}
use Rattle.archive_header.specs.declared.folders.Folders.{Folders}
use Rattle.archive_header.specs.declared.refuse.Refuse.{Refuse}
use Rattle.archive_header.specs.declared.refuse.Refuse.TheVariants as refusals
use Rattle.archive_header.specs.Manifests.{MakeAnswer, Makes}
use Rattle.plain_classes.specs.declared.class.PlainClass.{PlainClass}
use Rattle.plain_classes.specs.Records.{class_in}
use Rattle.archive_mapper.specs.Mapping.{Maps}
use Rattle.jsa.specs.declared.ended.Ended.{Ended}
use Rattle.jsa.specs.declared.ended.Ended.TheVariants.{Exit, Usage, BadText, NoBoot, NoMain, Missing, NotShared, Stopped, Unsupported, ReadFault, WriteFault, Limit, Memory}
use Rattle.command_words.specs.Words.{RunRequest, class_path}
use Rattle.jsa_files.specs.Told.{IsAt, ReadsBy, ReadsFront}
use Rattle.jsa.specs.Runs.{FileAnswers, ReadsClass, IsTooLarge}

-- ---- what is known before the class is taken

-- the folders of a command: the application folder alone
abbrev pub lists_of : List ℕ → FolderLists
lists_of folder = record { boot = []; platform = []; app = folder ∷ [] }

-- what making the manifest answers, where the store tells what it holds
abbrev pub MakesOf : Option Contents → FolderLists → MakeAnswer → Type 0
MakesOf None lists result = ⊤
MakesOf (Some contents) lists result = Makes contents lists result

-- The bytes of the archive's file. One that isn't there counts as empty.
abbrev pub archive_bytes : Option (List ℕ) → List ℕ
archive_bytes found = unwrap_or found []

-- the archive's path, where its file is there
abbrev pub archive_reads : List ℕ → Option (List ℕ) → List (List ℕ)
archive_reads archive None = []
archive_reads archive (Some bytes) = archive ∷ []

-- The archive's file is no larger than the limit.
pub record ReadsArchive (contents : Option Contents) (archive : List ℕ) : Type 0 where
  pub found : Option (List ℕ)
  pub at : IsAt contents archive found
  pub small : length (archive_bytes found) ≤ MAX_FILE

-- The archive's file is no larger than the limit, and this is the manifest of the folder, with no file and no number of
-- names above its limit.
pub record Opened (contents : Option Contents) (folder archive : List ℕ) : Type 0 where
  pub read : ReadsArchive contents archive
  pub now : Folders
  pub made : MakesOf contents (lists_of folder) (Ok now)

-- The archive's file is larger than the limit.
pub record ArchiveTooLarge (contents : Option Contents) (archive : List ℕ) : Type 0 where
  pub found : Option (List ℕ)
  pub at : IsAt contents archive found
  pub large : IsTooLarge found

-- The archive's file is no larger than the limit. A file of the folder's manifest is, and its names aren't too many.
pub record ListedTooLarge (contents : Option Contents) (folder archive : List ℕ) : Type 0 where
  pub read : ReadsArchive contents archive
  pub size : ℕ
  pub passes : MAX_FILE < size
  pub made : MakesOf contents (lists_of folder) (Err (TooLarge size))

-- The archive's file is no larger than the limit. The folder's names are too many.
pub record TooManyNames (contents : Option Contents) (folder archive : List ℕ) : Type 0 where
  pub read : ReadsArchive contents archive
  pub count : ℕ
  pub passes : MAX_NAMES < count
  pub made : MakesOf contents (lists_of folder) (Err (TooMany count))

-- The archive or the manifest can't be had, for this reason.
abbrev pub OpensNot : Option Contents → Option (List (List ℕ)) → Option (List (List ℕ)) → List ℕ → List ℕ → Ended → Type 0
OpensNot contents old new folder archive (Limit FileSize limit) = (limit ≡ MAX_FILE)
    × ((ArchiveTooLarge contents archive × ReadsBy old new []) ⊎ ((large : ListedTooLarge contents folder archive) × ReadsBy old new (archive_reads archive large.read.found)))
OpensNot contents old new folder archive (Limit Names limit) = (limit ≡ MAX_NAMES) × (many : TooManyNames contents folder archive) × ReadsBy old new (archive_reads archive many.read.found)
OpensNot contents old new folder archive (Limit Classes limit) = ⊥
OpensNot contents old new folder archive (Limit ArchiveSize limit) = ⊥
OpensNot contents old new folder archive (Limit Loaded limit) = ⊥
OpensNot contents old new folder archive ReadFault = ReadsFront old new (archive ∷ [])
OpensNot contents old new folder archive Memory = ReadsFront old new (archive ∷ [])
OpensNot contents old new folder archive (Exit code) = ⊥
OpensNot contents old new folder archive Usage = ⊥
OpensNot contents old new folder archive (BadText number) = ⊥
OpensNot contents old new folder archive NoBoot = ⊥
OpensNot contents old new folder archive NoMain = ⊥
OpensNot contents old new folder archive Missing = ⊥
OpensNot contents old new folder archive (NotShared refuse) = ⊥
OpensNot contents old new folder archive Stopped = ⊥
OpensNot contents old new folder archive Unsupported = ⊥
OpensNot contents old new folder archive WriteFault = ⊥

-- ---- where the class is taken from

-- The archive is refused, for this reason.
pub record Refuses (bytes : List ℕ) (now : Folders) (refuse : Refuse) : Type 0 where
  pub why : Maps bytes (Some now) (Err refuse)
  pub known : refuse ≢ refusals.Memory

-- The archive is mapped and holds the class, as this file.
pub record InArchive (bytes : List ℕ) (now : Folders) (name found : List ℕ) : Type 0 where
  pub classes : List PlainClass
  pub mapped : Maps bytes (Some now) (Ok classes)
  pub held : class_in classes name ≡ Some found

-- The archive is mapped and doesn't hold the class.
pub record NotHeld (bytes : List ℕ) (now : Folders) (name : List ℕ) : Type 0 where
  pub classes : List PlainClass
  pub mapped : Maps bytes (Some now) (Ok classes)
  pub other : class_in classes name ≡ None

-- The archive is refused, and the words allow a run without it.
pub record Dropped (bytes : List ℕ) (now : Folders) (on : Bool) : Type 0 where
  pub refuse : Refuse
  pub refused : Refuses bytes now refuse
  pub auto : on ≡ false

-- The class is taken from the archive, and no file is read; or no mapped archive holds it, and its file is read.
abbrev pub TakesFrom : Option Contents → RunRequest → List ℕ → Folders → Option (List ℕ) → List (List ℕ) → Type 0
TakesFrom contents r bytes now found paths =
    ((held : List ℕ) × InArchive bytes now r.name held × (found ≡ Some held) × (paths ≡ []))
    ⊎ ((NotHeld bytes now r.name ⊎ Dropped bytes now r.on) × IsAt contents (class_path r) found × (paths ≡ class_path r ∷ []))

-- The class is taken from there, and the run is that of its bytes.
pub record Taken (contents : Option Contents) (old new : Option (List (List ℕ))) (first : List (List ℕ)) (r : RunRequest) (bytes : List ℕ) (now : Folders) (before after : Option (List ℕ)) (ended : Ended) : Type 0 where
  pub found : Option (List ℕ)
  pub paths : List (List ℕ)
  pub from : TakesFrom contents r bytes now found paths
  pub answer : FileAnswers found r.steps before after ended
  pub reads : ReadsClass old new first paths ended

-- The archive is refused for this reason, and the words ask that it be used.
pub record IsRefused (old new : Option (List (List ℕ))) (first : List (List ℕ)) (r : RunRequest) (bytes : List ℕ) (now : Folders) (refuse : Refuse) : Type 0 where
  pub on : r.on ≡ true
  pub refused : Refuses bytes now refuse
  pub reads : ReadsBy old new first

-- The answer with these bytes of an archive and this manifest, where these paths were read before.
abbrev pub MappedAnswers : Option Contents → Option (List (List ℕ)) → Option (List (List ℕ)) → List (List ℕ) → RunRequest → List ℕ → Folders → Option (List ℕ) → Option (List ℕ) → Ended → Type 0
MappedAnswers contents old new first r bytes now before after (NotShared refuse) = IsRefused old new first r bytes now refuse × (after ≡ before)
MappedAnswers contents old new first r bytes now before after (Exit code) = Taken contents old new first r bytes now before after (Exit code)
MappedAnswers contents old new first r bytes now before after Stopped = Taken contents old new first r bytes now before after Stopped
MappedAnswers contents old new first r bytes now before after NoBoot = ⊥
MappedAnswers contents old new first r bytes now before after NoMain = Taken contents old new first r bytes now before after NoMain
MappedAnswers contents old new first r bytes now before after Unsupported = Taken contents old new first r bytes now before after Unsupported
MappedAnswers contents old new first r bytes now before after WriteFault = Taken contents old new first r bytes now before after WriteFault
MappedAnswers contents old new first r bytes now before after (Limit quantity limit) = Taken contents old new first r bytes now before after (Limit quantity limit)
MappedAnswers contents old new first r bytes now before after Usage = ⊥
MappedAnswers contents old new first r bytes now before after (BadText number) = ⊥
MappedAnswers contents old new first r bytes now before after Missing = ⊥
MappedAnswers contents old new first r bytes now before after ReadFault = ReadsBy old new first × (after ≡ before)
MappedAnswers contents old new first r bytes now before after Memory = (ReadsBy old new first × (after ≡ before)) ⊎ Taken contents old new first r bytes now before after Memory

-- The answer of a run that is given an archive: why the archive or the manifest can't be had, or what goes with them.
abbrev pub ArchiveAnswers : Option Contents → Option (List (List ℕ)) → Option (List (List ℕ)) → RunRequest → Option (List ℕ) → Option (List ℕ) → Ended → Type 0
ArchiveAnswers contents old new r before after ended =
    (OpensNot contents old new r.folder r.archive ended × (after ≡ before))
    ⊎ ((o : Opened contents r.folder r.archive) × MappedAnswers contents old new (archive_reads r.archive o.read.found) r (archive_bytes o.read.found) o.now before after ended)
