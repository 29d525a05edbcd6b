-- What a dump answers, writes and tells.
use Rattle.std.specs.Prelude.{◌≡◌, ◌<◌, ◌≤◌, ◌⊎◌, ℕ, List, [], ◌∷◌, ◌++◌, length, Option, Some, None, Ok, Err, ⊤, codes}
use Rattle.std.specs.Fmt.{decimal}
use Rattle.jsa_base.specs.declared.quantity.Quantity.TheVariants.{FileSize, Names, Classes, ArchiveSize, Loaded}
use Rattle.jsa_files.specs.declared.TheConstants.{MAX_FILE, MAX_NAMES}
use Rattle.jsa_files.specs.declared.fault.FilesFault.TheVariants.{TooLarge, TooMany}
use Rattle.jsa_files.specs.Causes.{Rose}
use Rattle.jsa_files.specs.Store.{Contents}
use Rattle.jsa_files.specs.Sinks.{GrowsBy, GrowsByFront}
use Rattle.jsa_names.specs.Paths as names
use Rattle.archive_header.specs.declared.folders.Folders.{Folders}
use Rattle.plain_classes.specs.declared.class.PlainClass.{PlainClass}
use Rattle.plain_classes.specs.Records.{IsNamed}
use Rattle.plain_classes.specs.Archives.{IsArchive, archive_text}
use Rattle.jsa.specs.declared.ended.Ended.{Ended}
use Rattle.jsa.specs.declared.ended.Ended.TheVariants.{Exit, Usage, BadText, NoBoot, NoMain, Missing, NotShared, Stopped, Unsupported, ReadFault, WriteFault, Limit, Memory}
use Rattle.command_words.specs.Words.{DumpRequest}
use Rattle.command_words.specs.ClassList.{listed_once}
use Rattle.jsa_files.specs.Told.{IsAt, Holds, HoldsFront}
use Rattle.jsa.specs.Runs.{IsTooLarge}
use Rattle.jsa.specs.Archived.{lists_of, MakesOf}
use Rattle.archive_dump.specs.declared.dump.TheConstants.{MAX_CLASSES, MAX_ARCHIVE}

-- ---- what is known before the classes are read

-- The list is there and no larger than the limit.
pub record Listed (contents : Option Contents) (d : DumpRequest) : Type 0 where
  pub bytes : List ℕ
  pub at : IsAt contents d.list (Some bytes)
  pub small : length bytes ≤ MAX_FILE

-- The same, and this is the manifest of the folder, with no file and no number of names above its limit.
pub record Prepared (contents : Option Contents) (d : DumpRequest) : Type 0 where
  pub list : Listed contents d
  pub now : Folders
  pub made : MakesOf contents (lists_of d.folder) (Ok now)

-- the names that are listed, each once, in the order in which they are listed first
abbrev pub names_listed : {contents : Option Contents} {d : DumpRequest} → Prepared contents d → List (List ℕ)
names_listed p = listed_once p.list.bytes

-- ---- the classes

-- What is in the file of a class in the folder. A name that has no path has no file.
abbrev pub IsInPath : Option Contents → Option (List ℕ) → Option (List ℕ) → Type 0
IsInPath contents None found = found ≡ None
IsInPath contents (Some path) found = IsAt contents path found

abbrev pub IsInFolder : Option Contents → List ℕ → List ℕ → Option (List ℕ) → Type 0
IsInFolder contents folder name found = IsInPath contents (names.path_of folder name) found

-- The folder has a class with this name, inside too, in a file no larger than the limit.
pub record HasClass (contents : Option Contents) (folder name : List ℕ) (class : PlainClass) : Type 0 where
  pub named : class.name ≡ name
  pub at : IsInFolder contents folder name (Some class.bytes)
  pub small : length class.bytes ≤ MAX_FILE
  pub form : IsNamed class.bytes name

-- for each of the names, in their order
abbrev pub HasClasses : Option Contents → List ℕ → List (List ℕ) → List PlainClass → Type 0
HasClasses contents folder [] [] = ⊤
HasClasses contents folder [] (class ∷ classes) = ⊥
HasClasses contents folder (name ∷ names) [] = ⊥
HasClasses contents folder (name ∷ names) (class ∷ classes) = HasClass contents folder name class × HasClasses contents folder names classes

-- The folder has no file for this name, or one that has no such class inside or one with another name.
pub record HasNoClass (contents : Option Contents) (folder name : List ℕ) : Type 0 where
  pub found : Option (List ℕ)
  pub at : IsInFolder contents folder name found
  pub other : (bytes : List ℕ) → found ≡ Some bytes → (length bytes ≤ MAX_FILE) × (IsNamed bytes name → ⊥)

-- The file for this name is larger than the limit.
pub record HasLarge (contents : Option Contents) (folder name : List ℕ) : Type 0 where
  pub found : Option (List ℕ)
  pub at : IsInFolder contents folder name found
  pub large : IsTooLarge found

-- This is the first of the names that something is said of: those before it have their classes.
pub record IsFirst (contents : Option Contents) (folder : List ℕ) (names : List (List ℕ)) (Said : List ℕ → Type 0) (name : List ℕ) : Type 0 where
  pub front : List (List ℕ)
  pub rest : List (List ℕ)
  pub among : names ≡ front ++ name ∷ rest
  pub classes : List PlainClass
  pub before : HasClasses contents folder front classes
  pub said : Said name

-- ---- the archive

-- Each name that is listed has its class.
pub record Gathered (contents : Option Contents) (d : DumpRequest) : Type 0 where
  pub prepared : Prepared contents d
  pub classes : List PlainClass
  pub each : HasClasses contents d.folder (names_listed prepared) classes

-- They are few enough, and these are the bytes of their archive, which are few enough too.
pub record Dumped (contents : Option Contents) (d : DumpRequest) : Type 0 where
  pub gathered : Gathered contents d
  pub few : length gathered.classes ≤ MAX_CLASSES
  pub archive : List ℕ
  pub is : IsArchive archive gathered.classes gathered.prepared.now
  pub small : length archive ≤ MAX_ARCHIVE

-- what a dump tells when it is done
abbrev pub dumped_line : ℕ → List ℕ
dumped_line count = codes "archived " ++ decimal count ++ codes " skipped 0\n"

-- ---- the answer

-- The list is larger than the limit.
abbrev pub ListTooLarge : Option Contents → DumpRequest → Type 0
ListTooLarge contents d = (found : Option (List ℕ)) × IsAt contents d.list found × IsTooLarge found

-- A file of the folder's manifest is larger than the limit, and its names aren't too many.
pub record FolderTooLarge (contents : Option Contents) (d : DumpRequest) : Type 0 where
  pub list : Listed contents d
  pub size : ℕ
  pub passes : MAX_FILE < size
  pub made : MakesOf contents (lists_of d.folder) (Err (TooLarge size))

-- The names of the folder's manifest are too many.
pub record FolderTooMany (contents : Option Contents) (d : DumpRequest) : Type 0 where
  pub list : Listed contents d
  pub count : ℕ
  pub passes : MAX_NAMES < count
  pub made : MakesOf contents (lists_of d.folder) (Err (TooMany count))

-- The classes are too many.
pub record TooManyClasses (contents : Option Contents) (d : DumpRequest) : Type 0 where
  pub gathered : Gathered contents d
  pub passes : MAX_CLASSES < length gathered.classes

-- The classes are few enough, and the bytes of their archive too many.
pub record ArchiveTooLarge (contents : Option Contents) (d : DumpRequest) : Type 0 where
  pub gathered : Gathered contents d
  pub few : length gathered.classes ≤ MAX_CLASSES
  pub passes : MAX_ARCHIVE < length (archive_text gathered.classes gathered.prepared.now)

-- A quantity passes its limit, and none does before it in the order of the command: the list, the folder's manifest,
-- the files of the classes, their number, the archive.
abbrev pub PassesLimit : Option Contents → DumpRequest → Ended → Type 0
PassesLimit contents d (Limit FileSize limit) = (limit ≡ MAX_FILE) × (ListTooLarge contents d ⊎ (FolderTooLarge contents d ⊎ ((p : Prepared contents d) × (name : List ℕ) × IsFirst contents d.folder (names_listed p) (HasLarge contents d.folder) name)))
PassesLimit contents d (Limit Names limit) = (limit ≡ MAX_NAMES) × FolderTooMany contents d
PassesLimit contents d (Limit Classes limit) = (limit ≡ MAX_CLASSES) × TooManyClasses contents d
PassesLimit contents d (Limit ArchiveSize limit) = (limit ≡ MAX_ARCHIVE) × ArchiveTooLarge contents d
PassesLimit contents d (Limit Loaded limit) = ⊥
PassesLimit contents d other = ⊥

-- A name that is listed has no class, and each before it has.
abbrev pub IsUnsupportedName : Option Contents → DumpRequest → List ℕ → Type 0
IsUnsupportedName contents d name = (p : Prepared contents d) × IsFirst contents d.folder (names_listed p) (HasNoClass contents d.folder) name

-- The archive was to be written: its path holds what it held or a front of the archive, and the count of writes that
-- failed rose, which it is given before and now; or the path holds the archive, and out took a front of the line.
abbrev pub BeginsToWrite : Option Contents → Option Contents → ℕ × ℕ → DumpRequest → Option (List ℕ) → Option (List ℕ) → Type 0
BeginsToWrite old new faults d before after = (x : Dumped old d) × ((((new ≡ old) ⊎ HoldsFront old new d.archive x.archive) × Rose faults.0 faults.1 × (after ≡ before))
    ⊎ (Holds old new d.archive x.archive × GrowsByFront before after (dumped_line (length x.gathered.classes))))

-- The answer of a dump. The store holds what it held, but for the archive where that is written, and out takes the line
-- behind it. What the end's line names is the first name that has no class. The cases but the last three exclude each
-- other, so each answer comes exactly where its case holds, faults and want of memory aside.
abbrev pub DumpAnswers : Option Contents → Option Contents → ℕ × ℕ → DumpRequest → Option (List ℕ) → Option (List ℕ) → List ℕ → Ended → Type 0
DumpAnswers old new faults d before after name (Exit code) = (code ≡ 0) × (x : Dumped old d) × Holds old new d.archive x.archive × GrowsBy before after (dumped_line (length x.gathered.classes))
DumpAnswers old new faults d before after name Missing = IsAt old d.list None × (new ≡ old) × (after ≡ before)
DumpAnswers old new faults d before after name Unsupported = IsUnsupportedName old d name × (new ≡ old) × (after ≡ before)
DumpAnswers old new faults d before after name (Limit quantity limit) = PassesLimit old d (Limit quantity limit) × (new ≡ old) × (after ≡ before)
DumpAnswers old new faults d before after name Usage = ⊥
DumpAnswers old new faults d before after name (BadText number) = ⊥
DumpAnswers old new faults d before after name NoBoot = ⊥
DumpAnswers old new faults d before after name NoMain = ⊥
DumpAnswers old new faults d before after name (NotShared refuse) = ⊥
DumpAnswers old new faults d before after name Stopped = ⊥
DumpAnswers old new faults d before after name ReadFault = (new ≡ old) × (after ≡ before)
DumpAnswers old new faults d before after name WriteFault = BeginsToWrite old new faults d before after
DumpAnswers old new faults d before after name Memory = ((new ≡ old) × (after ≡ before)) ⊎ BeginsToWrite old new faults d before after
