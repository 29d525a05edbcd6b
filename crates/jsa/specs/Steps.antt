-- What the steps of a command leave to the next. No public contract cites these.
use Rattle.std.specs.Prelude.{◌≡◌, ◌⊎◌, ℕ, List, [], map, length, ◌≤◌, slice_get, unwrap_or, Option, Some, None, Result, Ok, Err, ⊤}
use Rattle.std.specs.Global.{Vec}
use Rattle.jsa_base.specs.declared.quantity.Quantity.TheVariants.{FileSize, Names, Classes, ArchiveSize, Loaded}
use Rattle.jsa_files.specs.declared.TheConstants.{MAX_FILE}
use Rattle.jsa_files.specs.declared.fault.FilesFault.{FilesFault}
use Rattle.jsa_files.specs.declared.fault.FilesFault.TheVariants as files
use Rattle.jsa_files.specs.Causes.{Rose}
use Rattle.jsa_files.specs.Store.{Contents}
use Rattle.jsa_files.specs.Sinks.{GrowsBy, GrowsByFront}
use Rattle.plain_classes.specs.declared.class.PlainClass.{PlainClass}
use Rattle.jsa_names.specs.Paths as names
use Rattle.plain_classes.specs.Records.{IsNamed, class_in}
use Rattle.jsa.specs.declared.ended.Ended.{Ended}
use Rattle.jsa.specs.declared.ended.Ended.TheVariants.{Exit, Usage, BadText, NoBoot, NoMain, Missing, NotShared, Stopped, Unsupported, ReadFault, WriteFault, Limit, Memory}
use Rattle.jsa.specs.declared.archive_run.ArchiveAndManifest.{ArchiveAndManifest}
use Rattle.jsa.specs.declared.gathering.DumpEnd.{DumpEnd}
use Rattle.command_words.specs.Words.{DumpRequest}
use Rattle.command_words.specs.ClassList.{listed_once}
use Rattle.jsa_files.specs.Told.{IsAt, Holds, HoldsFront, ReadsBy}
use Rattle.jsa.specs.Archived.{Opened, OpensNot, archive_bytes, archive_reads}
use Rattle.jsa.specs.Dumps.{Listed, ListTooLarge, HasClass, HasClasses, HasNoClass, HasLarge, IsFirst, dumped_line}

-- ---- a run with an archive

-- The archive's bytes and the manifest, or why they can't be had.
abbrev pub OpensAs : Option Contents → Option (List (List ℕ)) → Option (List (List ℕ)) → List ℕ → List ℕ → Result ArchiveAndManifest Ended → Type 0
OpensAs contents old new folder archive (Ok both) = (o : Opened contents folder archive) × (archive_bytes o.read.found ≡ both.archive.items) × (o.now ≡ both.manifest) × ReadsBy old new (archive_reads archive o.read.found)
OpensAs contents old new folder archive (Err ended) = OpensNot contents old new folder archive ended

-- ---- a dump

-- texts, each by its bytes
abbrev pub texts_of : List (Vec ℕ) → List (List ℕ)
texts_of texts = map (λ text. text.items) texts

-- why a class list can't be had
abbrev pub ListsNot : Option Contents → DumpRequest → Ended → Type 0
ListsNot contents d Missing = IsAt contents d.list None
ListsNot contents d (Limit FileSize limit) = (limit ≡ MAX_FILE) × ListTooLarge contents d
ListsNot contents d (Limit Names limit) = ⊥
ListsNot contents d (Limit Classes limit) = ⊥
ListsNot contents d (Limit ArchiveSize limit) = ⊥
ListsNot contents d (Limit Loaded limit) = ⊥
ListsNot contents d ReadFault = ⊤
ListsNot contents d Memory = ⊤
ListsNot contents d (Exit code) = ⊥
ListsNot contents d Usage = ⊥
ListsNot contents d (BadText number) = ⊥
ListsNot contents d NoBoot = ⊥
ListsNot contents d NoMain = ⊥
ListsNot contents d (NotShared refuse) = ⊥
ListsNot contents d Stopped = ⊥
ListsNot contents d Unsupported = ⊥
ListsNot contents d WriteFault = ⊥

abbrev pub ListsAs : Option Contents → DumpRequest → Result (Vec (Vec ℕ)) Ended → Type 0
ListsAs contents d (Ok names) = (l : Listed contents d) × (listed_once l.bytes ≡ texts_of names.items)
ListsAs contents d (Err ended) = ListsNot contents d ended

-- why the class of a name can't be had
abbrev pub HasNot : Option Contents → List ℕ → List ℕ → Ended → Type 0
HasNot contents folder name Unsupported = HasNoClass contents folder name
HasNot contents folder name (Limit FileSize limit) = (limit ≡ MAX_FILE) × HasLarge contents folder name
HasNot contents folder name (Limit Names limit) = ⊥
HasNot contents folder name (Limit Classes limit) = ⊥
HasNot contents folder name (Limit ArchiveSize limit) = ⊥
HasNot contents folder name (Limit Loaded limit) = ⊥
HasNot contents folder name ReadFault = ⊤
HasNot contents folder name Memory = ⊤
HasNot contents folder name (Exit code) = ⊥
HasNot contents folder name Usage = ⊥
HasNot contents folder name (BadText number) = ⊥
HasNot contents folder name NoBoot = ⊥
HasNot contents folder name NoMain = ⊥
HasNot contents folder name Missing = ⊥
HasNot contents folder name (NotShared refuse) = ⊥
HasNot contents folder name Stopped = ⊥
HasNot contents folder name WriteFault = ⊥

abbrev pub HasAs : Option Contents → List ℕ → List ℕ → Result PlainClass Ended → Type 0
HasAs contents folder name (Ok class) = HasClass contents folder name class
HasAs contents folder name (Err ended) = HasNot contents folder name ended

-- The bytes are a class with this name, or aren't.
abbrev pub IsNotIn : List ℕ → List ℕ → Ended → Type 0
IsNotIn bytes name Unsupported = IsNamed bytes name → ⊥
IsNotIn bytes name Memory = ⊤
IsNotIn bytes name (Limit quantity limit) = ⊥
IsNotIn bytes name ReadFault = ⊥
IsNotIn bytes name (Exit code) = ⊥
IsNotIn bytes name Usage = ⊥
IsNotIn bytes name (BadText number) = ⊥
IsNotIn bytes name NoBoot = ⊥
IsNotIn bytes name NoMain = ⊥
IsNotIn bytes name Missing = ⊥
IsNotIn bytes name (NotShared refuse) = ⊥
IsNotIn bytes name Stopped = ⊥
IsNotIn bytes name WriteFault = ⊥

abbrev pub IsClassIn : List ℕ → List ℕ → Result PlainClass Ended → Type 0
IsClassIn bytes name (Ok class) = (class.name ≡ name) × (class.bytes ≡ bytes) × IsNamed bytes name
IsClassIn bytes name (Err ended) = IsNotIn bytes name ended

-- The same of the file at a path, as a name that has this path has it.
abbrev pub HasAtPath : Option Contents → List ℕ → List ℕ → Result PlainClass Ended → Type 0
HasAtPath contents path name result = (folder : List ℕ) → names.path_of folder name ≡ Some path → HasAs contents folder name result

-- The classes of the names, or the first name for which that fails and why.
pub record StopsAt (contents : Option Contents) (folder : List ℕ) (names : List (List ℕ)) (ended : Ended) (place : ℕ) : Type 0 where
  pub name : List ℕ
  pub at : slice_get names place ≡ Some name
  pub first : IsFirst contents folder names (λ n. HasNot contents folder n ended) name

abbrev pub GathersAs : Option Contents → List ℕ → List (List ℕ) → Result (List PlainClass) DumpEnd → Type 0
GathersAs contents folder names (Ok classes) = HasClasses contents folder names classes
GathersAs contents folder names (Err stop) = StopsAt contents folder names stop.ended stop.place

-- the name at a place
abbrev pub subject_at : List (List ℕ) → ℕ → List ℕ
subject_at names place = unwrap_or (slice_get names place) []

-- the names in a list that was found, unless memory ran out
abbrev pub NamesIn : List ℕ → Result (Vec (Vec ℕ)) Ended → Type 0
NamesIn bytes (Ok names) = listed_once bytes ≡ texts_of names.items
NamesIn bytes (Err ended) = ended ≡ Memory

-- What out took of the line of a dump of so many classes.
abbrev pub PutsLine : ℕ → Option (List ℕ) → Option (List ℕ) → Ended → Type 0
PutsLine count before after (Exit code) = (code ≡ 0) × GrowsBy before after (dumped_line count)
PutsLine count before after WriteFault = GrowsByFront before after (dumped_line count)
PutsLine count before after Memory = GrowsByFront before after (dumped_line count)
PutsLine count before after Usage = ⊥
PutsLine count before after (BadText number) = ⊥
PutsLine count before after NoBoot = ⊥
PutsLine count before after NoMain = ⊥
PutsLine count before after Missing = ⊥
PutsLine count before after (NotShared refuse) = ⊥
PutsLine count before after Stopped = ⊥
PutsLine count before after Unsupported = ⊥
PutsLine count before after ReadFault = ⊥
PutsLine count before after (Limit quantity limit) = ⊥

-- What the path of an archive holds and out took.
abbrev pub WritesArchive : Option Contents → Option Contents → ℕ × ℕ → List ℕ → List ℕ → ℕ → Option (List ℕ) → Option (List ℕ) → Ended → Type 0
WritesArchive old new faults path archive count before after (Exit code) = (code ≡ 0) × Holds old new path archive × GrowsBy before after (dumped_line count)
WritesArchive old new faults path archive count before after WriteFault = (((new ≡ old) ⊎ HoldsFront old new path archive) × Rose faults.0 faults.1 × (after ≡ before)) ⊎ (Holds old new path archive × GrowsByFront before after (dumped_line count))
WritesArchive old new faults path archive count before after Memory = ((new ≡ old) × (after ≡ before)) ⊎ (Holds old new path archive × GrowsByFront before after (dumped_line count))
WritesArchive old new faults path archive count before after Usage = ⊥
WritesArchive old new faults path archive count before after (BadText number) = ⊥
WritesArchive old new faults path archive count before after NoBoot = ⊥
WritesArchive old new faults path archive count before after NoMain = ⊥
WritesArchive old new faults path archive count before after Missing = ⊥
WritesArchive old new faults path archive count before after (NotShared refuse) = ⊥
WritesArchive old new faults path archive count before after Stopped = ⊥
WritesArchive old new faults path archive count before after Unsupported = ⊥
WritesArchive old new faults path archive count before after ReadFault = ⊥
WritesArchive old new faults path archive count before after (Limit quantity limit) = ⊥

-- Each class is no larger than a file may be.
abbrev pub IsSmallIn : List PlainClass → Type 0
IsSmallIn classes = (name held : List ℕ) → class_in classes name ≡ Some held → length held ≤ MAX_FILE

-- an end that the making or the writing of an archive may have
abbrev pub IsOfArchive : Ended → Type 0
IsOfArchive (Exit code) = ⊤
IsOfArchive WriteFault = ⊤
IsOfArchive (Limit quantity limit) = ⊤
IsOfArchive Memory = ⊤
IsOfArchive Usage = ⊥
IsOfArchive (BadText number) = ⊥
IsOfArchive NoBoot = ⊥
IsOfArchive NoMain = ⊥
IsOfArchive Missing = ⊥
IsOfArchive (NotShared refuse) = ⊥
IsOfArchive Stopped = ⊥
IsOfArchive Unsupported = ⊥
IsOfArchive ReadFault = ⊥

-- ---- an assembly

abbrev pub end_of_writes : {T : Type 0} → Result T FilesFault → Ended
end_of_writes (Ok x) = Exit 0
end_of_writes (Err files.Failed) = WriteFault
end_of_writes (Err (files.TooLarge size)) = Memory
end_of_writes (Err (files.TooMany count)) = Memory
end_of_writes (Err files.Memory) = Memory

-- an end that an assembly may have once its text was read
abbrev pub IsOfText : Ended → Type 0
IsOfText (Exit code) = ⊤
IsOfText (BadText line) = ⊤
IsOfText WriteFault = ⊤
IsOfText Memory = ⊤
IsOfText Usage = ⊥
IsOfText NoBoot = ⊥
IsOfText NoMain = ⊥
IsOfText Missing = ⊥
IsOfText (NotShared refuse) = ⊥
IsOfText Stopped = ⊥
IsOfText Unsupported = ⊥
IsOfText ReadFault = ⊥
IsOfText (Limit quantity limit) = ⊥
