-- What writing an archive answers.
use Rattle.std.specs.Prelude.{◌≡◌, ℕ, ◌≤◌, List, length, IsTrue, Result, Ok, Err}
use Rattle.std.specs.Global.{Vec}
use Rattle.std.specs.List.{AllByRecursion}
use Rattle.archive_header.specs.declared.folders.Folders.{Folders}
use Rattle.archive_header.specs.Header.{FitsHeader}
use Rattle.archive_header.specs.ManifestBytes.{manifest_bytes, SpellsManifest}
use Rattle.plain_classes.specs.declared.class.PlainClass.{PlainClass}
use Rattle.plain_classes.specs.Records.{FitsRecord, IsRecord, names_of, are_distinct}
use Rattle.plain_classes.specs.Archives.{archive_header, archive_text, has_one_folder, IsArchive}
use Rattle.archive_dump.specs.declared.fault.DumpFault.{DumpFault}
use Rattle.archive_dump.specs.declared.fault.DumpFault.TheVariants.{TooMany, TooLarge, Memory}
use Rattle.archive_dump.specs.declared.dump.TheConstants.{MAX_CLASSES, MAX_ARCHIVE}

-- so many classes as an archive may have
abbrev pub IsFew : List PlainClass → Type 0
IsFew classes = length classes ≤ MAX_CLASSES

-- so many bytes as an archive may have
abbrev pub IsSmall : List PlainClass → Folders → Type 0
IsSmall classes folders = length (archive_text classes folders) ≤ MAX_ARCHIVE

-- The bytes are those of the archive of these classes and folders, which are few and small enough and fit where they are
-- written.
pub record IsDump (bytes : List ℕ) (classes : List PlainClass) (folders : Folders) : Type 0 where
  pub written : bytes ≡ archive_text classes folders
  pub few : IsFew classes
  pub small : IsSmall classes folders
  pub header : FitsHeader (archive_header classes folders)
  pub fits : AllByRecursion FitsRecord classes
  pub manifest : SpellsManifest (manifest_bytes folders) folders

-- What writing answers: the bytes, a fault exactly where there are too many classes, or else too many bytes, unless
-- memory runs out.
abbrev pub Dumps : List PlainClass → Folders → Result (Vec ℕ) DumpFault → Type 0
Dumps classes folders (Ok bytes) = IsDump bytes.items classes folders
Dumps classes folders (Err TooMany) = IsFew classes → ⊥
Dumps classes folders (Err TooLarge) = IsFew classes × (IsSmall classes folders → ⊥)
Dumps classes folders (Err Memory) = Unit {0}

-- What is written is an archive, where the classes and the folders are those of one.
abbrev pub DumpsAreArchives : Type 0
DumpsAreArchives = (bytes : List ℕ) (classes : List PlainClass) (folders : Folders) → IsDump bytes classes folders → AllByRecursion IsRecord classes → IsTrue (are_distinct (names_of classes)) → IsTrue (has_one_folder folders) → IsArchive bytes classes folders
