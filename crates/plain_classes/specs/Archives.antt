-- The bytes of a plain archive.
use Rattle.std.specs.Prelude.{◌≡◌, ℕ, List, ◌++◌, length, replicate, IsTrue, Bool, ◌&&◌, ◌==◌}
use Rattle.std.specs.Option.{is_none}
use Rattle.std.specs.List.{AllByRecursion}
use Rattle.sha2.specs.Sha256.{sha256}
use Rattle.archive_header.specs.declared.header.Header.{Header}
use Rattle.archive_header.specs.declared.folders.Folders.{Folders}
use Rattle.archive_header.specs.Header.{header_bytes, FitsHeader}
use Rattle.archive_header.specs.ManifestBytes.{manifest_bytes, SpellsManifest}
use Rattle.plain_classes.specs.declared.class.PlainClass.{PlainClass}
use Rattle.plain_classes.specs.Records.{classes_text, FitsRecord, IsRecord, names_of, are_distinct}

-- the header of an archive whose ro region and manifest are these bytes, of so many classes: its other regions are empty,
-- it asks to stand at 0x800000000, it has no root and none below, and its digest is that of all bytes behind it
abbrev pub header_for : List ℕ → List ℕ → ℕ → Header
header_for ro manifest count = record {
  format = 0;
  base = 0x8_0000_0000;
  rw_size = 0;
  ro_size = length ro;
  bitmap_size = 0;
  manifest_size = length manifest;
  classes = count;
  root = 0;
  lower = replicate 32 0;
  body_digest = sha256 (ro ++ manifest);
}

-- the header of the archive of these classes and folders
abbrev pub archive_header : List PlainClass → Folders → Header
archive_header classes folders = header_for (classes_text classes) (manifest_bytes folders) (length classes)

-- the bytes of the archive of these classes and folders: the header, the classes, the manifest
unfoldable pub archive_text : List PlainClass → Folders → List ℕ
archive_text classes folders = header_bytes (archive_header classes folders) ++ (classes_text classes ++ manifest_bytes folders)

-- one application folder, and no boot or platform folder
abbrev pub has_one_folder : Folders → Bool
has_one_folder m = is_none m.boot && is_none m.platform && (length m.app == 1)

-- The bytes are a plain archive of these classes and of the manifest of these folders.
pub record IsArchive (bytes : List ℕ) (classes : List PlainClass) (folders : Folders) : Type 0 where
  pub written : bytes ≡ archive_text classes folders
  -- the numbers of the header, the classes and the manifest fit where they are written
  pub header : FitsHeader (archive_header classes folders)
  pub fits : AllByRecursion FitsRecord classes
  pub manifest : SpellsManifest (manifest_bytes folders) folders
  -- each class has its own name inside, and no name stands twice
  pub records : AllByRecursion IsRecord classes
  pub distinct : IsTrue (are_distinct (names_of classes))
  pub one : IsTrue (has_one_folder folders)

-- Bytes are an archive of one list of classes and one manifest at most.
abbrev pub OneArchive : Type 0
OneArchive = (bytes : List ℕ) (c d : List PlainClass) (f g : Folders) → IsArchive bytes c f → IsArchive bytes d g → (c ≡ d) × (f ≡ g)
