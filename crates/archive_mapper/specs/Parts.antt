-- The parts of a plain archive behind its header.
use Rattle.std.specs.Prelude.{ℕ, List, IsTrue}
use Rattle.std.specs.List.{AllByRecursion}
use Rattle.archive_header.specs.declared.folders.Folders.{Folders}
use Rattle.archive_header.specs.ManifestBytes.{SpellsManifest}
use Rattle.plain_classes.specs.declared.class.PlainClass.{PlainClass}
use Rattle.plain_classes.specs.Records.{SpellsClasses, IsRecord, names_of, are_distinct}
use Rattle.plain_classes.specs.Archives.{has_one_folder}

-- Each has its own name inside, and no name stands twice.
pub record AreRecords (classes : List PlainClass) : Type 0 where
  pub records : AllByRecursion IsRecord classes
  pub distinct : IsTrue (are_distinct (names_of classes))

-- The bytes are those of such classes, so many.
pub record AreClasses (bytes : List ℕ) (count : ℕ) (classes : List PlainClass) : Type 0 where
  pub spelled : SpellsClasses bytes count classes
  pub good : AreRecords classes

-- The bytes are those of a manifest with one application folder and no other.
pub record IsPlainManifest (bytes : List ℕ) (kept : Folders) : Type 0 where
  pub spelled : SpellsManifest bytes kept
  pub one : IsTrue (has_one_folder kept)
