-- What the bytes of a class file are (JVMS 4), as a function of them.
use Rattle.std.specs.Prelude.{◌≡◌, ◌↔◌, ℕ, List, Option, Some, None, if◌then◌else◌}
use Rattle.jsa_base.specs.Reading.{IsBytes}
use Rattle.class_tree.specs.declared.tree.ClassTree.{ClassTree}
use Rattle.class_tree.specs.ClassReading.{version_at}
use Rattle.class_tree.specs.Spells.{Spells, IsOtherVersion, is_read_version, tree_behind}

-- a class, or why there is none
pub data Reading : Type 0 where
  IsClass : ClassTree → Reading
  OtherVersion : Reading
  NotClass : Reading

abbrev pub tree_reading : Option ClassTree → Reading
tree_reading (Some tree) = IsClass tree
tree_reading None = NotClass

abbrev pub version_reading : Option ((ℕ × ℕ) × List ℕ) → Reading
version_reading None = NotClass
version_reading (Some version) = if is_read_version version.0.0 version.0.1 then tree_reading (tree_behind version.0.1 version.1) else OtherVersion

-- The magic number and another version: that. Else the tree that is spelled, if there is one.
unfoldable pub reading_of : List ℕ → Reading
reading_of bytes = version_reading (version_at bytes)

abbrev pub tree_in : Reading → Option ClassTree
tree_in (IsClass tree) = Some tree
tree_in OtherVersion = None
tree_in NotClass = None

-- A class is read of bytes exactly where they spell its tree, and another version exactly where they have one.
pub record IsReadRight (bytes : List ℕ) : Type 0 where
  pub spelled : (tree : ClassTree) → (reading_of bytes ≡ IsClass tree) ↔ Spells bytes tree
  pub other : (reading_of bytes ≡ OtherVersion) ↔ ((minor : ℕ) × (major : ℕ) × IsOtherVersion bytes minor major)

abbrev pub ReadingsAreSpelled : Type 0
ReadingsAreSpelled = (bytes : List ℕ) → IsBytes bytes → IsReadRight bytes
