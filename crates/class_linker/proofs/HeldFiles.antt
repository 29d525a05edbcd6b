-- What is held of a class file, and how short its lists are.
use Rattle.std.proofs.Common.{◌≡◌, ℕ, List, refl}
use Rattle.jsa_base.specs.Reading.{IsBytes}
use Rattle.class_tree.specs.declared.tree.ClassTree.{ClassTree}
use Rattle.class_tree.specs.Spells.{Spells, HasNoTree, IsOtherVersion}
use Rattle.classfile_reader.specs.ClassAnswers.{HasNoOtherVersion}
use Rattle.class_record.specs.Readings.{Reading, IsClass, OtherVersion, NotClass, reading_of}
use Rattle.class_record.proofs.ReadingsSpelled.{readings_are_spelled}

pub read_as_class : (bytes : List ℕ) (tree : ClassTree) → IsBytes bytes → Spells bytes tree → reading_of bytes ≡ IsClass tree
read_as_class bytes tree fits s = ((readings_are_spelled bytes fits).spelled tree).1 s

pub read_as_other : (bytes : List ℕ) (minor major : ℕ) → IsBytes bytes → IsOtherVersion bytes minor major → reading_of bytes ≡ OtherVersion
read_as_other bytes minor major fits h = (readings_are_spelled bytes fits).other.1 (minor, major, h)

neither : (bytes : List ℕ) (r : Reading) → IsBytes bytes → HasNoTree bytes → HasNoOtherVersion bytes → reading_of bytes ≡ r → r ≡ NotClass
neither bytes (IsClass tree) fits none other e = absurd (none tree (((readings_are_spelled bytes fits).spelled tree).0 e))
neither bytes OtherVersion fits none other e = let h = (readings_are_spelled bytes fits).other.0 e in absurd (other h.0 h.1 h.2)
neither bytes NotClass fits none other e = refl

pub read_as_none : (bytes : List ℕ) → IsBytes bytes → HasNoTree bytes → HasNoOtherVersion bytes → reading_of bytes ≡ NotClass
read_as_none bytes fits none other = neither bytes (reading_of bytes) fits none other refl
