-- What the reading of a class file says of its spelling.
use Rattle.std.proofs.Common.{◌≡◌, ℕ, Bool, true, false, List, if◌then◌else◌, Option, Some, None, IsFalse, refl, ◌∙◌, ap}
use Rattle.jsa_base.specs.Reading.{◌>>=◌, Read, IsBytes, when}
use Rattle.class_tree.specs.declared.tree.ClassTree.{ClassTree}
use Rattle.class_tree.specs.ClassReading.{version_at}
use Rattle.class_tree.specs.Spells.{Spells, is_read_version, IsOtherVersion, tree_behind, tree_at}
use Rattle.class_tree.proofs.TreesSpelled.{trees_are_spelled, versions_are_written, has_its_version}
use Rattle.class_record.specs.Readings.{IsClass, OtherVersion, tree_reading, version_reading, reading_of, tree_in, ReadingsAreSpelled}

-- ---- a class

-- what follows the version
abbrev tree_of_version : (ℕ × ℕ) × List ℕ → Option ClassTree
tree_of_version version = when (is_read_version version.0.0 version.0.1) >>= λ known. tree_behind version.0.1 version.1

class_read : (b : Bool) (o : Option ClassTree) (tree : ClassTree) → (if b then tree_reading o else OtherVersion) ≡ IsClass tree → (when b >>= λ known. o) ≡ Some tree
class_read true (Some t) tree h = ap tree_in h
class_read true None tree h = ap tree_in h
class_read false o tree h = ap tree_in h

version_read : (o : Read (ℕ × ℕ)) (tree : ClassTree) → version_reading o ≡ IsClass tree → (o >>= tree_of_version) ≡ Some tree
version_read None tree h = ap tree_in h
version_read (Some v) tree h = class_read (is_read_version v.0.0 v.0.1) (tree_behind v.0.1 v.1) tree h

tree_is_read : (bytes : List ℕ) (tree : ClassTree) → reading_of bytes ≡ IsClass tree → tree_at bytes ≡ Some tree
unfolding reading_of tree_at
tree_is_read bytes tree h = version_read (version_at bytes) tree h

class_again : (b : Bool) (o : Option ClassTree) (tree : ClassTree) → b ≡ true → o ≡ Some tree → (if b then tree_reading o else OtherVersion) ≡ IsClass tree
class_again true o tree e h = ap tree_reading h
class_again false o tree e h = absurd cc

spelled_is_read : (bytes : List ℕ) (tree : ClassTree) → Spells bytes tree → reading_of bytes ≡ IsClass tree
unfolding reading_of
spelled_is_read bytes tree s =
    let v = has_its_version bytes tree s in
    ap version_reading v.1 ∙ class_again (is_read_version 0 tree.major) (tree_behind tree.major v.0) tree v.3 v.2

-- ---- another version

other_read : (b : Bool) (o : Option ClassTree) → (if b then tree_reading o else OtherVersion) ≡ OtherVersion → b ≡ false
other_read true (Some t) h = absurd cc
other_read true None h = absurd cc
other_read false o h = refl

-- bytes with a version that isn't read
record HasOther (o : Read (ℕ × ℕ)) : Type 0 where
  version : ℕ × ℕ
  rest : List ℕ
  is : o ≡ Some (version, rest)
  other : is_read_version version.0 version.1 ≡ false

version_other : (o : Read (ℕ × ℕ)) → version_reading o ≡ OtherVersion → HasOther o
version_other None h = absurd cc
version_other (Some v) h = record { version = v.0; rest = v.1; is = refl; other = other_read (is_read_version v.0.0 v.0.1) (tree_behind v.0.1 v.1) h }

other_is_written : (bytes : List ℕ) → IsBytes bytes → reading_of bytes ≡ OtherVersion → (minor : ℕ) × (major : ℕ) × IsOtherVersion bytes minor major
unfolding reading_of
other_is_written bytes fits h =
    let o = version_other (version_at bytes) h in
    (o.version.0, o.version.1, ((versions_are_written bytes o.version.0 o.version.1 fits).0 (o.rest, o.is), o.other))

other_again : (b : Bool) (o : Option ClassTree) → IsFalse b → (if b then tree_reading o else OtherVersion) ≡ OtherVersion
other_again true o e = absurd cc
other_again false o e = refl

written_is_other : (bytes : List ℕ) → IsBytes bytes → (minor major : ℕ) → IsOtherVersion bytes minor major → reading_of bytes ≡ OtherVersion
unfolding reading_of
written_is_other bytes fits minor major h =
    let v = (versions_are_written bytes minor major fits).1 h.0 in
    ap version_reading v.1 ∙ other_again (is_read_version minor major) (tree_behind major v.0) h.1

pub readings_are_spelled : ReadingsAreSpelled
readings_are_spelled bytes fits = record {
  spelled = λ tree. (λ h. (trees_are_spelled bytes tree fits).0 (tree_is_read bytes tree h), spelled_is_read bytes tree);
  other = (other_is_written bytes fits, λ h. written_is_other bytes fits h.0 h.1 h.2);
}
