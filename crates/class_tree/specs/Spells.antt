-- Which bytes spell which class tree (JVMS 4).
use Rattle.std.specs.Prelude.{◌≡◌, ◌↔◌, ℕ, List, ◌++◌, Bool, ◌&&◌, ◌==◌, Option, Some, IsTrue, IsFalse}
use Rattle.jsa_base.specs.Reading.{◌>>=◌, IsBytes, when, all_read}
use Rattle.jsa_base.specs.Spelling.{Fits2}
use Rattle.jsa_names.specs.Texts.{is_within}
use Rattle.class_tree.specs.declared.tree.ClassTree.{ClassTree}
use Rattle.class_tree.specs.ClassFiles.{ClassParts, CodeParts, version_text, class_text, code_text, FitsParts, FitsCode}
use Rattle.class_tree.specs.ClassReading.{parts_at, code_at, version_at}
use Rattle.class_tree.specs.Links.{is_linked}
use Rattle.class_tree.specs.Trees.{tree_of}
use Rattle.class_tree.specs.WellFormed.{is_well_formed}

-- The bytes are a magic number, the version MAJOR.0 and the parts, one after the other, and nothing behind them; the
-- parts make the tree, and the tree is well-formed.
pub record Spells (bytes : List ℕ) (tree : ClassTree) : Type 0 where
  pub parts : ClassParts
  pub written : bytes ≡ class_text 0 tree.major parts
  pub fits : FitsParts parts
  pub linked : IsTrue (is_linked parts.pool)
  pub made : tree_of tree.major parts ≡ Some tree
  pub formed : IsTrue (is_well_formed tree)

-- A text spells one tree at most.
abbrev pub OneTree : Type 0
OneTree = (bytes : List ℕ) (s t : ClassTree) → Spells bytes s → Spells bytes t → s ≡ t

-- The bytes begin with the magic number and this version.
pub record HasVersion (bytes : List ℕ) (minor major : ℕ) : Type 0 where
  pub rest : List ℕ
  pub written : bytes ≡ version_text minor major ++ rest
  pub fits : Fits2 minor × Fits2 major

-- 50.0, 51.0 and 52.0 (4.1)
abbrev pub is_read_version : ℕ → ℕ → Bool
is_read_version minor major = minor == 0 && is_within 50 52 major

-- another version than those that are read stands behind the magic number
abbrev pub IsOtherVersion : List ℕ → ℕ → ℕ → Type 0
IsOtherVersion bytes minor major = HasVersion bytes minor major × IsFalse (is_read_version minor major)

-- No tree is spelled.
abbrev pub HasNoTree : List ℕ → Type 0
HasNoTree bytes = (tree : ClassTree) → Spells bytes tree → ⊥

-- Bytes of another version spell no tree.
abbrev pub OtherVersionsHaveNoTree : Type 0
OtherVersionsHaveNoTree = (bytes : List ℕ) (minor major : ℕ) → IsOtherVersion bytes minor major → HasNoTree bytes

-- ---- what reading gives

-- the tree behind a version
unfoldable pub tree_behind : ℕ → List ℕ → Option ClassTree
tree_behind major bytes = do
  parts ← all_read (parts_at bytes)
  tree ← tree_of major parts
  formed ← when (is_well_formed tree)
  Some tree

unfoldable pub tree_at : List ℕ → Option ClassTree
tree_at bytes = do
  version ← version_at bytes
  known ← when (is_read_version version.0.0 version.0.1)
  tree_behind version.0.1 version.1

-- A tree is read of bytes exactly where they spell it.
abbrev pub TreesAreSpelled : Type 0
TreesAreSpelled = (bytes : List ℕ) (tree : ClassTree) → IsBytes bytes → (tree_at bytes ≡ Some tree) ↔ Spells bytes tree

-- A version is read of bytes exactly where they begin with it.
abbrev pub VersionsAreWritten : Type 0
VersionsAreWritten = (bytes : List ℕ) (minor major : ℕ) → IsBytes bytes → ((rest : List ℕ) × (version_at bytes ≡ Some ((minor, major), rest))) ↔ HasVersion bytes minor major

-- The content of a Code attribute is read as these parts exactly where it is their text.
abbrev pub CodesAreSpelled : Type 0
CodesAreSpelled = (content : List ℕ) (code : CodeParts) → IsBytes content → (all_read (code_at content) ≡ Some code) ↔ ((content ≡ code_text code) × FitsCode code)
