-- What reading a class file answers.
use Rattle.std.specs.Prelude.{◌≡◌, ℕ, List, Result, Ok, Err}
use Rattle.class_tree.specs.declared.fault.FormatFault.{FormatFault}
use Rattle.class_tree.specs.declared.fault.FormatFault.TheVariants.{NotClass, Version, Memory}
use Rattle.class_tree.specs.declared.tree.ClassTree.{ClassTree}
use Rattle.class_tree.specs.Spells.{Spells, IsOtherVersion, HasNoTree}

-- no other version than those that are read
abbrev pub HasNoOtherVersion : List ℕ → Type 0
HasNoOtherVersion bytes = (minor major : ℕ) → IsOtherVersion bytes minor major → ⊥

-- A tree comes where the bytes spell it, Version where they begin with another version, and NotClass where they do
-- neither. Memory says nothing.
abbrev pub ClassAnswers : List ℕ → Result ClassTree FormatFault → Type 0
ClassAnswers bytes (Ok tree) = Spells bytes tree
ClassAnswers bytes (Err (Version minor major)) = IsOtherVersion bytes minor major
ClassAnswers bytes (Err NotClass) = HasNoTree bytes × HasNoOtherVersion bytes
ClassAnswers bytes (Err Memory) = Unit {0}

-- The answer is the one that is wanted, unless memory ran out.
abbrev pub IsUnlessMemory : Result ClassTree FormatFault → Result ClassTree FormatFault → Type 0
IsUnlessMemory wanted (Ok tree) = Ok tree ≡ wanted
IsUnlessMemory wanted (Err (Version minor major)) = Err (Version minor major) ≡ wanted
IsUnlessMemory wanted (Err NotClass) = Err NotClass ≡ wanted
IsUnlessMemory wanted (Err Memory) = Unit {0}
