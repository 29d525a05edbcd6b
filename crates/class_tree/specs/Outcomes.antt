-- What the answers of the reading functions say.
use Rattle.std.specs.Prelude.{◌≡◌, ℕ, List, Option, Some, None, Result, Ok, Err}
use Rattle.jsa_base.specs.Reading.{Read}
use Rattle.class_tree.specs.declared.fault.FormatFault.{FormatFault}
use Rattle.class_tree.specs.declared.fault.FormatFault.TheVariants.{NotClass, Version, Memory}

-- NotClass comes exactly where nothing is read, Version never, and Memory says nothing.
abbrev pub Fails : {A : Type 0} → FormatFault → Option A → Type 0
Fails NotClass read = read ≡ None
Fails (Version minor major) read = ⊥
Fails Memory read = Unit {0}

-- The value and the bytes that are left are what reading gives.
abbrev pub Gives : {A : Type 0} → Result A FormatFault → List ℕ → Read A → Type 0
Gives (Ok x) left read = read ≡ Some (x, left)
Gives (Err fault) left read = Fails fault read

-- A version is never answered.
abbrev pub NoVersion : {A : Type 0} → Result A FormatFault → Type 0
NoVersion (Ok x) = Unit {0}
NoVersion (Err NotClass) = Unit {0}
NoVersion (Err (Version minor major)) = ⊥
NoVersion (Err Memory) = Unit {0}
