-- What the answers of the reading functions say.
use Rattle.std.specs.Prelude.{◌≡◌, ℕ, List, Option, Some, None, Result, Ok, Err}
use Rattle.jsa_base.specs.Reading.{Read}
use Rattle.verify_rules.specs.declared.fault.VerifyFault.{VerifyFault}
use Rattle.verify_rules.specs.declared.fault.VerifyFault.TheVariants.{Bad, Memory}

-- Bad comes exactly where nothing is read, and Memory says nothing.
abbrev pub Fails : {A : Type 0} → VerifyFault → Option A → Type 0
Fails Bad read = read ≡ None
Fails Memory read = Unit {0}

-- The value and the bytes that are left are what reading gives.
abbrev pub Gives : {A : Type 0} → Result A VerifyFault → List ℕ → Read A → Type 0
Gives (Ok x) left read = read ≡ Some (x, left)
Gives (Err fault) left read = Fails fault read
