-- What the answer of a reading function says of what reading gives: all of it, unless memory ran out.
use Rattle.std.specs.Prelude.{◌≡◌, ℕ, List, Option, Some, None, Result, Ok, Err}
use Rattle.jsa_base.specs.Reading.{Read}
use Rattle.first_form.specs.declared.fault.FormFault.{FormFault}
use Rattle.first_form.specs.declared.fault.FormFault.TheVariants.{NotFirstForm, Memory}

abbrev pub Fails : {A : Type 0} → FormFault → Option A → Type 0
Fails NotFirstForm read = read ≡ None
Fails Memory read = Unit {0}

-- The value and the bytes that are left are what reading gives.
abbrev pub Gives : {A : Type 0} → Result A FormFault → List ℕ → Read A → Type 0
Gives (Ok x) left read = read ≡ Some (x, left)
Gives (Err fault) left read = Fails fault read

-- The value is this one.
abbrev pub Yields : {A : Type 0} → Result A FormFault → Option A → Type 0
Yields (Ok x) value = value ≡ Some x
Yields (Err fault) value = Fails fault value
