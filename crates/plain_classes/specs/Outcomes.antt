-- What the answers of the reading functions say.
use Rattle.std.specs.Prelude.{◌≡◌, ℕ, Bool, true, false, List, Option, Some, None, Result, Ok, Err}
use Rattle.jsa_base.specs.Reading.{Read}
use Rattle.plain_classes.specs.declared.reading.Unread.{Unread}
use Rattle.plain_classes.specs.declared.reading.Unread.TheVariants.{NotClasses, Memory}

-- NotClasses comes exactly where nothing is read, and Memory says nothing.
abbrev pub Fails : {A : Type 0} → Unread → Option A → Type 0
Fails NotClasses read = read ≡ None
Fails Memory read = Unit {0}

-- The value and the bytes that are left are what reading gives.
abbrev pub Gives : {A : Type 0} → Result A Unread → List ℕ → Read A → Type 0
Gives (Ok x) left read = read ≡ Some (x, left)
Gives (Err fault) left read = Fails fault read

-- The value is this one.
abbrev pub Yields : {A : Type 0} → Result A Unread → Option A → Type 0
Yields (Ok x) value = value ≡ Some x
Yields (Err fault) value = Fails fault value

-- The test is true where the statement holds, and false where it doesn't.
abbrev pub Tells : Bool → Type 0 → Type 0
Tells true P = P
Tells false P = P → ⊥
