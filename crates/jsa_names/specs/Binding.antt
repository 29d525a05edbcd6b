-- What is read in steps, each of which may find nothing.
use Rattle.std.specs.Prelude.{Option, Some, None}

-- what the second step makes of what the first one found
infixl 10 ◌>>=◌
abbrev pub ◌>>=◌ : {A B : Type 0} → Option A → (A → Option B) → Option B
(Some x) >>= f = f x
None >>= f = None
