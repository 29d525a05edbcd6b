-- An answer on questions: which are asked in their order, until it is given or refused.
use Rattle.std.specs.Prelude.{◌≡◌, ℕ, Bool, cond, List, [], ◌∷◌, ◌++◌, Result, Ok, Err}
use Rattle.verify_rules.specs.declared.ask.Ask.{Ask}
use Rattle.verify_rules.specs.declared.cause.Cause.{Cause}
use Rattle.verify_rules.specs.declared.cause.Stop.{Stop}
use Rattle.verify_rules.specs.declared.cause.Stop.TheVariants.{Fault, Memory}
use Rattle.verify_rules.specs.Causes.{Typed}

-- The questions asked, and the answer that stands if they hold, or the cause for which it was refused after them.
pub record Asking (A : Type 0) : Type 0 where
  pub asks : List Ask
  pub value : Typed A

abbrev pub gives : {A : Type 0} → A → Asking A
gives x = record { asks = []; value = Ok x }

abbrev pub refused : {A : Type 0} → Cause → Asking A
refused cause = record { asks = []; value = Err cause }

-- an answer that asks nothing
abbrev pub silent : {A : Type 0} → Typed A → Asking A
silent value = record { asks = []; value = value }

-- what follows an answer; after a refusal nothing is asked
abbrev pub follows : {A B : Type 0} → List Ask → Typed A → (A → Asking B) → Asking B
follows asks (Err cause) f = record { asks = asks; value = Err cause }
follows asks (Ok x) f = record { asks = asks ++ (f x).asks; value = (f x).value }

infixl 10 ◌>>=◌
abbrev pub ◌>>=◌ : {A B : Type 0} → Asking A → (A → Asking B) → Asking B
a >>= f = follows a.asks a.value f

-- a test that asks at most
abbrev pub Check : Type 0
Check = Asking (Unit {0})

abbrev pub fine : Check
fine = gives tt

abbrev pub and_then : {B : Type 0} → Check → Asking B → Asking B
and_then a b = a >>= λ u. b

abbrev pub test : Cause → Bool → Check
test cause holds = cond holds fine (refused cause)

-- one question: whether a class is assignable to another
abbrev pub asks_for : List ℕ → List ℕ → Check
asks_for from to = record { asks = record { from = from; to = to } ∷ []; value = Ok tt }

-- each in order, up to the first refusal
unfoldable pub each : {X : Type 0} → (X → Check) → List X → Check
each check [] = fine
each check (x ∷ xs) = and_then (check x) (each check xs)

-- ---- what a function did that appends its questions

-- The questions were appended, and the value is this one, or it was refused for the cause.
abbrev pub Did : {A U : Type 0} → Asking A → List Ask → List Ask → Result U Stop → A → Type 0
Did a old new (Ok u) x = (new ≡ old ++ a.asks) × (a.value ≡ Ok x)
Did a old new (Err (Fault cause)) x = (new ≡ old ++ a.asks) × (a.value ≡ Err cause)
Did a old new (Err Memory) x = Unit {0}

-- a test was done
abbrev pub Checked : {U : Type 0} → Check → List Ask → List Ask → Result U Stop → Type 0
Checked check old new result = Did check old new result tt
