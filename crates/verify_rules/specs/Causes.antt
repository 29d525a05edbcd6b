-- An answer or the cause of a fault.
use Rattle.std.specs.Prelude.{◌≡◌, Bool, cond, Result, Ok, Err}
use Rattle.verify_rules.specs.declared.cause.Cause.{Cause}
use Rattle.verify_rules.specs.declared.cause.Stop.{Stop}
use Rattle.verify_rules.specs.declared.cause.Stop.TheVariants.{Fault, Memory}

-- an answer, or why there is none
abbrev pub Typed : Type 0 → Type 0
Typed A = Result A Cause

infixl 10 ◌>>=◌
abbrev pub ◌>>=◌ : {A B : Type 0} → Typed A → (A → Typed B) → Typed B
(Ok x) >>= f = f x
(Err cause) >>= f = Err cause

abbrev pub where_true : {A : Type 0} → Bool → Cause → Typed A → Typed A
where_true test cause next = cond test next (Err cause)

-- ---- what a function did with a value, which asks nothing

abbrev pub Does : {A U : Type 0} → Typed A → Result U Stop → A → Type 0
Does answer (Ok u) new = answer ≡ Ok new
Does answer (Err (Fault cause)) new = answer ≡ Err cause
Does answer (Err Memory) new = Unit {0}

-- what a function gives, seen by view
abbrev pub Gives : {X A : Type 0} → (X → A) → Result X Stop → Typed A → Type 0
Gives view (Ok x) answer = answer ≡ Ok (view x)
Gives view (Err (Fault cause)) answer = answer ≡ Err cause
Gives view (Err Memory) answer = Unit {0}
