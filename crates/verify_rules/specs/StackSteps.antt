-- The stack forms one by one, and what their steps do (JVM Specification SE 8, 4.10.1.9).
use Rattle.std.specs.Prelude.{◌≡◌, ℕ, List, ◌++◌, Result, Ok, Err}
use Rattle.verify_rules.specs.declared.types.VType.{VType}
use Rattle.verify_rules.specs.declared.cause.Stop.{Stop}
use Rattle.verify_rules.specs.declared.cause.Stop.TheVariants.{Fault, Memory}
use Rattle.verify_rules.specs.Causes.{Typed, ◌>>=◌}
use Rattle.verify_rules.specs.Letters.{push}
use Rattle.verify_rules.specs.StackForms.{Chunk, one_unit, two_units, put, slipped}

-- These types were taken from the top, and this stack is left below them.
abbrev pub Cuts : {X : Type 0} → (X → List VType) → Typed Chunk → Result X Stop → List VType → Type 0
Cuts view answer (Ok x) left = answer ≡ Ok (record { types = view x; rest = left })
Cuts view answer (Err (Fault cause)) left = answer ≡ Err cause
Cuts view answer (Err Memory) left = Unit {0}

-- a type, and then another on top of it
unfoldable pub push_both : ℕ → VType → VType → List VType → Typed (List VType)
push_both room upper lower stack = push room lower stack >>= λ s. push room upper s

-- types, and then others on top of them
unfoldable pub put_both : ℕ → List VType → List VType → List VType → Typed (List VType)
put_both room upper lower stack = put room lower stack >>= λ s. put room upper s

-- ---- the forms

abbrev pub pop : List VType → Typed (List VType)
pop stack = one_unit stack >>= λ c. Ok c.rest

abbrev pub pop2 : List VType → Typed (List VType)
pop2 stack = two_units stack >>= λ c. Ok c.rest

abbrev pub dup : ℕ → List VType → Typed (List VType)
dup room stack = one_unit stack >>= λ c. put room (c.types ++ c.types) c.rest

abbrev pub dup_x1 : ℕ → List VType → Typed (List VType)
dup_x1 room stack = one_unit stack >>= λ c. one_unit c.rest >>= λ d. slipped room c d

abbrev pub dup_x2 : ℕ → List VType → Typed (List VType)
dup_x2 room stack = one_unit stack >>= λ c. two_units c.rest >>= λ d. slipped room c d

abbrev pub dup2 : ℕ → List VType → Typed (List VType)
dup2 room stack = two_units stack >>= λ c. put room (c.types ++ c.types) c.rest

abbrev pub dup2_x1 : ℕ → List VType → Typed (List VType)
dup2_x1 room stack = two_units stack >>= λ c. one_unit c.rest >>= λ d. slipped room c d

abbrev pub dup2_x2 : ℕ → List VType → Typed (List VType)
dup2_x2 room stack = two_units stack >>= λ c. two_units c.rest >>= λ d. slipped room c d

abbrev pub swap : ℕ → List VType → Typed (List VType)
swap room stack = one_unit stack >>= λ c. one_unit c.rest >>= λ d. put room (d.types ++ c.types) d.rest
