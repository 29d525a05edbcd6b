-- pop, dup and swap forms (JVM Specification SE 8, 4.10.1.9). They move whole types: a long or a double is never split.
use Rattle.std.specs.Prelude.{ℕ, ◌+◌, Bool, not, ◌&&◌, cond, List, [], ◌∷◌, ◌++◌, Ok, Err, nat_le, nat_eq, ◌==◌, if◌then◌else◌}
use Rattle.verify_rules.specs.declared.types.VType.{VType}
use Rattle.verify_rules.specs.Types.{size, units, is_top}
use Rattle.verify_rules.specs.declared.cause.Cause.TheVariants.{Written, Operands, Room}
use Rattle.verify_rules.specs.Causes.{Typed, ◌>>=◌}

-- types from the top, the top first, and the stack below them
pub record Chunk : Type 0 where
  pub types : List VType
  pub rest : List VType

-- a type of one unit that holds something: Top is none
abbrev pub is_one : VType → Bool
is_one t = nat_eq (size t) 1 && not (is_top t)

-- one unit: a type of one unit
abbrev pub one_unit : List VType → Typed Chunk
one_unit [] = Err Operands
one_unit (t ∷ stack) = cond (is_one t) (Ok (record { types = t ∷ []; rest = stack })) (Err Operands)

-- what stands above a chunk
abbrev pub above : VType → Chunk → Chunk
above t c = record { types = t ∷ c.types; rest = c.rest }

-- two units: a type of two, or two of one
abbrev pub two_units : List VType → Typed Chunk
two_units [] = Err Operands
two_units (t ∷ stack) = cond (is_one t) (one_unit stack >>= λ c. Ok (above t c)) (cond (nat_eq (size t) 2) (Ok (record { types = t ∷ []; rest = stack })) (Err Operands))

-- types on top, where they have room
abbrev pub put : ℕ → List VType → List VType → Typed (List VType)
put room types stack = cond (nat_le (units types + units stack) room) (Ok (types ++ stack)) (Err Room)

-- the upper chunk once more below the lower one
abbrev pub slipped : ℕ → Chunk → Chunk → Typed (List VType)
slipped room upper lower = put room (upper.types ++ (lower.types ++ upper.types)) lower.rest

unfoldable pub stack_form : ℕ → ℕ → List VType → Typed (List VType)
stack_form room op stack =
    -- pop, pop2
    if op == 0x57 then (one_unit stack >>= λ c. Ok c.rest)
    else if op == 0x58 then (two_units stack >>= λ c. Ok c.rest)
    -- dup, dup_x1, dup_x2
    else if op == 0x59 then (one_unit stack >>= λ c. put room (c.types ++ c.types) c.rest)
    else if op == 0x5a then (one_unit stack >>= λ c. one_unit c.rest >>= λ d. slipped room c d)
    else if op == 0x5b then (one_unit stack >>= λ c. two_units c.rest >>= λ d. slipped room c d)
    -- dup2, dup2_x1, dup2_x2
    else if op == 0x5c then (two_units stack >>= λ c. put room (c.types ++ c.types) c.rest)
    else if op == 0x5d then (two_units stack >>= λ c. one_unit c.rest >>= λ d. slipped room c d)
    else if op == 0x5e then (two_units stack >>= λ c. two_units c.rest >>= λ d. slipped room c d)
    -- swap
    else if op == 0x5f then (one_unit stack >>= λ c. one_unit c.rest >>= λ d. put room (d.types ++ c.types) d.rest)
    else Err Written
