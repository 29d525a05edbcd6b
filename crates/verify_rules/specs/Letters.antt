-- Types by the letters of instructions: i, l, f, d and a (JVM Specification SE 8, 6.5); and rows that move such types alone.
use Rattle.std.specs.Prelude.{ℕ, ◌+◌, ◌%◌, Bool, true, false, cond, List, [], ◌∷◌, Option, Some, None, Ok, Err, nat_le, ◌==◌, if◌then◌else◌}
use Rattle.verify_rules.specs.declared.types.VType.{VType}
use Rattle.verify_rules.specs.declared.types.VType.TheVariants as types
use Rattle.verify_rules.specs.declared.types.Frame.{Frame}
use Rattle.verify_rules.specs.Types.{size, units}
use Rattle.verify_rules.specs.declared.letter.Letter.{Letter}
use Rattle.verify_rules.specs.declared.letter.Letter.TheVariants.{Int, Long, Float, Double, Reference}
use Rattle.verify_rules.specs.declared.effect.Effect.{Effect}
use Rattle.verify_rules.specs.declared.cause.Cause.TheVariants.{Operands, Mismatch, Room}
use Rattle.verify_rules.specs.Causes.{Typed, ◌>>=◌}
use Rattle.verify_rules.specs.Assign.{is_integer, is_float, is_double, is_long}

-- null, an object or an array, with or without its constructor
abbrev pub is_reference : VType → Bool
is_reference types.Top = false
is_reference types.Integer = false
is_reference types.Float = false
is_reference types.Double = false
is_reference types.Long = false
is_reference types.Null = true
is_reference types.UninitializedThis = true
is_reference (types.Object name) = true
is_reference (types.Uninitialized place) = true

-- null, an object or an array, which has its constructor behind it
abbrev pub is_object_type : VType → Bool
is_object_type types.Top = false
is_object_type types.Integer = false
is_object_type types.Float = false
is_object_type types.Double = false
is_object_type types.Long = false
is_object_type types.Null = true
is_object_type types.UninitializedThis = false
is_object_type (types.Object name) = true
is_object_type (types.Uninitialized place) = false

abbrev pub is_of : Letter → VType → Bool
is_of Int t = is_integer t
is_of Long t = is_long t
is_of Float t = is_float t
is_of Double t = is_double t
is_of Reference t = is_reference t

-- the order of the letters in runs of opcodes: i, l, f, d, a
abbrev pub letter_of : ℕ → Letter
letter_of k = if k == 0 then Int else if k == 1 then Long else if k == 2 then Float else if k == 3 then Double else Reference

-- a long or a double: two units
abbrev pub is_wide_letter : Letter → Bool
is_wide_letter Int = false
is_wide_letter Long = true
is_wide_letter Float = false
is_wide_letter Double = true
is_wide_letter Reference = false

-- what a constant or a result of the letter is; null stands for a reference
abbrev pub type_of_letter : Letter → VType
type_of_letter Int = types.Integer
type_of_letter Long = types.Long
type_of_letter Float = types.Float
type_of_letter Double = types.Double
type_of_letter Reference = types.Null

-- ---- the stack, its top first

-- takes an item that passes a test
abbrev pub pop_where : (VType → Bool) → List VType → Typed (List VType)
pop_where test [] = Err Operands
pop_where test (t ∷ stack) = cond (test t) (Ok stack) (Err Mismatch)

abbrev pub pop_letter : Letter → List VType → Typed (List VType)
pop_letter letter stack = pop_where (is_of letter) stack

abbrev pub pop_if : Option Letter → List VType → Typed (List VType)
pop_if None stack = Ok stack
pop_if (Some letter) stack = pop_letter letter stack

-- puts a type on top, where it has room
abbrev pub push : ℕ → VType → List VType → Typed (List VType)
push room t stack = cond (nat_le (units stack + size t) room) (Ok (t ∷ stack)) (Err Room)

abbrev pub push_if : ℕ → Option Letter → List VType → Typed (List VType)
push_if room None stack = Ok stack
push_if room (Some letter) stack = push room (type_of_letter letter) stack

-- the same locals over another stack
abbrev pub over : Frame → Typed (List VType) → Typed Frame
over f stack = stack >>= λ s. Ok (record f { stack = s })

-- ---- instructions that take and put types of fixed letters

-- what is taken from the top, what from below it, and what is put
abbrev pub effect : Option Letter → Option Letter → Option Letter → Effect
effect top below puts = record { top = top; below = below; puts = puts }

unfoldable pub moved : ℕ → Effect → List VType → Typed (List VType)
moved room e stack = pop_if e.top stack >>= λ s. pop_if e.below s >>= λ rest. push_if room e.puts rest

abbrev pub binary : Letter → Effect
binary letter = effect (Some letter) (Some letter) (Some letter)

abbrev pub unary : Letter → Letter → Effect
unary from to = effect (Some from) None (Some to)

-- i2l, i2f, i2d, l2i, l2f, l2d, f2i, f2l, f2d, d2i, d2l, d2f, i2b, i2c, i2s
unfoldable pub conversion : ℕ → Effect
conversion op =
    if op == 0x85 then unary Int Long
    else if op == 0x86 then unary Int Float
    else if op == 0x87 then unary Int Double
    else if op == 0x88 then unary Long Int
    else if op == 0x89 then unary Long Float
    else if op == 0x8a then unary Long Double
    else if op == 0x8b then unary Float Int
    else if op == 0x8c then unary Float Long
    else if op == 0x8d then unary Float Double
    else if op == 0x8e then unary Double Int
    else if op == 0x8f then unary Double Long
    else if op == 0x90 then unary Double Float
    else unary Int Int

-- nop, constants, arithmetic, conversions and comparisons; others are none. Each line has the last opcode of its run.
unfoldable pub effect_of : ℕ → Option Effect
effect_of op =
    -- nop
    if nat_le op 0x00 then Some (effect None None None)
    -- aconst_null
    else if nat_le op 0x01 then Some (effect None None (Some Reference))
    -- iconst_m1 to iconst_5; lconst_0 and 1; fconst_0 to 2; dconst_0 and 1
    else if nat_le op 0x08 then Some (effect None None (Some Int))
    else if nat_le op 0x0a then Some (effect None None (Some Long))
    else if nat_le op 0x0d then Some (effect None None (Some Float))
    else if nat_le op 0x0f then Some (effect None None (Some Double))
    -- loads, stores and stack forms
    else if nat_le op 0x5f then None
    -- add, sub, mul, div, rem of i, l, f, d
    else if nat_le op 0x73 then Some (binary (letter_of (op % 4)))
    -- neg of i, l, f, d
    else if nat_le op 0x77 then Some (unary (letter_of (op % 4)) (letter_of (op % 4)))
    -- shl, shr, ushr of i, l: the distance is an int
    else if nat_le op 0x7d then Some (effect (Some Int) (Some (letter_of (op % 2))) (Some (letter_of (op % 2))))
    -- and, or, xor of i, l
    else if nat_le op 0x83 then Some (binary (letter_of (op % 2)))
    -- iinc
    else if nat_le op 0x84 then None
    else if nat_le op 0x93 then Some (conversion op)
    -- lcmp; fcmpl, fcmpg; dcmpl, dcmpg
    else if nat_le op 0x94 then Some (effect (Some Long) (Some Long) (Some Int))
    else if nat_le op 0x96 then Some (effect (Some Float) (Some Float) (Some Int))
    else if nat_le op 0x98 then Some (effect (Some Double) (Some Double) (Some Int))
    else None
