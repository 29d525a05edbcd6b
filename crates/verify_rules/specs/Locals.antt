-- Loads, stores and iinc (JVM Specification SE 8, 4.10.1.7).
use Rattle.std.specs.Prelude.{ℕ, ◌+◌, ◌-◌, Bool, false, cond, List, [], ◌∷◌, length, Option, Some, None, Ok, Err, slice_get, slice_set, nat_lt, nat_eq}
use Rattle.verify_rules.specs.declared.types.VType.{VType}
use Rattle.verify_rules.specs.declared.types.VType.TheVariants.{Top}
use Rattle.verify_rules.specs.declared.types.Frame.{Frame}
use Rattle.verify_rules.specs.Frames.{is_wide}
use Rattle.verify_rules.specs.declared.letter.Letter.{Letter}
use Rattle.verify_rules.specs.declared.letter.Letter.TheVariants.{Int}
use Rattle.verify_rules.specs.declared.cause.Cause.TheVariants.{Written, Operands, Mismatch}
use Rattle.verify_rules.specs.Causes.{Typed}
use Rattle.verify_rules.specs.Letters.{is_of, is_wide_letter, push, over}

-- ---- loads

-- the type of a local goes onto the stack
abbrev pub loaded_type : ℕ → Letter → Option VType → Frame → Typed Frame
loaded_type room letter None f = Err Written
loaded_type room letter (Some t) f = cond (is_of letter t) (over f (push room t f.stack)) (Err Mismatch)

unfoldable pub loaded : ℕ → Letter → ℕ → Frame → Typed Frame
loaded room letter k f = loaded_type room letter (slice_get f.locals k) f

-- ---- stores

abbrev pub is_wide_in : Option VType → Bool
is_wide_in None = false
is_wide_in (Some t) = is_wide t

-- a long or a double that begins right before a local loses its second half there, and is Top
abbrev pub cut_before : List VType → ℕ → List VType
cut_before locals k = cond (nat_eq k 0) locals (cond (is_wide_in (slice_get locals (k - 1))) (slice_set locals (k - 1) Top) locals)

-- a local gets a type; the second slot of a wide one is Top
unfoldable pub set_local : List VType → ℕ → VType → Bool → List VType
set_local locals k t wide = cond wide (slice_set (slice_set (cut_before locals k) k t) (k + 1) Top) (slice_set (cut_before locals k) k t)

-- the last slot
abbrev pub last_of : ℕ → Bool → ℕ
last_of k wide = cond wide (k + 1) k

abbrev pub stored_top : Letter → ℕ → Frame → List VType → Typed Frame
stored_top letter k f [] = Err Operands
stored_top letter k f (t ∷ stack) = cond (is_of letter t) (Ok (record f { locals = set_local f.locals k t (is_wide_letter letter); stack = stack })) (Err Mismatch)

unfoldable pub stored : Letter → ℕ → Frame → Typed Frame
stored letter k f = cond (nat_lt (last_of k (is_wide_letter letter)) (length f.locals)) (stored_top letter k f f.stack) (Err Written)

-- ---- iinc

abbrev pub counted_type : Option VType → Frame → Typed Frame
counted_type None f = Err Written
counted_type (Some t) f = cond (is_of Int t) (Ok f) (Err Mismatch)

unfoldable pub counted : ℕ → Frame → Typed Frame
counted k f = counted_type (slice_get f.locals k) f
