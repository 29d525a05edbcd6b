-- The machine that runs main of a class of the first form: the rows of its instructions, its state and its turns.
-- Numbers in parentheses are sections of the JVM Specification SE 8.
use Rattle.std.specs.Prelude.{◌≡◌, ℕ, ℤ, pos, zero, suc, ◌+◌, ◌/◌, ◌%◌, ◌^◌, List, [], ◌∷◌, ◌++◌, length, replicate, Option, Some, None, slice_get, slice_set, nat_lt, if◌then◌else◌}
use Rattle.std.specs.Int.{w8, w16, w32, cast_signed, cast_unsigned, int_wrapping_add, int_wrapping_sub, int_wrapping_mul, int_wrapping_neg, int_shl, int_shr, int_bit_and, int_bit_or, int_bit_xor}
use Rattle.std.specs.Option.{option_flatten}
use Rattle.std.specs.Fmt.{signed_decimal}
use Rattle.first_form.specs.declared.program.Instruction.{Instruction}
use Rattle.first_form.specs.declared.program.Instruction.TheVariants.{Nop, Push, Load, Store, Pop, Dup, Add, Subtract, Multiply, Negate, ShiftLeft, ShiftRight, LogicalShiftRight, And, Or, Xor, Increment, ToByte, ToChar, ToShort, Put, Return}
use Rattle.first_form.specs.declared.program.Program.{Program}
use Rattle.first_form.specs.declared.machine.EntryTurn.{EntryTurn}
use Rattle.first_form.specs.declared.machine.EntryTurn.TheVariants.{First, Second, Third}
use Rattle.first_form.specs.declared.machine.CodeFrame.{CodeFrame}
use Rattle.first_form.specs.declared.machine.Frame.{Frame}
use Rattle.first_form.specs.declared.machine.Frame.TheVariants.{Entry, Initialise, Code}
use Rattle.first_form.specs.declared.machine.ClassState.{ClassState}
use Rattle.first_form.specs.declared.machine.ClassState.TheVariants.{Linked, UnderWay, Initialised}
use Rattle.first_form.specs.declared.machine.End.{End}
use Rattle.first_form.specs.declared.machine.End.TheVariants.{Exit, Stuck}
use Rattle.first_form.specs.declared.machine.Machine.{Machine}

-- A row is what an instruction does with the local variables (2.6.1) and with the operand stack, its top first (2.6.2): it
-- leaves both, it leaves the stack and puts a text, it returns from main, or no row is written for it. A local variable
-- holds an int or, where none was stored in it, nothing.
pub data Row : Type 0 where
  Next : (locals : List (Option ℤ)) (stack : List ℤ) → Row
  Puts : (stack : List ℤ) (text : List ℕ) → Row
  Returns : Row
  NoRow : Row

-- ---- ints (2.3.1, 2.11)

-- the low bits of an int, so many, as a number without a sign
abbrev pub low_bits : ℕ → ℤ → ℕ
low_bits count n = cast_unsigned w32 n % 2 ^ count

-- a shift to the right that brings in zeros
abbrev pub logical_shift_right : ℤ → ℕ → ℤ
logical_shift_right n distance = cast_signed w32 (cast_unsigned w32 n / 2 ^ distance)

-- ---- locals

-- the int in a local variable
abbrev pub int_in : List (Option ℤ) → ℕ → Option ℤ
int_in locals local = option_flatten (slice_get locals local)

abbrev pub pushes : Option ℤ → List (Option ℤ) → List ℤ → Row
pushes (Some n) locals stack = Next locals (n ∷ stack)
pushes None locals stack = NoRow

-- A store names one of the local variables.
abbrev pub stores : ℕ → ℤ → List (Option ℤ) → List ℤ → Row
stores local n locals stack = if nat_lt local (length locals) then Next (slice_set locals local (Some n)) stack else NoRow

abbrev pub increments : Option ℤ → ℕ → ℤ → List (Option ℤ) → List ℤ → Row
increments (Some n) local amount locals stack = Next (slice_set locals local (Some (int_wrapping_add w32 n amount))) stack
increments None local amount locals stack = NoRow

-- ---- the rows (6.5)

-- the text that put writes
abbrev pub line_of : ℤ → List ℕ
line_of n = signed_decimal n ++ 10 ∷ []

-- An instruction that lacks an operand or its local has no row.
unfoldable pub row : Instruction → List (Option ℤ) → List ℤ → Row
row Nop locals stack = Next locals stack
row (Push n) locals stack = Next locals (n ∷ stack)
row (Load local) locals stack = pushes (int_in locals local) locals stack
row (Store local) locals (n ∷ stack) = stores local n locals stack
row Pop locals (n ∷ stack) = Next locals stack
row Dup locals (n ∷ stack) = Next locals (n ∷ n ∷ stack)
row Add locals (b ∷ a ∷ stack) = Next locals (int_wrapping_add w32 a b ∷ stack)
row Subtract locals (b ∷ a ∷ stack) = Next locals (int_wrapping_sub w32 a b ∷ stack)
row Multiply locals (b ∷ a ∷ stack) = Next locals (int_wrapping_mul w32 a b ∷ stack)
row Negate locals (a ∷ stack) = Next locals (int_wrapping_neg w32 a ∷ stack)
row ShiftLeft locals (b ∷ a ∷ stack) = Next locals (int_shl w32 a (low_bits 5 b) ∷ stack)
row ShiftRight locals (b ∷ a ∷ stack) = Next locals (int_shr a (low_bits 5 b) ∷ stack)
row LogicalShiftRight locals (b ∷ a ∷ stack) = Next locals (logical_shift_right a (low_bits 5 b) ∷ stack)
row And locals (b ∷ a ∷ stack) = Next locals (int_bit_and w32 a b ∷ stack)
row Or locals (b ∷ a ∷ stack) = Next locals (int_bit_or w32 a b ∷ stack)
row Xor locals (b ∷ a ∷ stack) = Next locals (int_bit_xor w32 a b ∷ stack)
row (Increment local amount) locals stack = increments (int_in locals local) local amount locals stack
row ToByte locals (n ∷ stack) = Next locals (cast_signed w8 (low_bits 8 n) ∷ stack)
row ToChar locals (n ∷ stack) = Next locals (pos (low_bits 16 n) ∷ stack)
row ToShort locals (n ∷ stack) = Next locals (cast_signed w16 (low_bits 16 n) ∷ stack)
row Put locals (n ∷ stack) = Puts stack (line_of n)
row Return locals stack = Returns
row instruction locals stack = NoRow

-- A place outside of the code has no row.
abbrev pub row_at : Option Instruction → List (Option ℤ) → List ℤ → Row
row_at (Some instruction) locals stack = row instruction locals stack
row_at None locals stack = NoRow

-- A state of the run: the frames with the current one first (2.6), the state of the main class (5.5), what was put so far,
-- the number of turns, and the end.
pub record State : Type 0 where
  pub frames : List Frame
  pub class : ClassState
  pub out : List ℕ
  pub turns : ℕ
  pub end : Option End

abbrev pub start : State
start = record { frames = Entry First ∷ []; class = Linked; out = []; turns = 0; end = None }

-- A state for which no row is written ends, and all else stays.
abbrev pub stuck : State → State
stuck s = record s { end = Some Stuck }

-- the frame of a call of main: its first instruction, so many local variables with no int in them, and an empty stack (2.6)
abbrev pub frame_of : ℕ → CodeFrame
frame_of max_locals = record { place = 0; locals = replicate max_locals None; stack = [] }

-- The entry frame's first turn begins the initialisation of the main class (5.5), its second calls main (5.2), and its
-- third ends the run.
abbrev pub entry_turn : ℕ → State → EntryTurn → List Frame → State
entry_turn max_locals s First below = record s { frames = Initialise ∷ Entry Second ∷ below; class = UnderWay }
entry_turn max_locals s Second below = record s { frames = Code (frame_of max_locals) ∷ Entry Third ∷ below }
entry_turn max_locals s Third below = record s { end = Some Exit }

-- The main class has no initialiser, and its superclass counts as initialised, so its initialisation ends in one turn (5.5).
abbrev pub initialisation_turn : State → List Frame → State
initialisation_turn s below = record s { frames = below; class = Initialised }

-- A code frame's turn does the row of the instruction at its place, and goes on behind it (2.11).
abbrev pub code_turn : State → CodeFrame → List Frame → Row → State
code_turn s f below (Next locals stack) = record s { frames = Code (record { place = f.place + 1; locals = locals; stack = stack }) ∷ below }
code_turn s f below (Puts stack text) = record s { frames = Code (record { place = f.place + 1; locals = f.locals; stack = stack }) ∷ below; out = s.out ++ text }
code_turn s f below Returns = record s { frames = below }
code_turn s f below NoRow = stuck s

-- A turn goes by the current frame.
abbrev pub turn_of : Program → State → List Frame → State
turn_of program s [] = stuck s
turn_of program s (Entry turn ∷ below) = entry_turn program.max_locals s turn below
turn_of program s (Initialise ∷ below) = initialisation_turn s below
turn_of program s (Code f ∷ below) = code_turn s f below (row_at (slice_get program.instructions f.place) f.locals f.stack)

-- Each turn counts.
abbrev pub counted : State → State
counted s = record s { turns = s.turns + 1 }

-- An ended state stays.
abbrev pub unless_ended : Option End → State → State → State
unless_ended None s next = next
unless_ended (Some end) s next = s

abbrev pub turn : Program → State → State
turn program s = unless_ended s.end s (counted (turn_of program s s.frames))

-- the state after so many turns
unfoldable pub state_after : Program → ℕ → State → State
state_after program zero s = s
state_after program (suc n) s = turn program (state_after program n s)

-- The machine is before its first turn.
pub record IsNew (m : Machine) : Type 0 where
  pub frames : m.frames ≡ Entry First ∷ []
  pub class : m.class ≡ Linked
  pub turns : m.turns ≡ 0

-- The machine and the end that was told are those of a state.
pub record IsAt (s : State) (m : Machine) (told : Option End) : Type 0 where
  pub frames : m.frames ≡ s.frames
  pub class : m.class ≡ s.class
  pub turns : m.turns ≡ s.turns
  pub end : told ≡ s.end
