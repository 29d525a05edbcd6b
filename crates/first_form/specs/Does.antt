-- What the machine's code did, against the definition.
use Rattle.std.specs.Prelude.{◌≡◌, ℕ, ℤ, List, [], ◌∷◌, ◌++◌, Option, Some, None}
use Rattle.first_form.specs.declared.machine.Frame.{Frame}
use Rattle.first_form.specs.declared.machine.End.{End}
use Rattle.first_form.specs.declared.machine.Machine.{Machine}
use Rattle.first_form.specs.declared.rows.Did.{Did}
use Rattle.first_form.specs.declared.rows.Did.TheVariants as did
use Rattle.first_form.specs.Machine.{Row, Next, Puts, Returns, NoRow, State, line_of}

-- The row is what was done to the local variables and to the stack.
abbrev pub Does : Row → Did → (locals locals_new : List (Option ℤ)) (stack stack_new : List ℤ) → Type 0
Does r did.Next locals locals_new stack stack_new = r ≡ Next locals_new stack_new
Does r (did.Puts n) locals locals_new stack stack_new = (r ≡ Puts stack_new (line_of n)) × (locals_new ≡ locals)
Does r did.Returns locals locals_new stack stack_new = r ≡ Returns
Does r did.NoRow locals locals_new stack stack_new = (r ≡ NoRow) × (locals_new ≡ locals) × (stack_new ≡ stack)

-- the text of the number that a turn puts, if it puts one
abbrev pub text_of : Option ℤ → List ℕ
text_of None = []
text_of (Some n) = line_of n

-- what was put after it, from what was put before
abbrev pub out_after : List ℕ → Option ℤ → List ℕ
out_after out None = out
out_after out (Some n) = out ++ line_of n

-- the state of a machine, from what it put so far and its end
abbrev pub state_of : Machine → List ℕ → Option End → State
state_of m out end = record { frames = m.frames; class = m.class; out = out; turns = m.turns; end = end }

-- the state of a machine from which the current frame was taken
abbrev pub state_with : Frame → Machine → List ℕ → State
state_with top m out = record { frames = top ∷ m.frames; class = m.class; out = out; turns = m.turns; end = None }
