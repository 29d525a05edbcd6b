-- Rows that aren't written.
use Rattle.std.proofs.Common.{◌≡◌, ℕ, ℤ, List, [], ◌∷◌, length, ◌<◌, ◌≤◌, Option, refl, arith}
use Rattle.first_form.specs.declared.program.Instruction.TheVariants.{Store, Add, Subtract, Multiply, ShiftLeft, ShiftRight, LogicalShiftRight, And, Or, Xor}
use Rattle.first_form.specs.Machine.{NoRow, row}

pub no_add : (locals : List (Option ℤ)) (stack : List ℤ) → length stack < 2 → row Add locals stack ≡ NoRow
unfolding row
no_add locals [] h = refl
no_add locals (b ∷ []) h = refl
no_add locals (b ∷ a ∷ stack) h = absurd (omega arith)

pub no_subtract : (locals : List (Option ℤ)) (stack : List ℤ) → length stack < 2 → row Subtract locals stack ≡ NoRow
unfolding row
no_subtract locals [] h = refl
no_subtract locals (b ∷ []) h = refl
no_subtract locals (b ∷ a ∷ stack) h = absurd (omega arith)

pub no_multiply : (locals : List (Option ℤ)) (stack : List ℤ) → length stack < 2 → row Multiply locals stack ≡ NoRow
unfolding row
no_multiply locals [] h = refl
no_multiply locals (b ∷ []) h = refl
no_multiply locals (b ∷ a ∷ stack) h = absurd (omega arith)

pub no_shift_left : (locals : List (Option ℤ)) (stack : List ℤ) → length stack < 2 → row ShiftLeft locals stack ≡ NoRow
unfolding row
no_shift_left locals [] h = refl
no_shift_left locals (b ∷ []) h = refl
no_shift_left locals (b ∷ a ∷ stack) h = absurd (omega arith)

pub no_shift_right : (locals : List (Option ℤ)) (stack : List ℤ) → length stack < 2 → row ShiftRight locals stack ≡ NoRow
unfolding row
no_shift_right locals [] h = refl
no_shift_right locals (b ∷ []) h = refl
no_shift_right locals (b ∷ a ∷ stack) h = absurd (omega arith)

pub no_logical_shift_right : (locals : List (Option ℤ)) (stack : List ℤ) → length stack < 2 → row LogicalShiftRight locals stack ≡ NoRow
unfolding row
no_logical_shift_right locals [] h = refl
no_logical_shift_right locals (b ∷ []) h = refl
no_logical_shift_right locals (b ∷ a ∷ stack) h = absurd (omega arith)

pub no_and : (locals : List (Option ℤ)) (stack : List ℤ) → length stack < 2 → row And locals stack ≡ NoRow
unfolding row
no_and locals [] h = refl
no_and locals (b ∷ []) h = refl
no_and locals (b ∷ a ∷ stack) h = absurd (omega arith)

pub no_or : (locals : List (Option ℤ)) (stack : List ℤ) → length stack < 2 → row Or locals stack ≡ NoRow
unfolding row
no_or locals [] h = refl
no_or locals (b ∷ []) h = refl
no_or locals (b ∷ a ∷ stack) h = absurd (omega arith)

pub no_xor : (locals : List (Option ℤ)) (stack : List ℤ) → length stack < 2 → row Xor locals stack ≡ NoRow
unfolding row
no_xor locals [] h = refl
no_xor locals (b ∷ []) h = refl
no_xor locals (b ∷ a ∷ stack) h = absurd (omega arith)

-- no local variable of that index
pub no_local : (local : ℕ) (locals : List (Option ℤ)) (stack : List ℤ) → length locals ≤ local → row (Store local) locals stack ≡ NoRow
unfolding row
no_local local locals [] h = refl
no_local local locals (n ∷ stack) h = grind arith
