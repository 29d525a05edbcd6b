-- A program that fits exits, and so it never meets a state without a row.
use Rattle.std.proofs.Common.{◌≡◌, ◌≢◌, ℕ, ℤ, zero, suc, ◌+◌, ◌≤◌, Bool, true, false, is_some, List, [], ◌∷◌, length, drop, Option, Some, None, refl, sym, ap, ◌∙◌, arith}
use Rattle.std.specs.Prelude.{◌&&◌, ◌==◌, if◌then◌else◌, nat_le, nat_lt, replicate, slice_get, slice_set}
use Rattle.std.proofs.lemmas.Bool.{eqb-true, and_parts}
use Rattle.first_form.specs.declared.program.Instruction.{Instruction}
use Rattle.first_form.specs.declared.program.Instruction.TheVariants.{Nop, Push, Load, Store, Pop, Dup, Add, Subtract, Multiply, Negate, ShiftLeft, ShiftRight, LogicalShiftRight, And, Or, Xor, Increment, ToByte, ToChar, ToShort, Put, Return}
use Rattle.first_form.specs.declared.program.Program.{Program}
use Rattle.first_form.specs.Program.{moves, is_stored, finds_local, stored_after, depth_after, finds_room, is_return, fits, is_tested}
use Rattle.first_form.specs.declared.machine.EntryTurn.TheVariants.{Third}
use Rattle.first_form.specs.declared.machine.CodeFrame.{CodeFrame}
use Rattle.first_form.specs.declared.machine.Frame.{Frame}
use Rattle.first_form.specs.declared.machine.Frame.TheVariants.{Entry, Code}
use Rattle.first_form.specs.declared.machine.End.{End}
use Rattle.first_form.specs.declared.machine.End.TheVariants.{Exit, Stuck}
use Rattle.first_form.specs.Machine.{Row, Next, Puts, Returns, NoRow, int_in, pushes, increments, row, row_at, State, code_turn, turn_of, turn, counted, unless_ended, state_after, start}
use Rattle.first_form.proofs.Runs.{ended_at}

no : false ≡ true → ⊥
no h = cc

-- ---- the locals in which an int was stored

-- whether each local variable holds an int
abbrev stored_in : List (Option ℤ) → List Bool
stored_in [] = []
stored_in (int ∷ locals) = is_some int ∷ stored_in locals

stored_at : (locals : List (Option ℤ)) (local : ℕ) → is_stored (stored_in locals) local ≡ is_some (int_in locals local)
stored_at [] local = refl
stored_at (int ∷ locals) zero = refl
stored_at (int ∷ locals) (suc local) = stored_at locals local

stored_length : (locals : List (Option ℤ)) → length (stored_in locals) ≡ length locals
stored_length [] = refl
stored_length (int ∷ locals) = ap suc (stored_length locals)

stored_new : (n : ℕ) → stored_in (replicate n None) ≡ replicate n false
stored_new zero = refl
stored_new (suc n) = ap (λ (stored : List Bool). false ∷ stored) (stored_new n)

stored_set : (locals : List (Option ℤ)) (local : ℕ) (n : ℤ) → stored_in (slice_set locals local (Some n)) ≡ slice_set (stored_in locals) local true
stored_set [] local n = refl
stored_set (int ∷ locals) zero n = refl
stored_set (int ∷ locals) (suc local) n = ap (λ (stored : List Bool). is_some int ∷ stored) (stored_set locals local n)

stored_stays : (locals : List (Option ℤ)) (local : ℕ) (n : ℤ) → is_some (int_in locals local) ≡ true → stored_in (slice_set locals local (Some n)) ≡ stored_in locals
stored_stays [] local n h = refl
stored_stays (int ∷ locals) zero n h = ap (λ (b : Bool). b ∷ stored_in locals) (sym h)
stored_stays (int ∷ locals) (suc local) n h = ap (λ (stored : List Bool). is_some int ∷ stored) (stored_stays locals local n h)

-- ---- each instruction has a row

-- The row leaves so many numbers on the stack and ints in these locals, or it returns.
abbrev Goes : Bool → ℕ → List Bool → List (Option ℤ) → Row → Type 0
Goes returns depth stored locals (Next left stack) = (returns ≡ false) × (length stack ≡ depth) × (stored_in left ≡ stored)
Goes returns depth stored locals (Puts stack text) = (returns ≡ false) × (length stack ≡ depth) × (stored_in locals ≡ stored)
Goes returns depth stored locals Returns = returns ≡ true
Goes returns depth stored locals NoRow = ⊥

load_goes : (depth : ℕ) (o : Option ℤ) (locals : List (Option ℤ)) (stack : List ℤ) → is_some o ≡ true → suc (length stack) ≡ depth → Goes false depth (stored_in locals) locals (pushes o locals stack)
load_goes depth None locals stack h d = absurd cc
load_goes depth (Some n) locals stack h d = (refl, d, refl)

store_goes : (within : Bool) (local : ℕ) (n : ℤ) (depth : ℕ) (locals : List (Option ℤ)) (stack : List ℤ) → within ≡ true → length stack ≡ depth
    → Goes false depth (slice_set (stored_in locals) local true) locals (if within then Next (slice_set locals local (Some n)) stack else NoRow)
store_goes false local n depth locals stack h d = absurd cc
store_goes true local n depth locals stack h d = (refl, d, stored_set locals local n)

increment_goes : (o : Option ℤ) (local : ℕ) (amount : ℤ) (depth : ℕ) (locals : List (Option ℤ)) (stack : List ℤ) → o ≡ int_in locals local → is_some o ≡ true → length stack ≡ depth
    → Goes false depth (stored_in locals) locals (increments o local amount locals stack)
increment_goes None local amount depth locals stack is h d = absurd cc
increment_goes (Some n) local amount depth locals stack is h d = (refl, d, stored_stays locals local _ (ap is_some (sym is)))

-- what an instruction needs that doesn't return
abbrev Needs : Instruction → List (Option ℤ) → List ℤ → Type 0
Needs i locals stack = is_return i ≡ false → (nat_le (moves i).0 (length stack) ≡ true) × (finds_local (stored_in locals) i ≡ true)

has_row : (i : Instruction) (locals : List (Option ℤ)) (stack : List ℤ) → Needs i locals stack
    → Goes (is_return i) (depth_after (length stack) i) (stored_after (stored_in locals) i) locals (row i locals stack)
unfolding row moves finds_local stored_after
has_row Nop locals stack needs = (refl, omega arith, refl)
has_row (Push n) locals stack needs = (refl, omega arith, refl)
has_row (Load local) locals stack needs = load_goes _ (int_in locals local) locals stack (sym (stored_at locals local) ∙ (needs refl).1) (omega arith)
has_row (Store local) locals [] needs = absurd (no (needs refl).0)
has_row (Store local) locals (n ∷ stack) needs = store_goes (nat_lt local (length locals)) local n _ locals stack (ap (λ (k : ℕ). nat_lt local k) (sym (stored_length locals)) ∙ (needs refl).1) (omega arith)
has_row Pop locals [] needs = absurd (no (needs refl).0)
has_row Pop locals (n ∷ stack) needs = (refl, omega arith, refl)
has_row Dup locals [] needs = absurd (no (needs refl).0)
has_row Dup locals (n ∷ stack) needs = (refl, omega arith, refl)
has_row Add locals [] needs = absurd (no (needs refl).0)
has_row Add locals (b ∷ []) needs = absurd (no (needs refl).0)
has_row Add locals (b ∷ a ∷ stack) needs = (refl, omega arith, refl)
has_row Subtract locals [] needs = absurd (no (needs refl).0)
has_row Subtract locals (b ∷ []) needs = absurd (no (needs refl).0)
has_row Subtract locals (b ∷ a ∷ stack) needs = (refl, omega arith, refl)
has_row Multiply locals [] needs = absurd (no (needs refl).0)
has_row Multiply locals (b ∷ []) needs = absurd (no (needs refl).0)
has_row Multiply locals (b ∷ a ∷ stack) needs = (refl, omega arith, refl)
has_row ShiftLeft locals [] needs = absurd (no (needs refl).0)
has_row ShiftLeft locals (b ∷ []) needs = absurd (no (needs refl).0)
has_row ShiftLeft locals (b ∷ a ∷ stack) needs = (refl, omega arith, refl)
has_row ShiftRight locals [] needs = absurd (no (needs refl).0)
has_row ShiftRight locals (b ∷ []) needs = absurd (no (needs refl).0)
has_row ShiftRight locals (b ∷ a ∷ stack) needs = (refl, omega arith, refl)
has_row LogicalShiftRight locals [] needs = absurd (no (needs refl).0)
has_row LogicalShiftRight locals (b ∷ []) needs = absurd (no (needs refl).0)
has_row LogicalShiftRight locals (b ∷ a ∷ stack) needs = (refl, omega arith, refl)
has_row And locals [] needs = absurd (no (needs refl).0)
has_row And locals (b ∷ []) needs = absurd (no (needs refl).0)
has_row And locals (b ∷ a ∷ stack) needs = (refl, omega arith, refl)
has_row Or locals [] needs = absurd (no (needs refl).0)
has_row Or locals (b ∷ []) needs = absurd (no (needs refl).0)
has_row Or locals (b ∷ a ∷ stack) needs = (refl, omega arith, refl)
has_row Xor locals [] needs = absurd (no (needs refl).0)
has_row Xor locals (b ∷ []) needs = absurd (no (needs refl).0)
has_row Xor locals (b ∷ a ∷ stack) needs = (refl, omega arith, refl)
has_row Negate locals [] needs = absurd (no (needs refl).0)
has_row Negate locals (n ∷ stack) needs = (refl, omega arith, refl)
has_row ToByte locals [] needs = absurd (no (needs refl).0)
has_row ToByte locals (n ∷ stack) needs = (refl, omega arith, refl)
has_row ToChar locals [] needs = absurd (no (needs refl).0)
has_row ToChar locals (n ∷ stack) needs = (refl, omega arith, refl)
has_row ToShort locals [] needs = absurd (no (needs refl).0)
has_row ToShort locals (n ∷ stack) needs = (refl, omega arith, refl)
has_row (Increment local amount) locals stack needs = increment_goes (int_in locals local) local amount _ locals stack refl (sym (stored_at locals local) ∙ (needs refl).1) (omega arith)
has_row Put locals [] needs = absurd (no (needs refl).0)
has_row Put locals (n ∷ stack) needs = (refl, omega arith, refl)
has_row Return locals stack needs = refl

-- ---- one instruction of a program that fits

-- Where the first of the instructions doesn't return, it finds what it needs, and the others fit behind it.
pub record FitsOn (room depth : ℕ) (stored : List Bool) (i : Instruction) (rest : List Instruction) : Type 0 where
  pub operands : nat_le (moves i).0 depth ≡ true
  pub local : finds_local stored i ≡ true
  pub rest_fits : fits room (depth_after depth i) (stored_after stored i) rest ≡ true

fits_on : (room depth : ℕ) (stored : List Bool) (i : Instruction) (rest : List Instruction) → fits room depth stored (i ∷ rest) ≡ true → is_return i ≡ false → FitsOn room depth stored i rest
unfolding fits
fits_on room depth stored i rest h e =
    let on : Bool = finds_room room depth i && finds_local stored i && fits room (depth_after depth i) (stored_after stored i) rest in
    let all : on ≡ true = sym (ap (λ (returns : Bool). if returns then length rest == 0 else on) e) ∙ h in
    let own = and_parts (finds_room room depth i && finds_local stored i) (fits room (depth_after depth i) (stored_after stored i) rest) all in
    let needs = and_parts (finds_room room depth i) (finds_local stored i) own.0 in
    record { operands = (and_parts (nat_le (moves i).0 depth) (nat_le (depth_after depth i) room) needs.0).0; local = needs.1; rest_fits = own.1 }

nothing_behind : (room depth : ℕ) (stored : List Bool) (i : Instruction) (rest : List Instruction) → fits room depth stored (i ∷ rest) ≡ true → is_return i ≡ true → length rest ≡ 0
unfolding fits
nothing_behind room depth stored i rest h e =
    let on : Bool = finds_room room depth i && finds_local stored i && fits room (depth_after depth i) (stored_after stored i) rest in
    eqb-true (length rest) 0 (sym (ap (λ (returns : Bool). if returns then length rest == 0 else on) e) ∙ h)

-- An instruction of a program that fits has a row: either the rest fits the locals and the stack that it leaves, or nothing
-- follows.
abbrev Leaves : ℕ → List Instruction → List (Option ℤ) → Row → Type 0
Leaves room rest locals (Next left stack) = fits room (length stack) (stored_in left) rest ≡ true
Leaves room rest locals (Puts stack text) = fits room (length stack) (stored_in locals) rest ≡ true
Leaves room rest locals Returns = length rest ≡ 0
Leaves room rest locals NoRow = ⊥

fits_at : (room depth depth' : ℕ) (stored stored' : List Bool) (rest : List Instruction) → depth' ≡ depth → stored' ≡ stored → fits room depth stored rest ≡ true → fits room depth' stored' rest ≡ true
fits_at room depth depth' stored stored' rest d e h = ap (λ (k : ℕ). fits room k stored' rest) d ∙ ap (λ (bs : List Bool). fits room depth bs rest) e ∙ h

leaves_by : (room : ℕ) (i : Instruction) (rest : List Instruction) (locals : List (Option ℤ)) (stack : List ℤ) (r : Row) → fits room (length stack) (stored_in locals) (i ∷ rest) ≡ true
    → Goes (is_return i) (depth_after (length stack) i) (stored_after (stored_in locals) i) locals r → Leaves room rest locals r
leaves_by room i rest locals stack (Next left out) h goes = fits_at room _ (length out) _ (stored_in left) rest goes.1 goes.2 (fits_on room (length stack) (stored_in locals) i rest h goes.0).rest_fits
leaves_by room i rest locals stack (Puts out text) h goes = fits_at room _ (length out) _ (stored_in locals) rest goes.1 goes.2 (fits_on room (length stack) (stored_in locals) i rest h goes.0).rest_fits
leaves_by room i rest locals stack Returns h goes = nothing_behind room (length stack) (stored_in locals) i rest h goes
leaves_by room i rest locals stack NoRow h goes = absurd goes

leaves : (room : ℕ) (i : Instruction) (rest : List Instruction) (locals : List (Option ℤ)) (stack : List ℤ) → fits room (length stack) (stored_in locals) (i ∷ rest) ≡ true → Leaves room rest locals (row i locals stack)
leaves room i rest locals stack h =
    let needs : Needs i locals stack = λ e. ((fits_on room (length stack) (stored_in locals) i rest h e).operands, (fits_on room (length stack) (stored_in locals) i rest h e).local) in
    leaves_by room i rest locals stack (row i locals stack) h (has_row i locals stack needs)

-- ---- turns

-- the first of the turns
first_turn : (program : Program) (n : ℕ) (s : State) → state_after program (suc n) s ≡ state_after program n (turn program s)
unfolding state_after
first_turn program zero s = refl
first_turn program (suc n) s = ap (turn program) (first_turn program n s)

-- the instruction at a place, and what stands behind it
found : (code : List Instruction) (place : ℕ) (i : Instruction) (rest : List Instruction) → drop place code ≡ i ∷ rest → slice_get code place ≡ Some i
found [] zero i rest h = absurd cc
found [] (suc k) i rest h = absurd cc
found (x ∷ xs) zero i rest h = ap Some (cc)
found (x ∷ xs) (suc k) i rest h = found xs k i rest h

behind : (code : List Instruction) (place : ℕ) (i : Instruction) (rest : List Instruction) → drop place code ≡ i ∷ rest → drop (place + 1) code ≡ rest
behind [] zero i rest h = absurd cc
behind [] (suc k) i rest h = absurd cc
behind (x ∷ xs) zero i rest h = cc
behind (x ∷ xs) (suc k) i rest h = let moved : suc k + 1 ≡ suc (k + 1) = omega arith in rw moved (behind xs k i rest h)

-- The current frame is that of main, and the run hasn't ended.
pub record InMain (s : State) (place : ℕ) (locals : List (Option ℤ)) (stack : List ℤ) : Type 0 where
  pub frames : s.frames ≡ Code (record { place = place; locals = locals; stack = stack }) ∷ Entry Third ∷ []
  pub end : s.end ≡ None

main_turn : (program : Program) (s : State) (place : ℕ) (locals : List (Option ℤ)) (stack : List ℤ) (i : Instruction) → InMain s place locals stack → slice_get program.instructions place ≡ Some i
    → turn program s ≡ counted (code_turn s (record { place = place; locals = locals; stack = stack }) (Entry Third ∷ []) (row i locals stack))
main_turn program s place locals stack i here found =
    let f : CodeFrame = record { place = place; locals = locals; stack = stack } in
    ap (λ (o : Option End). unless_ended o s (counted (turn_of program s s.frames))) here.end
    ∙ ap (λ (fs : List Frame). counted (turn_of program s fs)) here.frames
    ∙ ap (λ (o : Option Instruction). counted (code_turn s f (Entry Third ∷ []) (row_at o locals stack))) found

-- what is left to do behind a place
abbrev Exits : Program → ℕ → List Instruction → Type 0
Exits program place rest = (locals : List (Option ℤ)) (stack : List ℤ) (s : State) → fits program.max_stack (length stack) (stored_in locals) rest ≡ true → InMain s place locals stack → (state_after program (suc (length rest)) s).end ≡ Some Exit

last_turn : (program : Program) (s : State) (n : ℕ) → n ≡ 0 → s.frames ≡ Entry Third ∷ [] → s.end ≡ None → (state_after program (suc n) s).end ≡ Some Exit
unfolding state_after
last_turn program s n z frames end =
    ap (λ (k : ℕ). (state_after program (suc k) s).end) z
    ∙ ap (λ (o : Option End). (unless_ended o s (counted (turn_of program s s.frames))).end) end
    ∙ ap (λ (fs : List Frame). (turn_of program s fs).end) frames

by_row : (program : Program) (place : ℕ) (rest : List Instruction) (locals : List (Option ℤ)) (stack : List ℤ) (s : State) (r : Row) → Leaves program.max_stack rest locals r → Exits program (place + 1) rest → s.end ≡ None
    → (state_after program (suc (length rest)) (counted (code_turn s (record { place = place; locals = locals; stack = stack }) (Entry Third ∷ []) r))).end ≡ Some Exit
by_row program place rest locals stack s (Next left out) leaves later end = later left out _ leaves (record { frames = refl; end = end })
by_row program place rest locals stack s (Puts out text) leaves later end = later locals out _ leaves (record { frames = refl; end = end })
by_row program place rest locals stack s Returns leaves later end = last_turn program _ (length rest) leaves refl end
by_row program place rest locals stack s NoRow leaves later end = absurd leaves

no_rest : (room depth : ℕ) (stored : List Bool) → fits room depth stored [] ≡ true → ⊥
unfolding fits
no_rest room depth stored h = cc

exits_behind : (program : Program) (place : ℕ) (rest : List Instruction) → drop place program.instructions ≡ rest → Exits program place rest
exits_behind program place [] at locals stack s h here = absurd (no_rest program.max_stack (length stack) (stored_in locals) h)
exits_behind program place (i ∷ rest) at locals stack s h here =
    ap (λ (x : State). x.end) (first_turn program (suc (length rest)) s)
    ∙ ap (λ (x : State). (state_after program (suc (length rest)) x).end) (main_turn program s place locals stack i here (found program.instructions place i rest at))
    ∙ by_row program place rest locals stack s (row i locals stack) (leaves program.max_stack i rest locals stack h) (exits_behind program (place + 1) rest (behind program.instructions place i rest at)) here.end

exits_in_time : (program : Program) → is_tested program ≡ true → (state_after program (length program.instructions + 4) start).end ≡ Some Exit
exits_in_time program h =
    let count : ℕ = length program.instructions in
    let all : count + 4 ≡ suc (suc (suc (suc count))) = omega arith in
    let called : State = turn program (turn program (turn program start)) in
    let fit : fits program.max_stack 0 (stored_in (replicate program.max_locals None)) program.instructions ≡ true = fits_at program.max_stack 0 0 _ _ program.instructions refl (stored_new program.max_locals) h in
    ap (λ (n : ℕ). (state_after program n start).end) all
    ∙ ap (λ (x : State). x.end) (first_turn program (suc (suc (suc count))) start ∙ first_turn program (suc (suc count)) (turn program start) ∙ first_turn program (suc count) (turn program (turn program start)))
    ∙ exits_behind program 0 program.instructions refl (replicate program.max_locals None) [] called fit (record { frames = refl; end = refl })

pub exits : (n : ℕ) (program : Program) → is_tested program ≡ true → length program.instructions + 4 ≤ n → (state_after program n start).end ≡ Some Exit
exits n program h enough = ap (λ (x : State). x.end) (ended_at program (length program.instructions + 4) n Exit (exits_in_time program h) enough) ∙ exits_in_time program h

-- A stuck state would stay, and not exit.
pub never_stuck : (n : ℕ) (program : Program) → is_tested program ≡ true → (state_after program n start).end ≢ Some Stuck
never_stuck n program h stuck =
    let later : ℕ = n + (length program.instructions + 4) in
    let stays : (state_after program later start).end ≡ Some Stuck = ap (λ (x : State). x.end) (ended_at program n later Stuck stuck (omega arith)) ∙ stuck in
    let exit : (state_after program later start).end ≡ Some Exit = exits later program h (omega arith) in
    cc
