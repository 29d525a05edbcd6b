-- What a run has put is a front of what it puts in more turns.
use Rattle.std.proofs.Common.{◌≡◌, ℕ, zero, suc, ◌+◌, ◌-◌, ◌≤◌, ◌<◌, List, [], ◌∷◌, ◌++◌, Option, Some, None, refl, sym, ap, ◌∙◌, append_assoc, subst, arith}
use Rattle.std.specs.Prelude.{slice_get, Result, Ok, Err, OnErr}
use Rattle.std.proofs.lemmas.List.{append-nil}
use Rattle.jsa_files.specs.Sinks.{GrowsBy, GrowsByFront}
use Rattle.jsa_files.proofs.Taken.{front_of_whole, front_then, front_more}
use Rattle.first_form.specs.declared.program.Program.{Program}
use Rattle.first_form.specs.declared.machine.EntryTurn.{EntryTurn}
use Rattle.first_form.specs.declared.machine.EntryTurn.TheVariants.{First, Second, Third}
use Rattle.first_form.specs.declared.machine.Frame.{Frame}
use Rattle.first_form.specs.declared.machine.Frame.TheVariants.{Entry, Initialise, Code}
use Rattle.first_form.specs.declared.machine.CodeFrame.{CodeFrame}
use Rattle.first_form.specs.declared.machine.End.{End}
use Rattle.first_form.specs.Machine.{Row, Next, Puts, Returns, NoRow, row_at, State, entry_turn, code_turn, turn_of, counted, unless_ended, state_after, start}

-- bytes with more behind them
abbrev pub Adds : List ℕ → List ℕ → Type 0
Adds out later = (tail : List ℕ) × (later ≡ out ++ tail)

adds_nothing : (out : List ℕ) → Adds out out
adds_nothing out = ([], sym (append-nil out))

entry_adds : (max_locals : ℕ) (s : State) (t : EntryTurn) (below : List Frame) → Adds s.out (entry_turn max_locals s t below).out
entry_adds max_locals s First below = adds_nothing s.out
entry_adds max_locals s Second below = adds_nothing s.out
entry_adds max_locals s Third below = adds_nothing s.out

code_adds : (s : State) (f : CodeFrame) (below : List Frame) (r : Row) → Adds s.out (code_turn s f below r).out
code_adds s f below (Next locals stack) = adds_nothing s.out
code_adds s f below (Puts stack text) = (text, refl)
code_adds s f below Returns = adds_nothing s.out
code_adds s f below NoRow = adds_nothing s.out

frames_add : (program : Program) (s : State) (frames : List Frame) → Adds s.out (turn_of program s frames).out
frames_add program s [] = adds_nothing s.out
frames_add program s (Entry t ∷ below) = entry_adds program.max_locals s t below
frames_add program s (Initialise ∷ below) = adds_nothing s.out
frames_add program s (Code f ∷ below) = code_adds s f below (row_at (slice_get program.instructions f.place) f.locals f.stack)

turn_adds : (program : Program) (s : State) (o : Option End) → Adds s.out (unless_ended o s (counted (turn_of program s s.frames))).out
turn_adds program s None = frames_add program s s.frames
turn_adds program s (Some e) = adds_nothing s.out

run_adds : (program : Program) (i k : ℕ) → Adds (state_after program i start).out (state_after program (i + k) start).out
unfolding state_after
run_adds program i zero = let s : i + 0 ≡ i = omega arith in ([], ap (λ (n : ℕ). (state_after program n start).out) s ∙ sym (append-nil (state_after program i start).out))
run_adds program i (suc k) =
    let s : i + suc k ≡ suc (i + k) = omega arith in
    let before = run_adds program i k in
    let here = state_after program (i + k) start in
    let one = turn_adds program here here.end in
    (before.0 ++ one.0, ap (λ (n : ℕ). (state_after program n start).out) s ∙ one.1 ∙ ap (λ (u : List ℕ). u ++ one.0) before.1 ∙ append_assoc (state_after program i start).out before.0 one.0)

pub adds_to : (program : Program) (i n : ℕ) → i ≤ n → Adds (state_after program i start).out (state_after program n start).out
adds_to program i n le =
    let s : i + (n - i) ≡ n = omega arith in
    let g = run_adds program i (n - i) in
    (g.0, ap (λ (m : ℕ). (state_after program m start).out) (sym s) ∙ g.1)

front_of : (a c : Option (List ℕ)) (x y : List ℕ) → Adds x y → GrowsByFront a c x → GrowsByFront a c y
front_of a c x y g h = subst (λ (u : List ℕ). GrowsByFront a c u) (sym g.1) (front_more a c x g.0 h)

-- a run that broke off before a put
pub front_so_far : (a b : Option (List ℕ)) (program : Program) (i n : ℕ) → i ≤ n → GrowsBy a b (state_after program i start).out → GrowsByFront a b (state_after program n start).out
front_so_far a b program i n le grown =
    let so_far = (state_after program i start).out in
    front_of a b so_far (state_after program n start).out (adds_to program i n le) (front_of_whole a b so_far grown)

-- a run that broke off in a put
pub front_with_put : (a b c : Option (List ℕ)) (program : Program) (i n : ℕ) (text : List ℕ) → i < n → (state_after program (i + 1) start).out ≡ (state_after program i start).out ++ text
    → GrowsBy a b (state_after program i start).out → GrowsByFront b c text → GrowsByFront a c (state_after program n start).out
front_with_put a b c program i n text lt made grown put =
    let so_far = (state_after program i start).out in
    let here = front_then a b c so_far text grown put in
    front_of a c (state_after program (i + 1) start).out (state_after program n start).out (adds_to program (i + 1) n (omega arith)) (subst (λ (u : List ℕ). GrowsByFront a c u) (sym made) here)

pub on_err : {T E : Type 0} (r : Result T E) (P : Type 0) → P → OnErr r P
on_err (Ok x) P h = tt
on_err (Err e) P h = h
