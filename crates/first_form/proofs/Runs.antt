-- One more turn of a run, and runs that have ended.
use Rattle.std.proofs.Common.{◌≡◌, ℕ, ℤ, zero, suc, ◌+◌, ◌-◌, ◌≤◌, List, ◌++◌, true, false, is_some, Option, Some, None, refl, sym, ap, ◌∙◌, subst, arith}
use Rattle.std.proofs.lemmas.List.{append-nil}
use Rattle.jsa_files.specs.Sinks.{GrowsBy}
use Rattle.jsa_files.proofs.Taken.{grows_nothing, grows_then}
use Rattle.first_form.specs.declared.program.Program.{Program}
use Rattle.first_form.specs.declared.machine.Frame.{Frame}
use Rattle.first_form.specs.declared.machine.ClassState.{ClassState}
use Rattle.first_form.specs.declared.machine.End.{End}
use Rattle.first_form.specs.declared.machine.Machine.{Machine}
use Rattle.first_form.specs.declared.turns.Turned.{Turned}
use Rattle.first_form.specs.Machine.{State, IsAt, IsNew, turn_of, turn, counted, unless_ended, state_after, start}
use Rattle.first_form.specs.Does.{state_of, out_after, text_of}

pub new_is_start : (program : Program) (m : Machine) → IsNew m → IsAt (state_after program 0 start) m None
unfolding state_after
new_is_start program m new = record { frames = new.frames; class = new.class; turns = new.turns; end = refl }

pub new_put_nothing : (a : Option (List ℕ)) (program : Program) → GrowsBy a a (state_after program 0 start).out
unfolding state_after
new_put_nothing a program = grows_nothing a

-- A machine is at a state that equals its own.
pub still_at : (s s' : State) (m : Machine) (told told' : Option End) → s' ≡ s → told ≡ told' → IsAt s m told → IsAt s' m told'
still_at s s' m told told' same end at = subst (λ (x : State). IsAt x m told') (sym same) (subst (λ (o : Option End). IsAt s m o) end at)

-- a state by its parts
by_parts : (s : State) (m : Machine) (told : Option End) → IsAt s m told → s ≡ state_of m s.out told
by_parts s m told at =
    let of : List Frame → ClassState → ℕ → Option End → State = λ f c t e. record { frames = f; class = c; out = s.out; turns = t; end = e } in
    ap (λ (f : List Frame). of f s.class s.turns s.end) (sym at.frames)
    ∙ ap (λ (c : ClassState). of m.frames c s.turns s.end) (sym at.class)
    ∙ ap (λ (t : ℕ). of m.frames m.class t s.end) (sym at.turns)
    ∙ ap (λ (e : Option End). of m.frames m.class m.turns e) (sym at.end)

put_after : (out : List ℕ) (put : Option ℤ) → out_after out put ≡ out ++ text_of put
put_after out None = sym (append-nil out)
put_after out (Some n) = refl

-- A run made one more turn, and the machine is at its state.
pub record OneMore (program : Program) (i : ℕ) (m : Machine) (turned : Turned) : Type 0 where
  pub at : IsAt (state_after program (i + 1) start) m turned.end
  pub out : (state_after program (i + 1) start).out ≡ (state_after program i start).out ++ text_of turned.put

pub one_more : (program : Program) (i : ℕ) (m m' : Machine) (turned : Turned) → IsAt (state_after program i start) m None
    → turn_of program (state_of m (state_after program i start).out None) m.frames ≡ state_of m' (out_after (state_after program i start).out turned.put) turned.end
    → OneMore program i (record m' { turns = m'.turns + 1 }) turned
unfolding state_after
one_more program i m m' turned at made =
    let s = state_after program i start in
    let more : i + 1 ≡ suc i = omega arith in
    let e : state_after program (i + 1) start ≡ counted (state_of m' (out_after s.out turned.put) turned.end) = ap (λ (n : ℕ). state_after program n start) more ∙ ap (turn program) (by_parts s m None at) ∙ ap counted made in
    record {
      at = record { frames = sym (ap (λ (x : State). x.frames) e); class = sym (ap (λ (x : State). x.class) e); turns = sym (ap (λ (x : State). x.turns) e); end = sym (ap (λ (x : State). x.end) e) };
      out = ap (λ (x : State). x.out) e ∙ put_after s.out turned.put;
    }

pub grows_more : (a b c : Option (List ℕ)) (program : Program) (i : ℕ) (m : Machine) (turned : Turned) → OneMore program i m turned → GrowsBy a b (state_after program i start).out → GrowsBy b c (text_of turned.put) → GrowsBy a c (state_after program (i + 1) start).out
grows_more a b c program i m turned more before now = subst (λ (bytes : List ℕ). GrowsBy a c bytes) (sym more.out) (grows_then a b c (state_after program i start).out (text_of turned.put) before now)

ended_turn : (program : Program) (s : State) (e : End) → s.end ≡ Some e → turn program s ≡ s
ended_turn program s e h = ap (λ (o : Option End). unless_ended o s (counted (turn_of program s s.frames))) h

ended_stays : (program : Program) (i k : ℕ) (e : End) → (state_after program i start).end ≡ Some e → state_after program (i + k) start ≡ state_after program i start
unfolding state_after
ended_stays program i zero e h = let s : i + 0 ≡ i = omega arith in ap (λ (n : ℕ). state_after program n start) s
ended_stays program i (suc k) e h =
    let s : i + suc k ≡ suc (i + k) = omega arith in
    ap (λ (n : ℕ). state_after program n start) s ∙ ap (turn program) (ended_stays program i k e h) ∙ ended_turn program (state_after program i start) e h

-- A run that has ended is at its state after any more turns.
pub ended_at : (program : Program) (i n : ℕ) (e : End) → (state_after program i start).end ≡ Some e → i ≤ n → state_after program n start ≡ state_after program i start
ended_at program i n e h le = let s : n ≡ i + (n - i) = omega arith in ap (λ (m : ℕ). state_after program m start) s ∙ ended_stays program i (n - i) e h

pub same_end : (program : Program) (i n : ℕ) (told : Option End) → is_some told ≡ true → i ≤ n → told ≡ (state_after program i start).end → state_after program n start ≡ state_after program i start
same_end program i n None h le e = absurd cc
same_end program i n (Some end) h le e = ended_at program i n end (sym e) le

pub none_told : (o : Option End) → is_some o ≡ false → o ≡ None
none_told None h = refl
none_told (Some e) h = absurd cc
