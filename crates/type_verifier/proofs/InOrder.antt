-- The questions in their order: those of the steps, one after the other, up to the first that is refused.
use Rattle.std.proofs.Common.{◌≡◌, ℕ, ◌+◌, Bool, true, false, cond, ◌||◌, ◌&&◌, ◌⊎◌, inl, inr, List, [], ◌∷◌, ◌++◌, map, length, Option, Some, None, refl, sym, ap, ◌∙◌}
use Rattle.std.proofs.lemmas.List.{append-nil}
use Rattle.std.proofs.lemmas.Bool.{eqb-true}
use Rattle.std.specs.Prelude.{Ok, Err, IsSome, is_none, nat_eq, nat_lt}
use Rattle.std.specs.List.{flat_map, list_any, list_all}
use Rattle.class_tree.specs.declared.tree.ClassTree.{ClassTree}
use Rattle.class_tree.specs.declared.tree.MethodTree.{MethodTree}
use Rattle.class_tree.specs.declared.tree.CodeTree.{CodeTree}
use Rattle.loader_rules.specs.declared.loader.Loader.{Loader}
use Rattle.verify_rules.specs.declared.ask.Ask.{Ask}
use Rattle.verify_rules.specs.Superclasses.{Superclass}
use Rattle.verify_rules.specs.declared.types.Frame.{Frame}
use Rattle.verify_rules.specs.Places.{Placed, instructions}
use Rattle.verify_rules.specs.declared.checking.Checked.{Checked}
use Rattle.verify_rules.specs.declared.checking.Place.{Place}
use Rattle.verify_rules.specs.declared.cause.Cause.TheVariants.{End}
use Rattle.verify_rules.specs.Causes.{Typed}
use Rattle.verify_rules.specs.Asking.{Asking, Check, follows, gives, refused, each, and_then}
use Rattle.verify_rules.specs.Env.{Env}
use Rattle.verify_rules.specs.Rows.{row}
use Rattle.verify_rules.specs.Flow.{Frames, declared_at, falls_through, flows, is_declared, fits_if_declared, target_fits, target_distances, handled, leads, step}
use Rattle.verify_rules.specs.Methods.{Found, first_frame, entered, walked, ended, frame_or, up_to, before_walk, typed_in, typed_from, method_found}
use Rattle.verify_rules.specs.Classes.{place, found_in, before_methods, methods_checked, class_checked}
use Rattle.type_verifier.specs.Laws.{stations, station, stepped, step_in, frame_before, given, is_given, through_refusal, asks_of, first_refused, or_else, Concatenates, entry, steps, walk_fault, MethodInOrder, IsRefused, has_no_fault, through_fault, fault_in, first_fault, method_findings, ClassInOrder, frame_at, has_no_code}
use Rattle.type_verifier.specs.Laws as laws

-- ---- the walk

step_at : (e : Env) (frames : Frames) (s : Placed) (before : Frame) (d : Option Frame) → step e frames s (frame_or d before) ≡ step_in e frames s (frame_before d (Some before))
step_at e frames s before (Some f) = refl
step_at e frames s before None = refl

asks_behind : (place : ℕ) (asks : List Ask) (rest : Frame → Found) (cut : Option Frame → List (Asking Frame)) (o : Typed Frame) → ((x : Frame) → (rest x).asks ≡ asks_of (cut (Some x)))
    → (up_to place asks o rest).asks ≡ asks ++ asks_of (cond (is_given o) (cut (given o)) [])
asks_behind place asks rest cut (Err cause) h = sym (append-nil asks)
asks_behind place asks rest cut (Ok x) h = ap (λ (l : List Ask). asks ++ l) (h x)

fault_behind : (place : ℕ) (asks : List Ask) (rest : Frame → Found) (bad : Option ℕ) (left : Option Frame → Option ℕ) (o : Typed Frame) → ((x : Frame) → (rest x).fault ≡ or_else (left (Some x)) bad)
    → (up_to place asks o rest).fault ≡ or_else (cond (is_given o) (left (given o)) (Some place)) bad
fault_behind place asks rest bad left (Err cause) h = refl
fault_behind place asks rest bad left (Ok x) h = h x

ended_asks : (bad : Option ℕ) → (ended bad).asks ≡ []
ended_asks None = refl
ended_asks (Some place) = refl

ended_fault : (bad : Option ℕ) → (ended bad).fault ≡ bad
ended_fault None = refl
ended_fault (Some place) = refl

walk_asks : (e : Env) (frames : Frames) (placed : List Placed) (bad : Option ℕ) (first : Frame) → (walked e frames first placed bad).asks ≡ asks_of (through_refusal (map (stepped e frames) (stations e frames (Some first) placed)))
unfolding walked stations
walk_asks e frames [] bad first = ended_asks bad
walk_asks e frames (s ∷ more) bad first =
    let d = declared_at frames s.place in
    let rest = λ (after : Frame). walked e frames after more bad in
    ap (λ (a : Asking Frame). (up_to s.place a.asks a.value rest).asks) (step_at e frames s first d)
    ∙ asks_behind s.place (step_in e frames s (frame_before d (Some first))).asks rest (λ (after : Option Frame). through_refusal (map (stepped e frames) (stations e frames after more))) (step_in e frames s (frame_before d (Some first))).value (walk_asks e frames more bad)

walk_faults : (e : Env) (frames : Frames) (placed : List Placed) (bad : Option ℕ) (first : Frame) → (walked e frames first placed bad).fault ≡ or_else (first_refused e frames (stations e frames (Some first) placed)) bad
unfolding walked stations
walk_faults e frames [] bad first = ended_fault bad
walk_faults e frames (s ∷ more) bad first =
    let d = declared_at frames s.place in
    let rest = λ (after : Frame). walked e frames after more bad in
    ap (λ (a : Asking Frame). (up_to s.place a.asks a.value rest).fault) (step_at e frames s first d)
    ∙ fault_behind s.place (step_in e frames s (frame_before d (Some first))).asks rest bad (λ (after : Option Frame). first_refused e frames (stations e frames after more)) (step_in e frames s (frame_before d (Some first))).value (walk_faults e frames more bad)

pub walks_in_order : laws.WalksAreInOrder
walks_in_order e frames first placed bad = record { asks = walk_asks e frames placed bad first; fault = walk_faults e frames placed bad first }

-- ---- the method

entry_asks : (first : Frame) (asks : List Ask) (o : Typed (Unit {0})) (walk : Found) (cut : List (Asking Frame)) → walk.asks ≡ asks_of cut
    → (before_walk asks o walk).asks ≡ (follows asks o (λ (u : Unit {0}). gives first)).asks ++ asks_of (cond (is_given (follows asks o (λ (u : Unit {0}). gives first)).value) cut [])
entry_asks first asks (Err cause) walk cut h = sym (append-nil asks)
entry_asks first asks (Ok u) walk cut h = ap (λ (l : List Ask). asks ++ l) h ∙ ap (λ (l : List Ask). l ++ asks_of cut) (sym (append-nil asks))

entry_fault : (asks : List Ask) (o : Typed (Unit {0})) (walk : Found) (left : Option ℕ) → walk.fault ≡ left → (before_walk asks o walk).fault ≡ cond (is_given o) left (Some 0)
entry_fault asks (Err cause) walk left h = refl
entry_fault asks (Ok u) walk left h = h

pub methods_in_order : laws.MethodsAreInOrder
unfolding method_found
methods_in_order e first frames long f p =
    let c = entered e frames first in
    let is = instructions e.code.bytes in
    let w = walked e frames first is.placed is.bad in
    let one : method_found e ≡ typed_in e first (Some frames) = rw (long, f, p) refl in
    record {
      asks = ap (λ (x : Found). x.asks) one ∙ entry_asks first c.asks c.value w (through_refusal (map (stepped e frames) (stations e frames (Some first) is.placed))) (walk_asks e frames is.placed is.bad first);
      fault = ap (λ (x : Found). x.fault) one ∙ entry_fault c.asks c.value w (walk_fault e frames first) (walk_faults e frames is.placed is.bad first);
    }

pub methods_refused : laws.MethodsAreRefused
unfolding method_found
methods_refused e (inl short) = rw short (refl, refl)
methods_refused e (inr (inl none)) = by (nat_eq (length e.code.bytes) 0) where
  by : (b : Bool) → IsRefused (cond b (record { asks = []; fault = Some 0 }) (typed_from e (first_frame e)))
  by true = (refl, refl)
  by false = rw none (refl, refl)
methods_refused e (inr (inr h)) = by (nat_eq (length e.code.bytes) 0) where
  by : (b : Bool) → IsRefused (cond b (record { asks = []; fault = Some 0 }) (typed_from e (first_frame e)))
  by true = (refl, refl)
  by false = rw (h.1, h.2) (refl, refl)

-- ---- the class

class_asks_at : (k : ℕ) (asks : List Ask) (o : Option ℕ) (rest : Checked) (cut : List Found) → rest.asks ≡ flat_map (λ (f : Found). f.asks) cut → (before_methods k asks o rest).asks ≡ asks ++ flat_map (λ (f : Found). f.asks) (cond (is_none o) cut [])
class_asks_at k asks None rest cut h = ap (λ (l : List Ask). asks ++ l) h
class_asks_at k asks (Some pc) rest cut h = sym (append-nil asks)

class_fault_at : (k : ℕ) (asks : List Ask) (o : Option ℕ) (rest : Checked) (left : Option Place) → rest.fault ≡ left → (before_methods k asks o rest).fault ≡ or_else (fault_in k o) left
class_fault_at k asks None rest left h = h
class_fault_at k asks (Some pc) rest left h = refl

module _ (t : ClassTree) (loader : Loader) (supers : List Superclass) where
  class_asks : (k : ℕ) (methods : List MethodTree) → (methods_checked t loader supers k methods).asks ≡ flat_map (λ (f : Found). f.asks) (through_fault (map (λ (m : MethodTree). found_in t loader supers m m.code) methods))
  unfolding methods_checked
  class_asks k [] = refl
  class_asks k (m ∷ methods) =
      let f = found_in t loader supers m m.code in
      class_asks_at k f.asks f.fault (methods_checked t loader supers (k + 1) methods) (through_fault (map (λ (x : MethodTree). found_in t loader supers x x.code) methods)) (class_asks (k + 1) methods)

  class_fault : (k : ℕ) (methods : List MethodTree) → (methods_checked t loader supers k methods).fault ≡ first_fault k (map (λ (m : MethodTree). found_in t loader supers m m.code) methods)
  unfolding methods_checked
  class_fault k [] = refl
  class_fault k (m ∷ methods) =
      let f = found_in t loader supers m m.code in
      class_fault_at k f.asks f.fault (methods_checked t loader supers (k + 1) methods) (first_fault (k + 1) (map (λ (x : MethodTree). found_in t loader supers x x.code) methods)) (class_fault (k + 1) methods)

  codeless_in : (m : MethodTree) (c : Option CodeTree) → is_none c ≡ true → found_in t loader supers m c ≡ record { asks = []; fault = None }
  codeless_in m None h = refl
  codeless_in m (Some code) h = absurd cc

  both : (a b : Bool) → a && b ≡ true → (a ≡ true) × (b ≡ true)
  both true b h = (refl, h)
  both false b h = absurd cc

  codeless : (k : ℕ) (methods : List MethodTree) → list_all has_no_code methods ≡ true → methods_checked t loader supers k methods ≡ record { asks = []; fault = None }
  unfolding methods_checked
  codeless k [] h = refl
  codeless k (m ∷ methods) h =
      let b = both (has_no_code m) (list_all has_no_code methods) h in
      let f = codeless_in m m.code b.0 in
      let r = codeless (k + 1) methods b.1 in
      rw (f, r) refl

pub classes_in_order : laws.ClassesAreInOrder
unfolding class_checked
classes_in_order t loader supers sound =
    let one : class_checked t loader supers ≡ methods_checked t loader supers 0 t.methods = rw sound refl in
    record { asks = ap (λ (c : Checked). c.asks) one ∙ class_asks t loader supers 0 t.methods; fault = ap (λ (c : Checked). c.fault) one ∙ class_fault t loader supers 0 t.methods }

pub final_faults_ask_nothing : laws.FinalFaultsAskNothing
unfolding class_checked
final_faults_ask_nothing t loader supers breaks = rw breaks refl

pub codeless_are_sound : laws.CodelessClassesAreSound
unfolding class_checked
codeless_are_sound t loader supers none sound = rw sound (codeless t loader supers 0 t.methods none)

-- ---- declared frames

either : (a b : Bool) → a || b ≡ true → (a ≡ true) ⊎ (b ≡ true)
either true b h = inl refl
either false b h = inr h

frame_of_two : (b : Bool) (x rest : Option Frame) (f : Frame) → (b ≡ true → x ≡ Some f) → (b ≡ false → rest ≡ Some f) → cond b x rest ≡ Some f
frame_of_two true x rest f p q = p refl
frame_of_two false x rest f p q = q refl

module _ (e : Env) (frames : Frames) (at : ℕ) (f : Frame) (d : declared_at frames at ≡ Some f) where
  declared_here : (s : Placed) (before : Option Frame) → nat_eq s.place at ≡ true → frame_before (declared_at frames s.place) before ≡ Some f
  declared_here s before h =
      let p : s.place ≡ at = eqb-true s.place at h in
      ap (λ (n : ℕ). frame_before (declared_at frames n) before) p ∙ ap (λ (o : Option Frame). frame_before o before) d

  stand_in : (before : Option Frame) (placed : List Placed) → list_any (λ (s : Placed). nat_eq s.place at) placed ≡ true → frame_at (stations e frames before placed) at ≡ Some f
  unfolding stations frame_at
  stand_in before [] h = absurd cc
  stand_in before (s ∷ more) h =
      frame_of_two (nat_eq s.place at) (frame_before (declared_at frames s.place) before) (frame_at (stations e frames (given (stepped e frames (station frames s before)).value) more) at) f
      (λ t. declared_here s before t)
      (λ n. stand_in (given (stepped e frames (station frames s before)).value) more (elim (either (nat_eq s.place at) (list_any (λ (x : Placed). nat_eq x.place at) more) h) [ inl t ↦ absurd cc | inr r ↦ r ]))

pub declared_stand : laws.DeclaredFramesStand
declared_stand e frames before placed at f d h = stand_in e frames at f d before placed h

-- ---- behind an instruction

value_then : {A B : Type 0} (asks : List Ask) (o : Typed A) (f : A → Asking B) (y : B) → (follows asks o f).value ≡ Ok y → (x : A) × ((f x).value ≡ Ok y)
value_then asks (Err cause) f y h = absurd cc
value_then asks (Ok x) f y h = (x, h)

test_given : {B : Type 0} (asks : List Ask) (o : Typed (Unit {0})) (b : Asking B) (y : B) → (follows asks o (λ u. b)).value ≡ Ok y → o ≡ Ok tt
test_given asks (Err cause) b y h = absurd cc
test_given asks (Ok u) b y h = refl

rest_given : {B : Type 0} (asks : List Ask) (o : Typed (Unit {0})) (b : Asking B) (y : B) → (follows asks o (λ u. b)).value ≡ Ok y → b.value ≡ Ok y
rest_given asks (Err cause) b y h = absurd cc
rest_given asks (Ok u) b y h = h

-- what was tested where a step gives a frame: the flow to the instruction behind
flowed : (e : Env) (frames : Frames) (s : Placed) (f after : Frame) → (step e frames s f).value ≡ Ok after → (x : Frame) × ((flows frames (length e.code.bytes) (falls_through s.instr) s.next x).value ≡ Ok tt)
unfolding step leads
flowed e frames s f after h =
    let r = row e s.place s.instr f in
    let a = value_then r.asks r.value (λ (x : Frame). and_then (leads e frames s f x) (gives x)) after h in
    let l = leads e frames s f a.0 in
    let t = each (target_fits frames s.place a.0) (target_distances s.instr) in
    let c = each (handled e frames s.place f) e.code.handlers in
    let n = flows frames (length e.code.bytes) (falls_through s.instr) s.next a.0 in
    (a.0, rest_given c.asks c.value n tt (rest_given t.asks t.value (and_then c n) tt (test_given l.asks l.value (gives a.0) after a.1)))

declared_given : (o : Option Frame) → (is_declared o).value ≡ Ok tt → IsSome o
declared_given None h = absurd cc
declared_given (Some g) h = refl

pub jumps_followed : laws.JumpsAreFollowed
unfolding flows
jumps_followed e frames s f after h stops within =
    let w = flowed e frames s f after h in
    declared_given (declared_at frames s.next) (rw (stops, within) at w.1)

within_given : (b : Bool) (fits : Check) → (cond b fits (refused End)).value ≡ Ok tt → b ≡ true
within_given true fits h = refl
within_given false fits h = absurd cc

pub code_goes_on : laws.CodeGoesOn
unfolding flows
code_goes_on e frames s f after h goes =
    let w = flowed e frames s f after h in
    within_given (nat_lt s.next (length e.code.bytes)) (fits_if_declared (declared_at frames s.next) w.0) (rw goes at w.1)
