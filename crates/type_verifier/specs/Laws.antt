-- The questions of a method and of a class, said at once (JVM Specification SE 8, 4.10.1): those of the instructions, each in the frame
-- before it, one after the other, up to the first that is refused.
use Rattle.std.specs.Prelude.{◌≡◌, ℕ, ◌+◌, Bool, true, false, cond, List, [], ◌∷◌, map, length, Option, Some, None, Ok, Err, IsSome, is_none, ◌⊎◌, nat_eq, nat_lt}
use Rattle.std.specs.List.{flat_map, list_any, list_all}
use Rattle.class_tree.specs.declared.tree.ClassTree.{ClassTree}
use Rattle.class_tree.specs.declared.tree.MethodTree.{MethodTree}
use Rattle.loader_rules.specs.declared.loader.Loader.{Loader}
use Rattle.verify_rules.specs.declared.ask.Ask.{Ask}
use Rattle.verify_rules.specs.Superclasses.{Superclass}
use Rattle.verify_rules.specs.declared.types.Frame.{Frame}
use Rattle.verify_rules.specs.Places.{Placed, instructions}
use Rattle.verify_rules.specs.declared.cause.Cause.TheVariants.{NoFrame}
use Rattle.verify_rules.specs.declared.checking.Place.{Place}
use Rattle.verify_rules.specs.Causes.{Typed}
use Rattle.verify_rules.specs.Asking.{Asking, ◌>>=◌, gives, refused}
use Rattle.verify_rules.specs.Env.{Env}
use Rattle.verify_rules.specs.Flow.{Frames, declared_at, falls_through, step}
use Rattle.verify_rules.specs.Methods.{Found, first_frame, placed_frames, entered, walked, method_found}
use Rattle.verify_rules.specs.Classes.{place, found_in, breaks_final, class_checked}

-- ---- the frames before the instructions

-- an instruction, and the frame before it
pub record Station : Type 0 where
  pub at : Placed
  pub frame : Option Frame

-- the declared frame, or else that after the instruction before
abbrev pub frame_before : Option Frame → Option Frame → Option Frame
frame_before (Some f) before = Some f
frame_before None before = before

-- an instruction in the frame before it
abbrev pub step_in : Env → Frames → Placed → Option Frame → Asking Frame
step_in e frames s None = refused NoFrame
step_in e frames s (Some f) = step e frames s f

abbrev pub given : {A : Type 0} → Typed A → Option A
given (Ok x) = Some x
given (Err cause) = None

abbrev pub station : Frames → Placed → Option Frame → Station
station frames s before = record { at = s; frame = frame_before (declared_at frames s.place) before }

abbrev pub stepped : Env → Frames → Station → Asking Frame
stepped e frames s = step_in e frames s.at s.frame

-- The instructions, each with the frame before it. Behind one that is refused, only a declared frame comes.
unfoldable pub stations : Env → Frames → Option Frame → List Placed → List Station
stations e frames before [] = []
stations e frames before (s ∷ more) = station frames s before ∷ stations e frames (given (stepped e frames (station frames s before)).value) more

-- At: the frame before the instruction at a place
unfoldable pub frame_at : List Station → ℕ → Option Frame
frame_at [] place = None
frame_at (s ∷ ss) place = cond (nat_eq s.at.place place) s.frame (frame_at ss place)

-- ---- up to the first that is refused

abbrev pub is_given : {A : Type 0} → Typed A → Bool
is_given (Ok x) = true
is_given (Err cause) = false

-- those up to the first that is refused, that one too
abbrev pub through_refusal : {A : Type 0} → List (Asking A) → List (Asking A)
through_refusal [] = []
through_refusal (a ∷ more) = a ∷ cond (is_given a.value) (through_refusal more) []

abbrev pub asks_of : {A : Type 0} → List (Asking A) → List Ask
asks_of steps = flat_map (λ a. a.asks) steps

-- the place of the first that is refused
abbrev pub first_refused : Env → Frames → List Station → Option ℕ
first_refused e frames [] = None
first_refused e frames (s ∷ ss) = cond (is_given (stepped e frames s).value) (first_refused e frames ss) (Some s.at.place)

abbrev pub or_else : {A : Type 0} → Option A → Option A → Option A
or_else (Some x) other = Some x
or_else None other = other

-- ---- the walk

-- The questions of a walk are those of its instructions, and its fault is at the first that is refused, or else where none is decoded.
pub record Concatenates (e : Env) (frames : Frames) (first : Frame) (placed : List Placed) (bad : Option ℕ) : Type 0 where
  pub asks : (walked e frames first placed bad).asks ≡ asks_of (through_refusal (map (stepped e frames) (stations e frames (Some first) placed)))
  pub fault : (walked e frames first placed bad).fault ≡ or_else (first_refused e frames (stations e frames (Some first) placed)) bad

-- ---- the method

-- what is asked before the instructions, as a step that gives the first frame
abbrev pub entry : Env → Frames → Frame → Asking Frame
entry e frames first = entered e frames first >>= λ u. gives first

-- what is asked before the instructions, and then they, each in the frame before it
abbrev pub steps : Env → Frames → Frame → List (Asking Frame)
steps e frames first = entry e frames first ∷ map (stepped e frames) (stations e frames (Some first) (instructions e.code.bytes).placed)

abbrev pub walk_fault : Env → Frames → Frame → Option ℕ
walk_fault e frames first = or_else (first_refused e frames (stations e frames (Some first) (instructions e.code.bytes).placed)) (instructions e.code.bytes).bad

-- The questions of a method that has a first frame and frames are those of its steps. A fault before the instructions is at place 0.
pub record MethodInOrder (e : Env) (first : Frame) (frames : Frames) : Type 0 where
  pub asks : (method_found e).asks ≡ asks_of (through_refusal (steps e frames first))
  pub fault : (method_found e).fault ≡ cond (is_given (entered e frames first).value) (walk_fault e frames first) (Some 0)

-- a method that is refused as a whole
abbrev pub IsRefused : Found → Type 0
IsRefused found = (found.asks ≡ []) × (found.fault ≡ Some 0)

-- ---- the class

abbrev pub has_no_fault : Found → Bool
has_no_fault found = is_none found.fault

-- those up to the first fault, that one too
abbrev pub through_fault : List Found → List Found
through_fault [] = []
through_fault (f ∷ more) = f ∷ cond (has_no_fault f) (through_fault more) []

abbrev pub fault_in : ℕ → Option ℕ → Option Place
fault_in k None = None
fault_in k (Some pc) = Some (place k pc)

-- the first fault, by the number of its method
abbrev pub first_fault : ℕ → List Found → Option Place
first_fault k [] = None
first_fault k (f ∷ more) = or_else (fault_in k f.fault) (first_fault (k + 1) more)

abbrev pub method_findings : ClassTree → Loader → List Superclass → List Found
method_findings t loader supers = map (λ (m : MethodTree). found_in t loader supers m m.code) t.methods

-- The questions of a class are those of its methods in their order.
pub record ClassInOrder (t : ClassTree) (loader : Loader) (supers : List Superclass) : Type 0 where
  pub asks : (class_checked t loader supers).asks ≡ flat_map (λ (f : Found). f.asks) (through_fault (method_findings t loader supers))
  pub fault : (class_checked t loader supers).fault ≡ first_fault 0 (method_findings t loader supers)

-- ---- the laws

abbrev pub WalksAreInOrder : Type 0
WalksAreInOrder = (e : Env) (frames : Frames) (first : Frame) (placed : List Placed) (bad : Option ℕ) → Concatenates e frames first placed bad

abbrev pub MethodsAreInOrder : Type 0
MethodsAreInOrder = (e : Env) (first : Frame) (frames : Frames) → nat_eq (length e.code.bytes) 0 ≡ false → first_frame e ≡ Some first → placed_frames e first ≡ Some frames → MethodInOrder e first frames

abbrev pub ClassesAreInOrder : Type 0
ClassesAreInOrder = (t : ClassTree) (loader : Loader) (supers : List Superclass) → breaks_final t loader supers ≡ false → ClassInOrder t loader supers

-- Without a first frame, without frames that stand at instructions, or without code, a method is refused before all questions.
abbrev pub MethodsAreRefused : Type 0
MethodsAreRefused = (e : Env) → ((nat_eq (length e.code.bytes) 0 ≡ true) ⊎ (first_frame e ≡ None) ⊎ ((first : Frame) × (first_frame e ≡ Some first) × (placed_frames e first ≡ None))) → IsRefused (method_found e)

-- The frame before an instruction is the one that is declared at its place.
abbrev pub DeclaredFramesStand : Type 0
DeclaredFramesStand = (e : Env) (frames : Frames) (before : Option Frame) (placed : List Placed) (at : ℕ) (f : Frame) → declared_at frames at ≡ Some f → list_any (λ (s : Placed). nat_eq s.place at) placed ≡ true → frame_at (stations e frames before placed) at ≡ Some f

-- Behind an instruction that is typed and doesn't go on, a frame is declared, or the code ends.
abbrev pub JumpsAreFollowed : Type 0
JumpsAreFollowed = (e : Env) (frames : Frames) (s : Placed) (f after : Frame) → (step e frames s f).value ≡ Ok after → falls_through s.instr ≡ false → nat_lt s.next (length e.code.bytes) ≡ true → IsSome (declared_at frames s.next)

-- Behind an instruction that is typed and goes on, the code doesn't end.
abbrev pub CodeGoesOn : Type 0
CodeGoesOn = (e : Env) (frames : Frames) (s : Placed) (f after : Frame) → (step e frames s f).value ≡ Ok after → falls_through s.instr ≡ true → nat_lt s.next (length e.code.bytes) ≡ true

-- A class that extends a final one, or overrides a final method, is faulty, and asks nothing.
abbrev pub FinalFaultsAskNothing : Type 0
FinalFaultsAskNothing = (t : ClassTree) (loader : Loader) (supers : List Superclass) → breaks_final t loader supers ≡ true → class_checked t loader supers ≡ record { asks = []; fault = Some (place 0 0) }

abbrev pub has_no_code : MethodTree → Bool
has_no_code m = is_none m.code

-- A class whose methods have no code, which breaks nothing that is final, asks nothing and has no fault.
abbrev pub CodelessClassesAreSound : Type 0
CodelessClassesAreSound = (t : ClassTree) (loader : Loader) (supers : List Superclass) → list_all has_no_code t.methods ≡ true → breaks_final t loader supers ≡ false → class_checked t loader supers ≡ record { asks = []; fault = None }
