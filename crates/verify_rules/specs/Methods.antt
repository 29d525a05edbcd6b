-- A method: the frame that it begins with, what is wrong of it as a whole, and its instructions in their order (JVM Specification SE 8, 4.10.1.5, 4.10.1.6).
use Rattle.std.specs.Prelude.{ℕ, Bool, true, false, cond, not, ◌&&◌, ◌||◌, List, [], ◌∷◌, ◌++◌, length, Option, Some, None, Ok, Err, codes, nat_le, nat_eq}
use Rattle.std.specs.List.{list_all}
use Rattle.jsa_base.specs.Reading.{◌>>=◌}
use Rattle.jsa_names.specs.Types.{JavaMethod}
use Rattle.class_tree.specs.declared.constant_pool.PoolEntry.{PoolEntry}
use Rattle.class_tree.specs.declared.tree.Handler.{Handler}
use Rattle.class_tree.specs.Flags.{is_static}
use Rattle.class_tree.specs.WellFormed.{class_name, is_object}
use Rattle.verify_rules.specs.declared.ask.Ask.{Ask}
use Rattle.verify_rules.specs.declared.types.VType.{VType}
use Rattle.verify_rules.specs.declared.types.VType.TheVariants as types
use Rattle.verify_rules.specs.declared.types.Frame.{Frame}
use Rattle.verify_rules.specs.Types.{units}
use Rattle.verify_rules.specs.Places.{Placed, instructions, is_start}
use Rattle.verify_rules.specs.Frames.{filled, frames_of}
use Rattle.verify_rules.specs.declared.cause.Cause.TheVariants.{Written}
use Rattle.verify_rules.specs.Causes.{Typed}
use Rattle.verify_rules.specs.Asking.{Asking, Check, fine, refused, each, and_then}
use Rattle.verify_rules.specs.Assign.{object_assign}
use Rattle.verify_rules.specs.Env.{Env, pool_of, this_name, this_type, is_constructor, vtypes_of, own_type}
use Rattle.verify_rules.specs.Flow.{Frames, declared_at, fits_if_declared, step}

-- The questions up to the first fault, and its place.
pub record Found : Type 0 where
  pub asks : List Ask
  pub fault : Option ℕ

abbrev pub sound : Found
sound = record { asks = []; fault = None }

abbrev pub faulty : ℕ → Found
faulty place = record { asks = []; fault = Some place }

-- ---- the frame that a method begins with

-- `this` in a constructor waits for another constructor, except in that of java/lang/Object.
abbrev pub begins_unfinished : Env → Bool
begins_unfinished e = is_constructor e && not (is_object (this_name e))

abbrev pub own_object : Env → List VType
own_object e = cond (is_static e.method.flags) [] (cond (begins_unfinished e) types.UninitializedThis (this_type e) ∷ [])

-- `this`, unless the method is static, and its parameters
abbrev pub first_locals : Env → JavaMethod → List VType
first_locals e m = own_object e ++ vtypes_of m.parameters

abbrev pub frame_of_locals : Env → List VType → Option Frame
frame_of_locals e locals =
    cond (nat_le (units locals) e.code.locals)
    (Some (record { locals = filled e.code.locals locals; stack = []; this_uninit = not (is_static e.method.flags) && begins_unfinished e }))
    None

-- None where the descriptor is none, or its parameters have no room.
unfoldable pub first_frame : Env → Option Frame
first_frame e = own_type e >>= λ m. frame_of_locals e (first_locals e m)

-- ---- what is wrong of the method as a whole

-- Its frames stand where instructions begin.
abbrev pub stand_at_starts : List ℕ → Frames → Bool
stand_at_starts code frames = list_all (λ (d : ℕ × Frame). is_start code d.0) frames

abbrev pub has_frame : Option Frame → Bool
has_frame None = false
has_frame (Some f) = true

-- The range begins and ends where instructions begin, or at the end of the code. The handler begins with one, and has a frame.
abbrev pub is_placed : List ℕ → Frames → Handler → Bool
is_placed code frames h =
    is_start code h.start && ((is_start code h.end || nat_eq h.end (length code)) && (is_start code h.handler && has_frame (declared_at frames h.handler)))

abbrev pub are_placed : List ℕ → List Handler → Frames → Bool
are_placed code handlers frames = stand_at_starts code frames && list_all (is_placed code frames) handlers

abbrev pub frames_if_placed : Env → Frames → Option Frames
frames_if_placed e frames = cond (are_placed e.code.bytes e.code.handlers frames) (Some frames) None

-- The frames of a method that has none of these faults.
unfoldable pub placed_frames : Env → Frame → Option Frames
placed_frames e first = frames_of (pool_of e) e.code first >>= frames_if_placed e

-- ---- before the instructions

abbrev pub catches_throwable : Option (List ℕ) → Check
catches_throwable None = refused Written
catches_throwable (Some class) = object_assign class (codes "java/lang/Throwable")

-- a class that a handler names is one of throwables
abbrev pub catch_test : List PoolEntry → Handler → Check
catch_test pool h = cond (nat_eq h.catch 0) fine (catches_throwable (class_name pool h.catch))

-- The classes that are caught, in the order of the table; then the first frame fits one that is declared at place 0.
unfoldable pub entered : Env → Frames → Frame → Check
entered e frames first = and_then (each (catch_test (pool_of e)) e.code.handlers) (fits_if_declared (declared_at frames 0) first)

-- ---- the instructions

-- the frame before an instruction: the declared one, or else that after the instruction before
abbrev pub frame_or : Option Frame → Frame → Frame
frame_or (Some f) before = f
frame_or None before = before

abbrev pub up_to : ℕ → List Ask → Typed Frame → (Frame → Found) → Found
up_to place asks (Err cause) rest = record { asks = asks; fault = Some place }
up_to place asks (Ok after) rest = record { asks = asks ++ (rest after).asks; fault = (rest after).fault }

abbrev pub then_found : ℕ → Asking Frame → (Frame → Found) → Found
then_found place a rest = up_to place a.asks a.value rest

-- The place at which none is decoded is a fault.
abbrev pub ended : Option ℕ → Found
ended None = sound
ended (Some place) = faulty place

-- The instructions from the first of these on, which the frame comes to, up to the first fault.
unfoldable pub walked : Env → Frames → Frame → List Placed → Option ℕ → Found
walked e frames f [] bad = ended bad
walked e frames f (s ∷ more) bad = then_found s.place (step e frames s (frame_or (declared_at frames s.place) f)) (λ after. walked e frames after more bad)

-- ---- the method

abbrev pub before_walk : List Ask → Typed (Unit {0}) → Found → Found
before_walk asks (Err cause) rest = record { asks = asks; fault = Some 0 }
before_walk asks (Ok u) rest = record { asks = asks ++ rest.asks; fault = rest.fault }

abbrev pub found_behind : Check → Found → Found
found_behind c rest = before_walk c.asks c.value rest

abbrev pub typed_in : Env → Frame → Option Frames → Found
typed_in e first None = faulty 0
typed_in e first (Some frames) = found_behind (entered e frames first) (walked e frames first (instructions e.code.bytes).placed (instructions e.code.bytes).bad)

abbrev pub typed_from : Env → Option Frame → Found
typed_from e None = faulty 0
typed_from e (Some first) = typed_in e first (placed_frames e first)

-- A code without bytes has no instruction: its method is faulty.
unfoldable pub method_found : Env → Found
method_found e = cond (nat_eq (length e.code.bytes) 0) (faulty 0) (typed_from e (first_frame e))
