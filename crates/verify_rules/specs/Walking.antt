-- What the steps of a walk over a method's instructions give.
use Rattle.std.specs.Prelude.{◌≡◌, ℕ, ℤ, Bool, ◌+◌, ◌*◌, cond, List, ◌∷◌, ◌++◌, length, drop, Option, Some, None, Result, Ok, Err, slice_get, nat_eq}
use Rattle.std.specs.List.{list_any}
use Rattle.std.specs.Option.{option_map}
use Rattle.std.specs.Int.{w32, cast_signed}
use Rattle.class_tree.specs.declared.tree.Handler.{Handler}
use Rattle.class_tree.specs.Flags.{is_final}
use Rattle.verify_rules.specs.declared.ask.Ask.{Ask}
use Rattle.verify_rules.specs.declared.types.Frame.{Frame}
use Rattle.verify_rules.specs.Places.{Placed}
use Rattle.verify_rules.specs.Asking.{Check, fine, each, and_then}
use Rattle.verify_rules.specs.Superclasses.{Member}
use Rattle.verify_rules.specs.Env.{Env}
use Rattle.verify_rules.specs.Flow.{Frames, declared_at, holds, handled, target_fits, target_distances, flows, falls_through}
use Rattle.verify_rules.specs.Methods.{Found, are_placed}

-- ---- declared frames by their places

abbrev pub joined : Option (Option ℕ) → Option ℕ
joined None = None
joined (Some number) = number

-- the number that is kept for a place
abbrev pub number_at : List (Option ℕ) → ℕ → Option ℕ
number_at numbers place = joined (slice_get numbers place)

-- the frame of a number
abbrev pub frame_number : Frames → Option ℕ → Option Frame
frame_number frames None = None
frame_number frames (Some k) = option_map (λ (d : ℕ × Frame). d.1) (slice_get frames k)

-- Each place has the number of the frame that is declared there, of those from a number on.
pub record Numbers (frames : Frames) (from : ℕ) (numbers : List (Option ℕ)) : Type 0 where
  pub finds : (place : ℕ) → frame_number frames (number_at numbers place) ≡ declared_at (drop from frames) place

-- What a number at a place makes of the numbers.
abbrev pub Puts : ℕ → ℕ → List (Option ℕ) → List (Option ℕ) → Type 0
Puts place number old new = (at : ℕ) → number_at new at ≡ cond (nat_eq place at) (Some number) (number_at old at)

abbrev pub SameNumbers : List (Option ℕ) → List (Option ℕ) → Type 0
SameNumbers old new = (at : ℕ) → number_at new at ≡ number_at old at

-- ---- the bytes of a switch

-- the distance at the front, and the bytes behind it
abbrev pub first_distance : List ℕ → Option (ℤ × List ℕ)
first_distance (a ∷ b ∷ c ∷ d ∷ more) = Some (cast_signed w32 (16777216 * a + 65536 * b + 256 * c + d), more)
first_distance _ = None

-- the distance of the pair at the front, and the bytes behind it
abbrev pub first_pair : List ℕ → Option (ℤ × List ℕ)
first_pair (k ∷ l ∷ m ∷ n ∷ a ∷ b ∷ c ∷ d ∷ more) = Some (cast_signed w32 (16777216 * a + 65536 * b + 256 * c + d), more)
first_pair _ = None

-- ---- one instruction

-- the frame before an instruction, where the range of some handler holds it
abbrev pub kept_before : Env → ℕ → Frame → Option Frame
kept_before e place f = cond (list_any (λ (h : Handler). holds h place) e.code.handlers) (Some f) None

abbrev pub handled_from : Env → Frames → ℕ → Option Frame → Check
handled_from e frames place None = fine
handled_from e frames place (Some f) = each (handled e frames place f) e.code.handlers

-- where an instruction leads, from the frame that was kept
unfoldable pub leads_from : Env → Frames → Placed → Option Frame → Frame → Check
leads_from e frames s before after =
    and_then (each (target_fits frames s.place after) (target_distances s.instr))
    (and_then (handled_from e frames s.place before)
    (flows frames (length e.code.bytes) (falls_through s.instr) s.next after))

-- ---- the method

-- the frames of a code, where they and its handlers stand at instructions
abbrev pub frames_placed : List ℕ → List Handler → Frames → Option Frames
frames_placed code handlers frames = cond (are_placed code handlers frames) (Some frames) None

abbrev pub is_final_method : Member → Bool
is_final_method upper = is_final upper.flags

-- ---- what a walk did

-- The questions were appended, and the answer is the place of the fault, if there is one.
abbrev pub Finds : {E : Type 0} → Found → List Ask → List Ask → Result (Option ℕ) E → Type 0
Finds found old new (Ok fault) = (new ≡ old ++ found.asks) × (fault ≡ found.fault)
Finds found old new (Err e) = Unit {0}
