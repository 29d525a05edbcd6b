-- Where an instruction leads: its targets, its handlers, and the instruction behind it (JVM Specification SE 8, 4.10.1.6).
use Rattle.std.specs.Prelude.{ℕ, ℤ, pos, negsuc, ◌+ℤ◌, ◌+◌, ◌*◌, Bool, true, false, cond, ◌&&◌, List, [], ◌∷◌, Option, Some, None, codes, length, nat_le, nat_lt, nat_eq}
use Rattle.std.specs.Int.{w32, cast_signed}
use Rattle.jsa_ops.specs.Instruction.{Instruction, Plain, Byte, Short, Constant, Local, Iinc, Wide, WideIinc, Branch, Member, Interface, Dynamic, ClassOf, NewArray, MultiArray, TableSwitch, LookupSwitch}
use Rattle.class_tree.specs.declared.constant_pool.PoolEntry.{PoolEntry}
use Rattle.class_tree.specs.declared.tree.Handler.{Handler}
use Rattle.class_tree.specs.WellFormed.{class_name}
use Rattle.verify_rules.specs.declared.types.Frame.{Frame}
use Rattle.verify_rules.specs.Places.{Placed}
use Rattle.verify_rules.specs.declared.cause.Cause.TheVariants.{Written, NoFrame, End}
use Rattle.verify_rules.specs.Asking.{Asking, Check, ◌>>=◌, gives, refused, fine, each, and_then}
use Rattle.verify_rules.specs.Fits.{frame_fits, caught}
use Rattle.verify_rules.specs.Env.{Env, pool_of}
use Rattle.verify_rules.specs.Rows.{row}

-- declared frames with their places
abbrev pub Frames : Type 0
Frames = List (ℕ × Frame)

-- the frame that is declared at a place
unfoldable pub declared_at : Frames → ℕ → Option Frame
declared_at [] place = None
declared_at (d ∷ frames) place = cond (nat_eq d.0 place) (Some d.1) (declared_at frames place)

-- ---- targets

-- the distances of a tableswitch
unfoldable pub distances : List ℕ → List ℤ
distances (a ∷ b ∷ c ∷ d ∷ more) = cast_signed w32 (16777216 * a + 65536 * b + 256 * c + d) ∷ distances more
distances _ = []

-- the distances of a lookupswitch: the second four bytes of each eight
unfoldable pub pair_distances : List ℕ → List ℤ
pair_distances (k ∷ l ∷ m ∷ n ∷ a ∷ b ∷ c ∷ d ∷ more) = cast_signed w32 (16777216 * a + 65536 * b + 256 * c + d) ∷ pair_distances more
pair_distances _ = []

-- How far the targets of an instruction are from it: a switch's default first.
abbrev pub target_distances : Instruction → List ℤ
target_distances (Plain op) = []
target_distances (Byte op v) = []
target_distances (Short op v) = []
target_distances (Constant op k) = []
target_distances (Local op k) = []
target_distances (Iinc op k v) = []
target_distances (Wide op code k) = []
target_distances (WideIinc op k v) = []
target_distances (Branch op d) = d ∷ []
target_distances (Member op k) = []
target_distances (Interface op k count last) = []
target_distances (Dynamic op k first second) = []
target_distances (ClassOf op k) = []
target_distances (NewArray op code) = []
target_distances (MultiArray op k count) = []
target_distances (TableSwitch op other low high bytes) = other ∷ distances bytes
target_distances (LookupSwitch op other pairs) = other ∷ pair_distances pairs

abbrev pub place_of : ℤ → Option ℕ
place_of (pos n) = Some n
place_of (negsuc n) = None

abbrev pub declared_if : Frames → Option ℕ → Option Frame
declared_if frames None = None
declared_if frames (Some place) = declared_at frames place

abbrev pub fits_some : Option Frame → Frame → Check
fits_some None f = refused NoFrame
fits_some (Some g) f = frame_fits f g

-- The frame fits that of the target. A target that is no instruction's start has none.
unfoldable pub target_fits : Frames → ℕ → Frame → ℤ → Check
target_fits frames place f distance = fits_some (declared_if frames (place_of (pos place +ℤ distance))) f

-- ---- handlers

-- the range of a handler holds a place
abbrev pub holds : Handler → ℕ → Bool
holds h place = nat_le h.start place && nat_lt place h.end

-- what a handler catches: all throwables where it names no class
abbrev pub caught_class : List PoolEntry → Handler → Option (List ℕ)
caught_class pool h = cond (nat_eq h.catch 0) (Some (codes "java/lang/Throwable")) (class_name pool h.catch)

abbrev pub caught_fits : Option (List ℕ) → Option Frame → Frame → Check
caught_fits None to f = refused Written
caught_fits (Some class) to f = fits_some to (caught class f)

-- The frame before an instruction of its range, with the throwable alone on the stack, fits the handler's frame.
unfoldable pub handled : Env → Frames → ℕ → Frame → Handler → Check
handled e frames place f h = cond (holds h place) (caught_fits (caught_class (pool_of e) h) (declared_at frames h.handler) f) fine

-- ---- the instruction behind

-- goto, goto_w, a switch, a return and athrow don't go on to the instruction behind them
abbrev pub falls_through : Instruction → Bool
falls_through (Plain op) = cond (nat_le 0xac op && nat_le op 0xb1) false (cond (nat_eq op 0xbf) false true)
falls_through (Byte op v) = true
falls_through (Short op v) = true
falls_through (Constant op k) = true
falls_through (Local op k) = true
falls_through (Iinc op k v) = true
falls_through (Wide op code k) = true
falls_through (WideIinc op k v) = true
falls_through (Branch op d) = cond (nat_eq op 0xa7) false (cond (nat_eq op 0xc8) false true)
falls_through (Member op k) = true
falls_through (Interface op k count last) = true
falls_through (Dynamic op k first second) = true
falls_through (ClassOf op k) = true
falls_through (NewArray op code) = true
falls_through (MultiArray op k count) = true
falls_through (TableSwitch op other low high bytes) = false
falls_through (LookupSwitch op other pairs) = false

abbrev pub fits_if_declared : Option Frame → Frame → Check
fits_if_declared None f = fine
fits_if_declared (Some g) f = frame_fits f g

abbrev pub is_declared : Option Frame → Check
is_declared None = refused NoFrame
is_declared (Some g) = fine

-- Behind an instruction that goes on, one stands, and the frame fits what is declared there. Behind another one, what stands there has a frame.
unfoldable pub flows : Frames → ℕ → Bool → ℕ → Frame → Check
flows frames size true next f = cond (nat_lt next size) (fits_if_declared (declared_at frames next) f) (refused End)
flows frames size false next f = cond (nat_lt next size) (is_declared (declared_at frames next)) fine

-- ---- one instruction

-- Where it leads, from the frame before it and the frame after it.
unfoldable pub leads : Env → Frames → Placed → Frame → Frame → Check
leads e frames s before after =
    and_then (each (target_fits frames s.place after) (target_distances s.instr))
    (and_then (each (handled e frames s.place before) e.code.handlers)
    (flows frames (length e.code.bytes) (falls_through s.instr) s.next after))

-- An instruction in the frame before it, with the frame after it.
unfoldable pub step : Env → Frames → Placed → Frame → Asking Frame
step e frames s f = row e s.place s.instr f >>= λ after. and_then (leads e frames s f after) (gives after)
