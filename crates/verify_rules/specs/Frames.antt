-- The frames that a StackMapTable declares (JVM Specification SE 8, 4.7.4, 4.10.1.4).
use Rattle.std.specs.Prelude.{◌≡◌, ℕ, ◌+◌, ◌-◌, Bool, true, false, cond, ◌&&◌, ◌↔◌, List, [], ◌∷◌, ◌++◌, length, take, replicate, Option, Some, None, Result, Ok, Err, nat_le, if◌then◌else◌}
use Rattle.std.specs.List.{flat_map, list_any}
use Rattle.jsa_base.specs.Reading.{◌>>=◌}
use Rattle.class_tree.specs.declared.constant_pool.PoolEntry.{PoolEntry}
use Rattle.class_tree.specs.declared.tree.CodeTree.{CodeTree}
use Rattle.class_tree.specs.WellFormed.{class_name}
use Rattle.verify_rules.specs.declared.types.VType.{VType}
use Rattle.verify_rules.specs.declared.types.VType.TheVariants as types
use Rattle.verify_rules.specs.declared.types.Frame.{Frame}
use Rattle.verify_rules.specs.declared.fault.VerifyFault.{VerifyFault}
use Rattle.verify_rules.specs.declared.fault.VerifyFault.TheVariants.{Bad, Memory}
use Rattle.verify_rules.specs.declared.written.WrittenType.{WrittenType}
use Rattle.verify_rules.specs.declared.written.WrittenType.TheVariants as written
use Rattle.verify_rules.specs.declared.written.Change.{Change}
use Rattle.verify_rules.specs.declared.written.Change.TheVariants.{Same, SameItem, Chop, Append, Full}
use Rattle.verify_rules.specs.declared.written.WrittenFrame.{WrittenFrame}
use Rattle.verify_rules.specs.Types.{top_first, units, is_top, is_uninitialized_this}
use Rattle.verify_rules.specs.Places.{is_new}
use Rattle.verify_rules.specs.Table.{table_of, table_text, FitsTable}

-- ---- types

abbrev pub object_of : Option (List ℕ) → Option VType
object_of None = None
object_of (Some name) = Some (types.Object name)

-- The type that is written: an object names a Class of the pool, and an uninitialized one the place of a `new`.
abbrev pub type_of : List PoolEntry → List ℕ → WrittenType → Option VType
type_of pool code written.Top = Some types.Top
type_of pool code written.Integer = Some types.Integer
type_of pool code written.Float = Some types.Float
type_of pool code written.Double = Some types.Double
type_of pool code written.Long = Some types.Long
type_of pool code written.Null = Some types.Null
type_of pool code written.UninitializedThis = Some types.UninitializedThis
type_of pool code (written.Object class) = object_of (class_name pool class)
type_of pool code (written.Uninitialized place) = if is_new code place then Some (types.Uninitialized place) else None

unfoldable pub types_of : List PoolEntry → List ℕ → List WrittenType → Option (List VType)
types_of pool code [] = Some []
types_of pool code (t ∷ ts) = do
  first ← type_of pool code t
  others ← types_of pool code ts
  Some (first ∷ others)

-- ---- locals by slot, and as they are written

-- A Long and a Double take two slots, the second of which is Top.
abbrev pub slots : VType → List VType
slots types.Top = types.Top ∷ []
slots types.Integer = types.Integer ∷ []
slots types.Float = types.Float ∷ []
slots types.Double = types.Double ∷ types.Top ∷ []
slots types.Long = types.Long ∷ types.Top ∷ []
slots types.Null = types.Null ∷ []
slots types.UninitializedThis = types.UninitializedThis ∷ []
slots (types.Object name) = types.Object name ∷ []
slots (types.Uninitialized place) = types.Uninitialized place ∷ []

-- all slots of a method's locals: Top behind those that hold something
abbrev pub filled : ℕ → List VType → List VType
filled room locals = flat_map slots locals ++ replicate (room - units locals) types.Top

abbrev pub is_wide : VType → Bool
is_wide types.Top = false
is_wide types.Integer = false
is_wide types.Float = false
is_wide types.Double = true
is_wide types.Long = true
is_wide types.Null = false
is_wide types.UninitializedThis = false
is_wide (types.Object name) = false
is_wide (types.Uninitialized place) = false

-- The types of slots, without the second slots. `skip` says that the slot at the front is one.
unfoldable pub without_seconds : Bool → List VType → List VType
without_seconds skip [] = []
without_seconds true (t ∷ ts) = without_seconds false ts
without_seconds false (t ∷ ts) = t ∷ without_seconds (is_wide t) ts

-- a type in front of others, unless it is Top and there are none
abbrev pub before_written : VType → List VType → List VType
before_written t [] = cond (is_top t) [] (t ∷ [])
before_written t (u ∷ us) = t ∷ u ∷ us

-- without Tops at the end
unfoldable pub without_tail : List VType → List VType
without_tail [] = []
without_tail (t ∷ ts) = before_written t (without_tail ts)

-- what the locals of a frame would be written as: without second slots and without unused ones at the end
abbrev pub written_locals : List VType → List VType
written_locals slots = without_tail (without_seconds false slots)

-- ---- a frame after the one before it

-- locals and stack as they are written, the deepest of the stack first
pub record Shown : Type 0 where
  pub locals : List VType
  pub stack : List VType

abbrev pub without_last : ℕ → List VType → Option (List VType)
without_last count locals = cond (nat_le count (length locals)) (Some (take (length locals - count) locals)) None

-- what a frame changes of the locals before it
abbrev pub shown_after : List PoolEntry → List ℕ → List VType → Change → Option Shown
shown_after pool code locals Same = Some (record { locals = locals; stack = [] })
shown_after pool code locals (SameItem item) = type_of pool code item >>= λ t. Some (record { locals = locals; stack = t ∷ [] })
shown_after pool code locals (Chop count) = without_last count locals >>= λ left. Some (record { locals = left; stack = [] })
shown_after pool code locals (Append more) = types_of pool code more >>= λ ts. Some (record { locals = locals ++ ts; stack = [] })
shown_after pool code locals (Full all items) = types_of pool code all >>= λ ts. types_of pool code items >>= λ us. Some (record { locals = ts; stack = us })

-- within max_locals and max_stack
abbrev pub is_within : CodeTree → Shown → Bool
is_within c s = nat_le (units s.locals) c.locals && nat_le (units s.stack) c.stack

abbrev pub frame_of : CodeTree → Shown → Option Frame
frame_of c s = if is_within c s then Some (record { locals = filled c.locals s.locals; stack = top_first s.stack; this_uninit = list_any is_uninitialized_this s.locals }) else None

-- the first frame stands at its delta, a later one that far behind the frame before it and one more
abbrev pub place_after : Option ℕ → ℕ → ℕ
place_after None delta = delta
place_after (Some before) delta = before + delta + 1

-- The frames with their places, from one whose predecessor stands at a place, if it has one, and has these locals.
unfoldable pub frames_from : List PoolEntry → CodeTree → Option ℕ → List VType → List WrittenFrame → Option (List (ℕ × Frame))
frames_from pool c before locals [] = Some []
frames_from pool c before locals (w ∷ ws) = do
  s ← shown_after pool c.bytes locals w.change
  f ← frame_of c s
  others ← frames_from pool c (Some (place_after before w.delta)) s.locals ws
  Some ((place_after before w.delta, f) ∷ others)

-- a code without a StackMapTable declares none
abbrev pub written_in : Option (List ℕ) → Option (List WrittenFrame)
written_in None = Some []
written_in (Some map) = table_of map

-- The frames of a code whose method begins with the first one. None where the table isn't spelled, where one of its types
-- names no class or no `new`, or where a frame isn't within the code's locals and stack.
unfoldable pub frames_of : List PoolEntry → CodeTree → Frame → Option (List (ℕ × Frame))
frames_of pool c first = written_in c.map >>= λ ws. frames_from pool c None (written_locals first.locals) ws

-- ---- what calls answer

-- Bad exactly where there is no such list.
abbrev pub Answers : {A : Type 0} → Result A VerifyFault → Option A → Type 0
Answers (Ok x) found = found ≡ Some x
Answers (Err Bad) found = found ≡ None
Answers (Err Memory) found = Unit {0}

-- A table is read exactly where the bytes are its text.
abbrev pub TablesAreSpelled : List ℕ → Type 0
TablesAreSpelled bytes = (frames : List WrittenFrame) → (table_of bytes ≡ Some frames) ↔ ((bytes ≡ table_text frames) × FitsTable frames)
