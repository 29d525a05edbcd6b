-- Stack map frames (JVMS 4.7.4), each written as a full frame.
use Rattle.std.specs.Prelude.{ℕ, ◌-◌, List, [], ◌∷◌, ◌++◌, length, nat_lt, Option, Some, None, if◌then◌else◌}
use Rattle.jsa_base.specs.Reading.{◌>>=◌}
use Rattle.jsa_base.specs.Spelling.{u1, u2}
use Rattle.class_tree.specs.declared.constant_pool.PoolEntry.{PoolEntry}
use Rattle.asm_text.specs.declared.statement.FrameType.{FrameType}
use Rattle.asm_text.specs.declared.statement.FrameType.TheVariants as frame
use Rattle.pool_builder.specs.Needs.{class_needed}
use Rattle.class_asm.specs.Labels.{Label, place_of}

-- a place that fits two bytes
abbrev pub short_place : List Label → List ℕ → Option ℕ
short_place labels name = do
  place ← place_of labels name
  if nat_lt 65535 place then None else Some place

-- The text of a verification type, its tag first, with the pool after the class that it names.
unfoldable pub type_text : List Label → FrameType → List PoolEntry → Option (List ℕ × List PoolEntry)
type_text labels frame.Top pool = Some (u1 0, pool)
type_text labels frame.Integer pool = Some (u1 1, pool)
type_text labels frame.Float pool = Some (u1 2, pool)
type_text labels frame.Double pool = Some (u1 3, pool)
type_text labels frame.Long pool = Some (u1 4, pool)
type_text labels frame.Null pool = Some (u1 5, pool)
type_text labels frame.UninitializedThis pool = Some (u1 6, pool)
type_text labels (frame.Object name) pool = class_needed name pool >>= λ class. Some (u1 7 ++ u2 class.0, class.1)
type_text labels (frame.Uninitialized label) pool = short_place labels label >>= λ place. Some (u1 8 ++ u2 place, pool)

unfoldable pub types_text : List Label → List FrameType → List PoolEntry → Option (List ℕ × List PoolEntry)
types_text labels [] pool = Some ([], pool)
types_text labels (t ∷ types) pool = do
  first ← type_text labels t pool
  others ← types_text labels types first.1
  Some (first.0 ++ others.0, others.1)

-- types behind their number, which has two bytes
unfoldable pub counted_types : List Label → List FrameType → List PoolEntry → Option (List ℕ × List PoolEntry)
counted_types labels types pool = if nat_lt 65535 (length types) then None else (types_text labels types pool >>= λ text. Some (u2 (length types) ++ text.0, text.1))

-- How far behind the frame before it a frame stands, less one; of the first frame its place. Places ascend.
abbrev pub delta : Option ℕ → ℕ → Option ℕ
delta None place = Some place
delta (Some before) place = if nat_lt before place then Some (place - before - 1) else None

-- a full frame
unfoldable pub frame_text : List Label → ℕ → List FrameType → List FrameType → List PoolEntry → Option (List ℕ × List PoolEntry)
frame_text labels offset locals stack pool = do
  l ← counted_types labels locals pool
  s ← counted_types labels stack l.1
  Some (u1 255 ++ (u2 offset ++ (l.0 ++ s.0)), s.1)
