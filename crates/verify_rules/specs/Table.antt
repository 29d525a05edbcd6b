-- How a StackMapTable is written and read (JVM Specification SE 8, 4.7.4).
use Rattle.std.specs.Prelude.{◌≡◌, ℕ, ◌+◌, ◌-◌, ◌≤◌, List, [], ◌++◌, length, ◌⊎◌, Option, Some, None, nat_le, nat_lt, cond, ◌==◌, if◌then◌else◌}
use Rattle.std.specs.List.{flat_map, AllByRecursion}
use Rattle.jsa_base.specs.Reading.{◌>>=◌, Read, u1_at, u2_at, times, made, counted_at, all_read}
use Rattle.jsa_base.specs.Spelling.{u1, u2, counted, Fits2, FitsCounted}
use Rattle.verify_rules.specs.declared.written.WrittenType.{WrittenType}
use Rattle.verify_rules.specs.declared.written.WrittenType.TheVariants.{Top, Integer, Float, Double, Long, Null, UninitializedThis, Object, Uninitialized}
use Rattle.verify_rules.specs.declared.written.Change.{Change}
use Rattle.verify_rules.specs.declared.written.Change.TheVariants.{Same, SameItem, Chop, Append, Full}
use Rattle.verify_rules.specs.declared.written.WrittenFrame.{WrittenFrame}

-- ---- how it is written

-- a type: its tag, and the index of a class or the place of a `new`
abbrev pub type_text : WrittenType → List ℕ
type_text Top = u1 0
type_text Integer = u1 1
type_text Float = u1 2
type_text Double = u1 3
type_text Long = u1 4
type_text Null = u1 5
type_text UninitializedThis = u1 6
type_text (Object class) = u1 7 ++ u2 class
type_text (Uninitialized place) = u1 8 ++ u2 place

abbrev pub types_text : List WrittenType → List ℕ
types_text types = flat_map type_text types

-- What stands behind the kind: the delta where it isn't in the kind, and the types.
abbrev pub change_text : ℕ → ℕ → Change → List ℕ
change_text kind delta Same = cond (nat_le kind 63) [] (u2 delta)
change_text kind delta (SameItem item) = cond (nat_le kind 127) (type_text item) (u2 delta ++ type_text item)
change_text kind delta (Chop count) = u2 delta
change_text kind delta (Append types) = u2 delta ++ types_text types
change_text kind delta (Full locals stack) = u2 delta ++ (counted type_text locals ++ counted type_text stack)

abbrev pub frame_text : WrittenFrame → List ℕ
frame_text f = u1 f.kind ++ change_text f.kind f.delta f.change

-- the content of a StackMapTable
abbrev pub table_text : List WrittenFrame → List ℕ
table_text frames = counted frame_text frames

-- ---- what can be written

abbrev pub FitsType : WrittenType → Type 0
FitsType Top = Unit {0}
FitsType Integer = Unit {0}
FitsType Float = Unit {0}
FitsType Double = Unit {0}
FitsType Long = Unit {0}
FitsType Null = Unit {0}
FitsType UninitializedThis = Unit {0}
FitsType (Object class) = Fits2 class
FitsType (Uninitialized place) = Fits2 place

-- The kind says what the frame changes: 0 to 63 the same locals and no stack; 64 to 127 the same with one item; 247 this with
-- a written delta; 248 to 250 one to three locals fewer; 251 the same with a written delta; 252 to 254 one to three locals
-- more; 255 all written. No other kind is one.
abbrev pub FitsChange : ℕ → ℕ → Change → Type 0
FitsChange kind delta Same = ((kind ≤ 63) × (delta ≡ kind)) ⊎ ((kind ≡ 251) × Fits2 delta)
FitsChange kind delta (SameItem item) = (((64 ≤ kind) × (kind ≤ 127) × (delta + 64 ≡ kind)) ⊎ ((kind ≡ 247) × Fits2 delta)) × FitsType item
FitsChange kind delta (Chop count) = ((1 ≤ count) × (count ≤ 3) × (kind + count ≡ 251)) × Fits2 delta
FitsChange kind delta (Append types) = ((1 ≤ length types) × (length types ≤ 3) × (kind ≡ 251 + length types)) × Fits2 delta × AllByRecursion FitsType types
FitsChange kind delta (Full locals stack) = (kind ≡ 255) × Fits2 delta × FitsCounted FitsType locals × FitsCounted FitsType stack

abbrev pub FitsFrame : WrittenFrame → Type 0
FitsFrame f = FitsChange f.kind f.delta f.change

abbrev pub FitsTable : List WrittenFrame → Type 0
FitsTable frames = FitsCounted FitsFrame frames

-- ---- how it is read

unfoldable pub type_by : ℕ → List ℕ → Read WrittenType
type_by tag bytes =
    if tag == 0 then Some (Top, bytes)
    else if tag == 1 then Some (Integer, bytes)
    else if tag == 2 then Some (Float, bytes)
    else if tag == 3 then Some (Double, bytes)
    else if tag == 4 then Some (Long, bytes)
    else if tag == 5 then Some (Null, bytes)
    else if tag == 6 then Some (UninitializedThis, bytes)
    else if tag == 7 then made Object u2_at bytes
    else if tag == 8 then made Uninitialized u2_at bytes
    else None

unfoldable pub type_at : List ℕ → Read WrittenType
type_at bytes = do
  tag ← u1_at bytes
  type_by tag.0 tag.1

unfoldable pub item_at : List ℕ → Read Change
item_at bytes = made SameItem type_at bytes

unfoldable pub append_at : ℕ → List ℕ → Read Change
append_at count bytes = made Append (times type_at count) bytes

unfoldable pub full_at : List ℕ → Read Change
full_at bytes = do
  locals ← counted_at type_at bytes
  stack ← counted_at type_at locals.1
  Some (Full locals.0 stack.0, stack.1)

-- what stands behind a written delta
unfoldable pub far_at : ℕ → List ℕ → Read Change
far_at kind bytes =
    if kind == 247 then item_at bytes
    else if nat_lt kind 251 then Some (Chop (251 - kind), bytes)
    else if kind == 251 then Some (Same, bytes)
    else if kind == 255 then full_at bytes
    else append_at (kind - 251) bytes

abbrev pub changed : ℕ → ℕ → Read Change → Read WrittenFrame
changed kind delta read = read >>= λ c. Some (record { kind = kind; delta = delta; change = c.0 }, c.1)

unfoldable pub frame_by : ℕ → List ℕ → Read WrittenFrame
frame_by kind bytes =
    if nat_lt kind 64 then Some (record { kind = kind; delta = kind; change = Same }, bytes)
    else if nat_lt kind 128 then changed kind (kind - 64) (item_at bytes)
    else if nat_lt kind 247 then None
    else (u2_at bytes >>= λ d. changed kind d.0 (far_at kind d.1))

unfoldable pub frame_at : List ℕ → Read WrittenFrame
frame_at bytes = do
  kind ← u1_at bytes
  frame_by kind.0 kind.1

-- all frames, with nothing behind them
unfoldable pub table_of : List ℕ → Option (List WrittenFrame)
table_of bytes = all_read (counted_at frame_at bytes)
