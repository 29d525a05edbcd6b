-- The instructions that operations stand for.
use Rattle.std.specs.Prelude.{ℕ, ℤ, pos, neg_ℤ, ◌+ℤ◌, ◌-ℤ◌, ◌-◌, int_le, int_lt, List, [], ◌∷◌, ◌++◌, length, Bool, ◌&&◌, nat_lt, Option, Some, None, if◌then◌else◌}
use Rattle.std.specs.Option.{option_map}
use Rattle.jsa_base.specs.Reading.{◌>>=◌}
use Rattle.jsa_base.specs.Spelling.{s4}
use Rattle.jsa_ops.specs.Instruction.{Instruction, Plain, Byte, Short, Constant, Local, Iinc, Wide, WideIinc, Branch, Member, Interface, ClassOf, NewArray, MultiArray, TableSwitch, LookupSwitch}
use Rattle.jsa_ops.specs.Spelling.{text_of}
use Rattle.class_tree.specs.declared.constant_pool.PoolEntry.{PoolEntry}
use Rattle.asm_text.specs.declared.statement.MemberKind.TheVariants as kinds
use Rattle.asm_text.specs.declared.statement.SwitchCase.{SwitchCase}
use Rattle.asm_text.specs.declared.statement.Operation.{Operation}
use Rattle.asm_text.specs.declared.statement.Operation.TheVariants as operation
use Rattle.pool_builder.specs.Needs.{class_needed}
use Rattle.class_asm.specs.Needs.{constant_needed, member_needed}
use Rattle.class_asm.specs.Labels.{Label, place_of, is_near, is_far, fits_byte}

-- ---- distances

abbrev pub is_reached : ℕ → ℤ → Bool
is_reached half d = int_le (neg_ℤ (pos half)) d && int_lt d (pos half)

-- The distance from a place to a label, where it has a place and isn't too far: half is half of how many numbers the field
-- of the distance holds.
unfoldable pub distance_to : ℕ → List Label → ℕ → List ℕ → Option ℤ
distance_to half labels from name = do
  to ← place_of labels name
  if is_reached half (pos to -ℤ pos from) then Some (pos to -ℤ pos from) else None

-- two bytes, or four
abbrev pub reach : ℕ → ℕ
reach op = if is_far op then 0x8000_0000 else 0x8000

abbrev pub far_to : List Label → ℕ → List ℕ → Option ℤ
far_to labels from name = distance_to 0x8000_0000 labels from name

-- ---- switches (JVMS 6.5, tableswitch and lookupswitch)

-- the bytes of the distances to labels
unfoldable pub distances_to : List Label → ℕ → List (List ℕ) → Option (List ℕ)
distances_to labels from [] = Some []
distances_to labels from (name ∷ names) = do
  first ← far_to labels from name
  others ← distances_to labels from names
  Some (s4 first ++ others)

-- a text with a key and the distance to its label behind it
abbrev pub with_case : List Label → ℕ → SwitchCase → List ℕ → Option (List ℕ)
with_case labels from c text = far_to labels from c.label >>= λ d. Some (text ++ (s4 c.key ++ s4 d))

-- the bytes of the pairs of a key and a distance
unfoldable pub pairs_to : List Label → ℕ → List SwitchCase → Option (List ℕ)
pairs_to labels from [] = Some []
pairs_to labels from (c ∷ cases) = do
  first ← far_to labels from c.label
  others ← pairs_to labels from cases
  Some ((s4 c.key ++ s4 first) ++ others)

-- the highest key of a tableswitch with so many labels, where it fits four bytes
abbrev pub high_of : ℤ → ℕ → Option ℤ
high_of low n = if int_lt (low +ℤ pos (n - 1)) (pos 0x8000_0000) then Some (low +ℤ pos (n - 1)) else None

abbrev pub table_of : List Label → ℕ → ℕ → ℤ → List ℕ → List (List ℕ) → Option Instruction
table_of labels place op low other targets = do
  high ← high_of low (length targets)
  d ← far_to labels place other
  distances ← distances_to labels place targets
  Some (TableSwitch op d low high distances)

abbrev pub lookup_of : List Label → ℕ → ℕ → List ℕ → List SwitchCase → Option Instruction
lookup_of labels place op other cases = do
  d ← far_to labels place other
  pairs ← pairs_to labels place cases
  Some (LookupSwitch op d pairs)

-- ---- all operations

abbrev pub Resolved : Type 0
Resolved = Option (Instruction × List PoolEntry)

-- an instruction of the index of what it needs
abbrev pub of_index : (ℕ → Instruction) → Option (ℕ × List PoolEntry) → Resolved
of_index make need = need >>= λ i. Some (make i.0, i.1)

-- An index behind ldc has one byte.
abbrev pub of_constant : ℕ → Option (ℕ × List PoolEntry) → Resolved
of_constant op need = need >>= λ i. if is_near op && nat_lt 255 i.0 then None else Some (Constant op i.0, i.1)

-- an instruction that needs nothing of the pool
abbrev pub alone : List PoolEntry → Option Instruction → Resolved
alone pool i = option_map (λ i. (i, pool)) i

-- wide stands before a local above 255.
abbrev pub local_of : ℕ → ℕ → Instruction
local_of op n = if nat_lt n 256 then Local op n else Wide 0xc4 op n

-- wide stands before a local above 255, and before an amount that isn't that of a byte.
abbrev pub iinc_of : ℕ → ℕ → ℤ → Instruction
iinc_of op n by = if nat_lt n 256 && fits_byte by then Iinc op n by else WideIinc 0xc4 n by

-- The instruction that an operation at a place stands for, with the pool after what it needs. None where a label has no
-- place, a distance doesn't fit its field, or an index doesn't.
unfoldable pub resolved : List Label → ℕ → Operation → List PoolEntry → Resolved
resolved labels place (operation.Plain op) pool = Some (Plain op, pool)
resolved labels place (operation.Byte op n) pool = Some (Byte op n, pool)
resolved labels place (operation.Short op n) pool = Some (Short op n, pool)
resolved labels place (operation.Load op k) pool = of_constant op (constant_needed k pool)
resolved labels place (operation.Local op n) pool = Some (local_of op n, pool)
resolved labels place (operation.Iinc op n by) pool = Some (iinc_of op n by, pool)
resolved labels place (operation.Branch op label) pool = alone pool (option_map (Branch op) (distance_to (reach op) labels place label))
resolved labels place (operation.Member op kind m) pool = of_index (Member op) (member_needed kind m pool)
resolved labels place (operation.Interface op m slots) pool = of_index (λ i. Interface op i slots 0) (member_needed kinds.InterfaceMethod m pool)
resolved labels place (operation.ClassOf op name) pool = of_index (ClassOf op) (class_needed name pool)
resolved labels place (operation.NewArray op code) pool = Some (NewArray op code, pool)
resolved labels place (operation.MultiArray op name dimensions) pool = of_index (λ i. MultiArray op i dimensions) (class_needed name pool)
resolved labels place (operation.TableSwitch op low other targets) pool = alone pool (table_of labels place op low other targets)
resolved labels place (operation.LookupSwitch op other cases) pool = alone pool (lookup_of labels place op other cases)

-- the bytes of an instruction at a place
abbrev pub written : ℕ → Resolved → Option (List ℕ × List PoolEntry)
written place i = i >>= λ x. Some (text_of place x.0, x.1)

-- The bytes of an operation at a place, with the pool after what it needs.
abbrev pub emitted : List Label → ℕ → Operation → List PoolEntry → Option (List ℕ × List PoolEntry)
emitted labels place o pool = written place (resolved labels place o pool)
