-- The bytes of each instruction (JVM Specification SE 8, 6.5), the high byte of a number first.
use Rattle.std.specs.Prelude.{◌≡◌, ℕ, ℤ, ◌+◌, ◌-◌, ◌*◌, ◌/◌, ◌%◌, ◌<◌, ◌^◌, ◌⊎◌, ◌-ℤ◌, List, [], ◌∷◌, ◌++◌, length, map, replicate, Bool, true, false, ◌&&◌, Option, Some, int_lt, unsigned_abs, FitsSigned}
use Rattle.std.specs.Int.{w8, w16, w32, cast_signed, cast_unsigned}
use Rattle.jsa_base.specs.Reading.{IsBytes}
use Rattle.jsa_base.specs.Spelling.{u1, u2, u4, s1, s2, s4}
use Rattle.jsa_ops.specs.declared.form.Form.{Form}
use Rattle.jsa_ops.specs.declared.form.Form.TheVariants as forms
use Rattle.jsa_ops.specs.Opcodes.{form_of}
use Rattle.jsa_ops.specs.Instruction.{Instruction, Plain, Byte, Short, Constant, Local, Iinc, Wide, WideIinc, Branch, Member, Interface, Dynamic, ClassOf, NewArray, MultiArray, TableSwitch, LookupSwitch}

-- The operands of a switch begin at the next multiple of four from the start of the code.
abbrev pub padding : ℕ → ℕ
padding pc = 3 - pc % 4

-- how many numbers there are from low to high
abbrev pub span : ℤ → ℤ → ℕ
span low high = unsigned_abs (high -ℤ low) + 1

-- a signed number in four bytes
abbrev pub word : ℕ → ℕ → ℕ → ℕ → ℤ
word a b c d = cast_signed w32 (16777216 * a + 65536 * b + 256 * c + d)

-- the distances of a tableswitch, in the order of their keys
abbrev pub distances : List ℕ → List ℤ
distances (a ∷ b ∷ c ∷ d ∷ bytes) = word a b c d ∷ distances bytes
distances _ = []

-- the pairs of a lookupswitch, each a key and its distance
abbrev pub pairs : List ℕ → List (ℤ × ℤ)
pairs (a ∷ b ∷ c ∷ d ∷ e ∷ f ∷ g ∷ h ∷ bytes) = (word a b c d, word e f g h) ∷ pairs bytes
pairs _ = []

-- the keys of the pairs of a lookupswitch
abbrev pub keys : List ℕ → List ℤ
keys bytes = map (λ p. p.0) (pairs bytes)

-- each is below the next
abbrev pub ascend : List ℤ → Bool
ascend (a ∷ b ∷ rest) = int_lt a b && ascend (b ∷ rest)
ascend _ = true

-- a pool index: one byte behind ldc, else two
abbrev pub index_text : Option Form → ℕ → List ℕ
index_text (Some forms.NearConstant) i = u1 (i % 256)
index_text _ i = u2 i

-- a distance: four bytes behind goto_w and jsr_w, else two
abbrev pub distance_text : Option Form → ℤ → List ℕ
distance_text (Some forms.FarBranch) d = s4 d
distance_text _ d = u2 (cast_unsigned w32 d % 65536)

abbrev pub opcode : Instruction → ℕ
opcode (Plain op) = op
opcode (Byte op v) = op
opcode (Short op v) = op
opcode (Constant op i) = op
opcode (Local op n) = op
opcode (Iinc op n v) = op
opcode (Wide op code n) = op
opcode (WideIinc op n v) = op
opcode (Branch op d) = op
opcode (Member op i) = op
opcode (Interface op i a b) = op
opcode (Dynamic op i a b) = op
opcode (ClassOf op i) = op
opcode (NewArray op code) = op
opcode (MultiArray op i d) = op
opcode (TableSwitch op other low high distances) = op
opcode (LookupSwitch op other pairs) = op

-- What stands behind the opcode, with this padding. Of a number that is too large for its place, the low bytes stand there.
abbrev pub operands : List ℕ → Instruction → List ℕ
operands pad (Plain op) = []
operands pad (Byte op v) = s1 v
operands pad (Short op v) = s2 v
operands pad (Constant op i) = index_text (form_of op) i
operands pad (Local op n) = u1 (n % 256)
operands pad (Iinc op n v) = u1 (n % 256) ++ u1 (cast_unsigned w16 v % 256)
operands pad (Wide op code n) = u1 code ++ u2 n
operands pad (WideIinc op n v) = u1 0x84 ++ (u2 n ++ s2 v)
operands pad (Branch op d) = distance_text (form_of op) d
operands pad (Member op i) = u2 i
operands pad (Interface op i a b) = u2 i ++ (u1 a ++ u1 b)
operands pad (Dynamic op i a b) = u2 i ++ (u1 a ++ u1 b)
operands pad (ClassOf op i) = u2 i
operands pad (NewArray op code) = u1 code
operands pad (MultiArray op i d) = u2 i ++ u1 d
operands pad (TableSwitch op other low high distances) = pad ++ (s4 other ++ (s4 low ++ (s4 high ++ distances)))
operands pad (LookupSwitch op other pairs) = pad ++ (s4 other ++ (u4 (length pairs / 8 % 4294967296) ++ pairs))

-- It holds more than an index or a local.
abbrev pub is_longer : Instruction → Bool
is_longer (Plain op) = false
is_longer (Byte op v) = false
is_longer (Short op v) = false
is_longer (Constant op i) = false
is_longer (Local op n) = false
is_longer (Iinc op n v) = false
is_longer (Wide op code n) = false
is_longer (WideIinc op n v) = false
is_longer (Branch op d) = false
is_longer (Member op i) = false
is_longer (Interface op i a b) = true
is_longer (Dynamic op i a b) = true
is_longer (ClassOf op i) = false
is_longer (NewArray op code) = false
is_longer (MultiArray op i d) = true
is_longer (TableSwitch op other low high distances) = true
is_longer (LookupSwitch op other pairs) = true

-- The opcode names an instruction of that form, and the operands fit where they are written.
abbrev pub Fits : Instruction → Type 0
Fits (Plain op) = form_of op ≡ Some forms.Plain
Fits (Byte op v) = (form_of op ≡ Some forms.Byte) × FitsSigned w8 v
Fits (Short op v) = (form_of op ≡ Some forms.Short) × FitsSigned w16 v
Fits (Constant op i) = ((form_of op ≡ Some forms.NearConstant) × (i < 256)) ⊎ ((form_of op ≡ Some forms.Constant) × (i < 65536))
Fits (Local op n) = (form_of op ≡ Some forms.Local) × (n < 256)
Fits (Iinc op n v) = (form_of op ≡ Some forms.Iinc) × (n < 256) × FitsSigned w8 v
Fits (Wide op code n) = (form_of op ≡ Some forms.Wide) × (form_of code ≡ Some forms.Local) × (n < 65536)
Fits (WideIinc op n v) = (form_of op ≡ Some forms.Wide) × (n < 65536) × FitsSigned w16 v
Fits (Branch op d) = ((form_of op ≡ Some forms.Branch) × FitsSigned w16 d) ⊎ ((form_of op ≡ Some forms.FarBranch) × FitsSigned w32 d)
Fits (Member op i) = (form_of op ≡ Some forms.Member) × (i < 65536)
Fits (Interface op i a b) = (form_of op ≡ Some forms.Interface) × (i < 65536) × (a < 256) × (b < 256)
Fits (Dynamic op i a b) = (form_of op ≡ Some forms.Dynamic) × (i < 65536) × (a < 256) × (b < 256)
Fits (ClassOf op i) = (form_of op ≡ Some forms.ClassOf) × (i < 65536)
Fits (NewArray op code) = (form_of op ≡ Some forms.NewArray) × (code < 256)
Fits (MultiArray op i d) = (form_of op ≡ Some forms.MultiArray) × (i < 65536) × (d < 256)
Fits (TableSwitch op other low high distances) =
    (form_of op ≡ Some forms.TableSwitch) × FitsSigned w32 other × FitsSigned w32 low × FitsSigned w32 high × (int_lt high low ≡ false) × (length distances ≡ 4 * span low high) × IsBytes distances
Fits (LookupSwitch op other pairs) =
    (form_of op ≡ Some forms.LookupSwitch) × FitsSigned w32 other × (length pairs < 8 * 2 ^ 31) × (length pairs % 8 ≡ 0) × (ascend (keys pairs) ≡ true) × IsBytes pairs

-- an instruction at a place, its padding being 0
abbrev pub text_of : ℕ → Instruction → List ℕ
text_of pc i = opcode i ∷ operands (replicate (padding pc) 0) i
