-- The instruction at a place of the code, read from left to right.
use Rattle.std.specs.Prelude.{◌≡◌, ℕ, ℤ, ◌-◌, ◌*◌, ◌^◌, Bool, true, false, List, length, drop, Option, Some, None, Result, Ok, Err, if◌then◌else◌, nat_le, int_lt}
use Rattle.std.specs.Int.{w8, w16, w32, cast_signed}
use Rattle.jsa_base.specs.Reading.{Read, u1_at, u2_at, u4_at, bytes_at, pair_at, made}
use Rattle.jsa_ops.specs.declared.reading.Named.{Named}
use Rattle.jsa_ops.specs.declared.reading.Named.TheVariants as names
use Rattle.jsa_ops.specs.declared.form.Form.{Form}
use Rattle.jsa_ops.specs.declared.form.Form.TheVariants as forms
use Rattle.jsa_ops.specs.declared.fault.OpFault.{OpFault}
use Rattle.jsa_ops.specs.declared.fault.OpFault.TheVariants.{BadOpcode, Cut, BadOperand}
use Rattle.jsa_ops.specs.Opcodes.{form_of}
use Rattle.jsa_ops.specs.declared.instr.Instr.{Instr}
use Rattle.jsa_ops.specs.Instruction.{shown, Instruction, Plain, Byte, Short, Constant, Local, Iinc, Wide, WideIinc, Branch, Member, Interface, Dynamic, ClassOf, NewArray, MultiArray, TableSwitch, LookupSwitch}
use Rattle.jsa_ops.specs.Spelling.{padding, span, keys, ascend}

-- what a function gives that reads an instruction
abbrev pub Gives : Result Instr OpFault → List ℕ → Result (Instruction × List ℕ) OpFault → Type 0
Gives (Ok i) left read = read ≡ Ok (shown i, left)
Gives (Err e) left read = read ≡ Err e

-- goes on with what was read, if it is all there
abbrev pub then_at : {A B : Type 0} → Read A → (A → List ℕ → Result B OpFault) → Result B OpFault
then_at (Some x) next = next x.0 x.1
then_at None next = Err Cut

-- an instruction of these operands
abbrev pub of_part : {A : Type 0} → (A → Instruction) → (List ℕ → Read A) → List ℕ → Result (Instruction × List ℕ) OpFault
of_part make read bytes = then_at (read bytes) (λ x rest. Ok (make x, rest))

abbrev pub s1_at : List ℕ → Read ℤ
s1_at = made (cast_signed w8) u1_at

abbrev pub s2_at : List ℕ → Read ℤ
s2_at = made (cast_signed w16) u2_at

abbrev pub s4_at : List ℕ → Read ℤ
s4_at = made (cast_signed w32) u4_at

-- behind wide: an opcode with a written local, or iinc
unfoldable pub widened : ℕ → ℕ → Option Form → List ℕ → Result (Instruction × List ℕ) OpFault
widened op code (Some forms.Local) = of_part (Wide op code) u2_at
widened op code (Some forms.Iinc) = of_part (λ p. WideIinc op p.0 p.1) (pair_at u2_at s2_at)
widened op code _ = λ bytes. Err (BadOpcode code)

unfoldable pub wide_at : ℕ → List ℕ → Result (Instruction × List ℕ) OpFault
wide_at op bytes = then_at (u1_at bytes) (λ code rest. widened op code (form_of code) rest)

-- the distances of a tableswitch, one for each number from low to high
unfoldable pub distances_at : ℕ → ℤ → ℤ → ℤ → List ℕ → Result (Instruction × List ℕ) OpFault
distances_at op other low high bytes =
    if int_lt high low then Err BadOperand else of_part (TableSwitch op other low high) (bytes_at (4 * span low high)) bytes

-- default, low and high
abbrev pub range_at : List ℕ → Read (ℤ × (ℤ × ℤ))
range_at = pair_at s4_at (pair_at s4_at s4_at)

unfoldable pub table_switch_at : ℕ → ℕ → List ℕ → Result (Instruction × List ℕ) OpFault
table_switch_at op pc bytes =
    then_at (bytes_at (padding pc) bytes) (λ pad rest. then_at (range_at rest) (λ r more. distances_at op r.0 r.1.0 r.1.1 more))

-- ---- keys, one after the other

-- above the key before it, if there is one
abbrev pub key_above : Option ℤ → ℤ → Bool
key_above None key = true
key_above (Some before) key = int_lt before key

-- ---- the switches

-- the pairs of a lookupswitch, whose keys ascend
abbrev pub if_ascending : Instruction → List ℕ → List ℕ → Result (Instruction × List ℕ) OpFault
if_ascending i pairs rest = if ascend (keys pairs) then Ok (i, rest) else Err BadOperand

unfoldable pub pairs_at : ℕ → ℤ → ℕ → List ℕ → Result (Instruction × List ℕ) OpFault
pairs_at op other count bytes =
    if nat_le (2 ^ 31) count then Err BadOperand else then_at (bytes_at (8 * count) bytes) (λ pairs rest. if_ascending (LookupSwitch op other pairs) pairs rest)

-- default and the number of pairs
abbrev pub count_at : List ℕ → Read (ℤ × ℕ)
count_at = pair_at s4_at u4_at

unfoldable pub lookup_switch_at : ℕ → ℕ → List ℕ → Result (Instruction × List ℕ) OpFault
lookup_switch_at op pc bytes =
    then_at (bytes_at (padding pc) bytes) (λ pad rest. then_at (count_at rest) (λ c more. pairs_at op c.0 c.1 more))

abbrev pub iinc_at : List ℕ → Read (ℕ × ℤ)
iinc_at = pair_at u1_at s1_at

-- a pool index and two more bytes
abbrev pub call_at : List ℕ → Read (ℕ × (ℕ × ℕ))
call_at = pair_at u2_at (pair_at u1_at u1_at)

abbrev pub dimensions_at : List ℕ → Read (ℕ × ℕ)
dimensions_at = pair_at u2_at u1_at

-- instructions of the same operands

abbrev pub named_as : ℕ → Named → ℕ → Instruction
named_as op names.Constant = Constant op
named_as op names.Local = Local op
named_as op names.Member = Member op
named_as op names.ClassOf = ClassOf op

abbrev pub two_as : ℕ → Bool → ℤ → Instruction
two_as op true = Branch op
two_as op false = Short op

abbrev pub call_as : ℕ → Bool → ℕ × (ℕ × ℕ) → Instruction
call_as op true = λ p. Dynamic op p.0 p.1.0 p.1.1
call_as op false = λ p. Interface op p.0 p.1.0 p.1.1

-- those of more than one length
abbrev pub is_longer_form : Form → Bool
is_longer_form forms.Plain = false
is_longer_form forms.Byte = false
is_longer_form forms.Short = false
is_longer_form forms.NearConstant = false
is_longer_form forms.Constant = false
is_longer_form forms.Local = false
is_longer_form forms.Iinc = false
is_longer_form forms.Branch = false
is_longer_form forms.FarBranch = false
is_longer_form forms.Member = false
is_longer_form forms.Interface = false
is_longer_form forms.Dynamic = false
is_longer_form forms.ClassOf = false
is_longer_form forms.NewArray = false
is_longer_form forms.MultiArray = false
is_longer_form forms.TableSwitch = true
is_longer_form forms.LookupSwitch = true
is_longer_form forms.Wide = true

-- the operands of each form
unfoldable pub operands_at : ℕ → ℕ → Form → List ℕ → Result (Instruction × List ℕ) OpFault
operands_at pc op forms.Plain = λ bytes. Ok (Plain op, bytes)
operands_at pc op forms.Byte = of_part (Byte op) s1_at
operands_at pc op forms.Short = of_part (Short op) s2_at
operands_at pc op forms.NearConstant = of_part (Constant op) u1_at
operands_at pc op forms.Constant = of_part (Constant op) u2_at
operands_at pc op forms.Local = of_part (Local op) u1_at
operands_at pc op forms.Iinc = of_part (λ p. Iinc op p.0 p.1) iinc_at
operands_at pc op forms.Branch = of_part (Branch op) s2_at
operands_at pc op forms.FarBranch = of_part (Branch op) s4_at
operands_at pc op forms.Member = of_part (Member op) u2_at
operands_at pc op forms.Interface = of_part (λ p. Interface op p.0 p.1.0 p.1.1) call_at
operands_at pc op forms.Dynamic = of_part (λ p. Dynamic op p.0 p.1.0 p.1.1) call_at
operands_at pc op forms.ClassOf = of_part (ClassOf op) u2_at
operands_at pc op forms.NewArray = of_part (NewArray op) u1_at
operands_at pc op forms.MultiArray = of_part (λ p. MultiArray op p.0 p.1) dimensions_at
operands_at pc op forms.TableSwitch = table_switch_at op pc
operands_at pc op forms.LookupSwitch = lookup_switch_at op pc
operands_at pc op forms.Wide = wide_at op

-- The byte names an instruction, or none.
unfoldable pub behind : ℕ → ℕ → Option Form → List ℕ → Result (Instruction × List ℕ) OpFault
behind pc op None = λ bytes. Err (BadOpcode op)
behind pc op (Some form) = operands_at pc op form

unfoldable pub instruction_at : ℕ → List ℕ → Result (Instruction × List ℕ) OpFault
instruction_at pc bytes = then_at (u1_at bytes) (λ op rest. behind pc op (form_of op) rest)

-- with the next place in place of the bytes that are left
abbrev pub placed : ℕ → Result (Instruction × List ℕ) OpFault → Result (Instruction × ℕ) OpFault
placed size (Ok x) = Ok (x.0, size - length x.1)
placed size (Err e) = Err e

-- the instruction at a place of the code, and the next place
abbrev pub decoded : List ℕ → ℕ → Result (Instruction × ℕ) OpFault
decoded code pc = placed (length code) (instruction_at pc (drop pc code))

-- an answer of the code
abbrev pub shown_at : Result (Instr × ℕ) OpFault → Result (Instruction × ℕ) OpFault
shown_at (Ok x) = Ok (shown x.0, x.1)
shown_at (Err e) = Err e
