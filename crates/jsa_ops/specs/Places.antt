-- What stands at a place of a code, and why nothing does (JVM Specification SE 8, 4.9.1 and 6.5).
use Rattle.std.specs.Prelude.{◌≡◌, ◌≤◌, ◌<◌, ◌*◌, ◌^◌, ℕ, ℤ, FitsSigned, int_lt, ◌+◌, List, [], ◌∷◌, ◌++◌, length, drop, ◌⊎◌, ◌↔◌, true, false, Option, Some, None, Result, Ok, Err}
use Rattle.std.specs.Int.{w32}
use Rattle.jsa_base.specs.Reading.{IsBytes}
use Rattle.jsa_base.specs.Spelling.{u4, s4}
use Rattle.jsa_ops.specs.declared.fault.OpFault.{OpFault}
use Rattle.jsa_ops.specs.declared.fault.OpFault.TheVariants.{BadOpcode, Cut, BadOperand}
use Rattle.jsa_ops.specs.declared.form.Form.{Form}
use Rattle.jsa_ops.specs.declared.form.Form.TheVariants as forms
use Rattle.jsa_ops.specs.Opcodes.{form_of, widens}
use Rattle.jsa_ops.specs.Instruction.{Instruction}
use Rattle.jsa_ops.specs.Spelling.{Fits, opcode, operands, padding, span, keys, ascend}
use Rattle.jsa_ops.specs.Reading.{decoded}

-- any bytes up to the next multiple of four
abbrev pub IsPadding : ℕ → List ℕ → Type 0
IsPadding pc pad = (length pad ≡ padding pc) × IsBytes pad

-- The bytes begin with an instruction that fits, whatever its padding is, and the rest comes behind it.
pub record Begins (pc : ℕ) (bytes : List ℕ) (i : Instruction) (rest : List ℕ) : Type 0 where
  pub pad : List ℕ
  pub aligned : IsPadding pc pad
  pub parts : bytes ≡ opcode i ∷ (operands pad i ++ rest)
  pub fits : Fits i

-- ---- no instruction is named

-- The byte behind wide names none that wide goes before.
abbrev pub NoneBehindWide : ℕ → List ℕ → Type 0
NoneBehindWide byte [] = ⊥
NoneBehindWide byte (code ∷ rest) = (code ≡ byte) × (widens (form_of code) ≡ false)

-- The first byte, or the one behind wide, names no instruction there.
abbrev pub NamesNone : ℕ → List ℕ → Type 0
NamesNone byte [] = ⊥
NamesNone byte (op ∷ rest) = ((op ≡ byte) × (form_of op ≡ None)) ⊎ ((form_of op ≡ Some forms.Wide) × NoneBehindWide byte rest)

-- ---- the operands of switches, up to their lists

pub record TableFront (pc : ℕ) (operands : List ℕ) : Type 0 where
  pub pad : List ℕ
  pub other : ℤ
  pub low : ℤ
  pub high : ℤ
  pub rest : List ℕ
  pub aligned : IsPadding pc pad
  pub fits : FitsSigned w32 other × FitsSigned w32 low × FitsSigned w32 high
  pub parts : operands ≡ pad ++ (s4 other ++ (s4 low ++ (s4 high ++ rest)))

pub record PairsFront (pc : ℕ) (operands : List ℕ) : Type 0 where
  pub pad : List ℕ
  pub other : ℤ
  pub count : ℕ
  pub rest : List ℕ
  pub aligned : IsPadding pc pad
  pub fits : FitsSigned w32 other × (count < 2 ^ 32)
  pub parts : operands ≡ pad ++ (s4 other ++ (u4 count ++ rest))

-- ---- the operands pass the end

-- How many bytes of operands a form has; of a switch those before its list, of wide the opcode behind it.
abbrev pub width : ℕ → Form → ℕ
width pc forms.Plain = 0
width pc forms.Byte = 1
width pc forms.Short = 2
width pc forms.NearConstant = 1
width pc forms.Constant = 2
width pc forms.Local = 1
width pc forms.Iinc = 2
width pc forms.Branch = 2
width pc forms.FarBranch = 4
width pc forms.Member = 2
width pc forms.Interface = 4
width pc forms.Dynamic = 4
width pc forms.ClassOf = 2
width pc forms.NewArray = 1
width pc forms.MultiArray = 3
width pc forms.TableSwitch = padding pc + 12
width pc forms.LookupSwitch = padding pc + 8
width pc forms.Wide = 1

-- how many more there are behind wide and its opcode
abbrev pub wide_width : Option Form → ℕ
wide_width (Some forms.Local) = 2
wide_width (Some forms.Iinc) = 4
wide_width _ = 0

abbrev pub CutBehindWide : List ℕ → Type 0
CutBehindWide [] = ⊥
CutBehindWide (code ∷ rest) = length rest < wide_width (form_of code)

-- Fewer bytes are left than the operands take: those of every form, those behind wide, the distances or the pairs.
-- A table has its distances where low isn't above high, and pairs are counted by a number that isn't negative.
abbrev pub PassesEnd : ℕ → ℕ → List ℕ → Type 0
PassesEnd pc op rest =
    ((form : Form) × (form_of op ≡ Some form) × (length rest < width pc form))
    ⊎ (((form_of op ≡ Some forms.Wide) × CutBehindWide rest)
    ⊎ (((form_of op ≡ Some forms.TableSwitch) × (t : TableFront pc rest) × (int_lt t.high t.low ≡ false) × (length t.rest < 4 * span t.low t.high))
    ⊎ ((form_of op ≡ Some forms.LookupSwitch) × (p : PairsFront pc rest) × (p.count < 2 ^ 31) × (length p.rest < 8 * p.count))))

abbrev pub IsCut : ℕ → List ℕ → Type 0
IsCut pc [] = Unit {0}
IsCut pc (op ∷ rest) = PassesEnd pc op rest

-- ---- the operands of a switch are bad

-- So many pairs are there, and their keys don't ascend.
abbrev pub KeysFall : ℕ → List ℕ → Type 0
KeysFall count rest = (pairs : List ℕ) × (more : List ℕ) × (rest ≡ pairs ++ more) × (length pairs ≡ 8 * count) × (ascend (keys pairs) ≡ false)

-- A tableswitch has low above high; a lookupswitch has a negative count, or pairs that are all there and don't ascend.
abbrev pub IsBadOperand : ℕ → List ℕ → Type 0
IsBadOperand pc [] = ⊥
IsBadOperand pc (op ∷ rest) =
    ((form_of op ≡ Some forms.TableSwitch) × (t : TableFront pc rest) × (int_lt t.high t.low ≡ true))
    ⊎ ((form_of op ≡ Some forms.LookupSwitch) × (p : PairsFront pc rest) × ((2 ^ 31 ≤ p.count) ⊎ KeysFall p.count p.rest))

-- ---- the answer at a place

-- The cause of each answer: what the bytes from the place on are, with the bytes behind the instruction.
abbrev pub Causes : ℕ → List ℕ → Result (Instruction × List ℕ) OpFault → Type 0
Causes pc bytes (Ok x) = Begins pc bytes x.0 x.1
Causes pc bytes (Err (BadOpcode byte)) = NamesNone byte bytes
Causes pc bytes (Err Cut) = IsCut pc bytes
Causes pc bytes (Err BadOperand) = IsBadOperand pc bytes

-- The same with the next place: the bytes behind the instruction begin there.
abbrev pub Answers : List ℕ → ℕ → Result (Instruction × ℕ) OpFault → Type 0
Answers code pc (Ok x) = (rest : List ℕ) × Begins pc (drop pc code) x.0 rest × (x.1 + length rest ≡ length code)
Answers code pc (Err fault) = Causes pc (drop pc code) (Err fault)

-- ---- writing

-- Some bytes decode to the instruction.
abbrev pub IsDecoded : Instruction → Type 0
IsDecoded i = (code : List ℕ) × (at : ℕ) × (next : ℕ) × IsBytes code × (decoded code at ≡ Ok (i, next))

-- What was put behind a code decodes to the instruction, whatever comes behind it, if some bytes decode to it.
abbrev pub DecodesAgain : Instruction → List ℕ → List ℕ → Type 0
DecodesAgain i old new = IsDecoded i → (behind : List ℕ) → decoded (new ++ behind) (length old) ≡ Ok (i, length new)

-- ---- laws

-- Each answer comes exactly where its cause holds.
abbrev pub AnswersExactly : Type 0
AnswersExactly = (code : List ℕ) (pc : ℕ) → IsBytes code → (answer : Result (Instruction × ℕ) OpFault) → (decoded code pc ≡ answer) ↔ Answers code pc answer

-- Bytes behind the end change no answer but Cut.
abbrev pub BehindIsUnread : Type 0
BehindIsUnread =
    (code behind : List ℕ) (pc : ℕ) → IsBytes code → pc ≤ length code → (decoded code pc ≡ Err Cut → ⊥) → decoded (code ++ behind) pc ≡ decoded code pc

-- Each code goes on to one that isn't cut.
abbrev pub CutGoesOn : Type 0
CutGoesOn = (code : List ℕ) (pc : ℕ) → IsBytes code → pc ≤ length code → (more : List ℕ) × IsBytes more × (decoded (code ++ more) pc ≡ Err Cut → ⊥)
