-- Lines of instructions.
use Rattle.std.specs.Prelude.{ℕ, ℤ, pos, ◌+ℤ◌, ◌+◌, int_lt, List, [], ◌∷◌, length, Bool, ◌&&◌, ◌==◌, nat_lt, nat_le, codes, Option, Some, None, if◌then◌else◌}
use Rattle.std.specs.List.{list_all}
use Rattle.std.specs.Option.{option_map}
use Rattle.std.specs.Str.{bytes_eq}
use Rattle.jsa_base.specs.Reading.{◌>>=◌, when}
use Rattle.class_tree.specs.WellFormed.{parameter_slots}
use Rattle.jsa_ops.specs.Opcodes.{form_of}
use Rattle.jsa_ops.specs.declared.form.Form.{Form}
use Rattle.jsa_ops.specs.declared.form.Form.TheVariants as forms
use Rattle.asm_text.specs.declared.statement.Constant.{Constant}
use Rattle.asm_text.specs.declared.statement.Constant.TheVariants as constant
use Rattle.asm_text.specs.declared.statement.MemberKind.{MemberKind}
use Rattle.asm_text.specs.declared.statement.MemberKind.TheVariants as kinds
use Rattle.asm_text.specs.declared.statement.SwitchCase.{SwitchCase}
use Rattle.asm_text.specs.declared.statement.Operation.{Operation}
use Rattle.asm_text.specs.declared.statement.Operation.TheVariants as operation
use Rattle.asm_text.specs.Numbers.{natural, integer}
use Rattle.asm_text.specs.Words.{is_word, is_operand_word, member_name, int_constant, long_constant, text_constant}
use Rattle.asm_text.specs.Mnemonics.{instruction_of}

-- ---- one operand, or a fixed number of them

abbrev pub plain_operands : ℕ → List (List ℕ) → Option Operation
plain_operands op [] = Some (operation.Plain op)
plain_operands op _ = None

abbrev pub byte_operands : ℕ → List (List ℕ) → Option Operation
byte_operands op (n ∷ []) = option_map (operation.Byte op) (integer 0x80 0x7F n)
byte_operands op _ = None

abbrev pub short_operands : ℕ → List (List ℕ) → Option Operation
short_operands op (n ∷ []) = option_map (operation.Short op) (integer 0x8000 0x7FFF n)
short_operands op _ = None

abbrev pub local_operands : ℕ → List (List ℕ) → Option Operation
local_operands op (n ∷ []) = option_map (operation.Local op) (natural 65535 n)
local_operands op _ = None

-- LOCAL AMOUNT
abbrev pub iinc_operands : ℕ → List (List ℕ) → Option Operation
iinc_operands op (n ∷ amount ∷ []) = do
  local ← natural 65535 n
  by ← integer 0x8000 0x7FFF amount
  Some (operation.Iinc op local by)
iinc_operands op _ = None

abbrev pub branch_operands : ℕ → List (List ℕ) → Option Operation
branch_operands op (label ∷ []) = if is_word label then Some (operation.Branch op label) else None
branch_operands op _ = None

abbrev pub class_operands : ℕ → List (List ℕ) → Option Operation
class_operands op (class ∷ []) = if is_operand_word class then Some (operation.ClassOf op class) else None
class_operands op _ = None

abbrev pub new_array_operands : ℕ → List (List ℕ) → Option Operation
new_array_operands op (n ∷ []) = option_map (operation.NewArray op) (natural 255 n)
new_array_operands op _ = None

-- CLASS DIMENSIONS
abbrev pub multi_array_operands : ℕ → List (List ℕ) → Option Operation
multi_array_operands op (class ∷ n ∷ []) = do
  ok ← when (is_operand_word class)
  dimensions ← natural 255 n
  Some (operation.MultiArray op class dimensions)
multi_array_operands op _ = None

-- ---- members

-- getstatic to putfield name fields
abbrev pub kind_of : ℕ → Bool → MemberKind
kind_of op of_interface = if of_interface then kinds.InterfaceMethod else if nat_le op 0xb5 then kinds.Field else kinds.Method

abbrev pub member_operands : ℕ → Bool → List (List ℕ) → Option Operation
member_operands op of_interface (class ∷ name ∷ desc ∷ []) = option_map (operation.Member op (kind_of op of_interface)) (member_name (kind_of op of_interface) class name desc)
member_operands op of_interface _ = None

-- The object and the arguments take one slot more than the parameters, and their number stands in a byte.
abbrev pub interface_operands : ℕ → List (List ℕ) → Option Operation
interface_operands op (class ∷ name ∷ desc ∷ []) = do
  member ← member_name kinds.InterfaceMethod class name desc
  slots ← parameter_slots (Some desc)
  few ← when (nat_lt slots 255)
  Some (operation.Interface op member (slots + 1))
interface_operands op _ = None

-- ---- constants

-- a number, or a quoted text
abbrev pub number_or_text : List ℕ → Option Constant
number_or_text t = if is_word t then int_constant t else text_constant t

-- class NAME
abbrev pub class_constant : List ℕ → List ℕ → Option Constant
class_constant c name = if bytes_eq c (codes "class") && is_operand_word name then Some (constant.Class name) else None

-- the operands of ldc and ldc_w: a number, a quoted text, or class NAME
abbrev pub constant_of : List (List ℕ) → Option Constant
constant_of (t ∷ []) = number_or_text t
constant_of (c ∷ name ∷ []) = class_constant c name
constant_of _ = None

-- the operand of ldc2_w: a number
abbrev pub long_of : List (List ℕ) → Option Constant
long_of (t ∷ []) = long_constant t
long_of _ = None

-- ldc2_w is 0x14.
abbrev pub loaded : ℕ → List (List ℕ) → Option Constant
loaded op rest = if op == 0x14 then long_of rest else constant_of rest

abbrev pub load_operands : ℕ → List (List ℕ) → Option Operation
load_operands op rest = option_map (operation.Load op) (loaded op rest)

-- ---- switches

-- The last key is a number of four bytes too, where so many labels stand behind the first.
abbrev pub last_fits : ℤ → ℕ → Bool
last_fits low more = int_lt (low +ℤ pos more) (pos 0x8000_0000)

-- LOW DEFAULT LABEL LABEL ..
abbrev pub table_operands : ℕ → List (List ℕ) → Option Operation
table_operands op (low ∷ other ∷ first ∷ more) = do
  key ← integer 0x8000_0000 0x7FFF_FFFF low
  ok ← when (is_word other && list_all is_word (first ∷ more) && last_fits key (length more))
  Some (operation.TableSwitch op key other (first ∷ more))
table_operands op _ = None

abbrev pub case_of : List ℕ → List ℕ → Option SwitchCase
case_of key label = do
  k ← integer 0x8000_0000 0x7FFF_FFFF key
  ok ← when (is_word label)
  Some (record { key = k; label = label })

-- KEY LABEL ..
unfoldable pub cases_of : List (List ℕ) → Option (List SwitchCase)
cases_of [] = Some []
cases_of (key ∷ []) = None
cases_of (key ∷ (label ∷ rest)) = do
  first ← case_of key label
  others ← cases_of rest
  Some (first ∷ others)

-- the first case, and what is behind it
abbrev pub first_case : List (List ℕ) → Option (SwitchCase × List (List ℕ))
first_case [] = None
first_case (key ∷ []) = None
first_case (key ∷ (label ∷ rest)) = do
  first ← case_of key label
  Some (first, rest)

-- DEFAULT KEY LABEL ..: the keys in the order in which they are written
abbrev pub lookup_operands : ℕ → List (List ℕ) → Option Operation
lookup_operands op (other ∷ rest) = do
  ok ← when (is_word other)
  cases ← cases_of rest
  Some (operation.LookupSwitch op other cases)
lookup_operands op _ = None

-- ---- all forms

-- wide is written where a number needs it, and is no line of its own; invokedynamic has none.
unfoldable pub operands : ℕ → Bool → Option Form → List (List ℕ) → Option Operation
operands op of_interface None rest = None
operands op of_interface (Some forms.Plain) rest = plain_operands op rest
operands op of_interface (Some forms.Byte) rest = byte_operands op rest
operands op of_interface (Some forms.Short) rest = short_operands op rest
operands op of_interface (Some forms.NearConstant) rest = load_operands op rest
operands op of_interface (Some forms.Constant) rest = load_operands op rest
operands op of_interface (Some forms.Local) rest = local_operands op rest
operands op of_interface (Some forms.Iinc) rest = iinc_operands op rest
operands op of_interface (Some forms.Branch) rest = branch_operands op rest
operands op of_interface (Some forms.FarBranch) rest = branch_operands op rest
operands op of_interface (Some forms.Member) rest = member_operands op of_interface rest
operands op of_interface (Some forms.Interface) rest = interface_operands op rest
operands op of_interface (Some forms.Dynamic) rest = None
operands op of_interface (Some forms.ClassOf) rest = class_operands op rest
operands op of_interface (Some forms.NewArray) rest = new_array_operands op rest
operands op of_interface (Some forms.MultiArray) rest = multi_array_operands op rest
operands op of_interface (Some forms.TableSwitch) rest = table_operands op rest
operands op of_interface (Some forms.LookupSwitch) rest = lookup_operands op rest
operands op of_interface (Some forms.Wide) rest = None

-- MNEMONIC OPERAND ..
unfoldable pub operation_of : List ℕ → List (List ℕ) → Option Operation
operation_of word rest = do
  i ← instruction_of word
  operands i.0 i.1 (form_of i.0) rest
