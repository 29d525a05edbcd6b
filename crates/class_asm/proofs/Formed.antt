-- What the grammar of a line says of its operation: the opcode has the form of the operands, and the numbers fit.
use Rattle.std.proofs.Common.{◌≡◌, ℕ, zero, suc, ℤ, pos, negsuc, ◌+◌, ◌<◌, ◌≤◌, Bool, true, false, cond, List, [], ◌∷◌, length, Option, Some, None, ◌⊎◌, inl, inr, refl, arith}
use Rattle.std.specs.Prelude.{⊤, FitsSigned, nat_le, nat_lt, neg_ℤ, ◌&&◌, ◌==◌}
use Rattle.std.specs.Int.{w8, w16, w32}
use Rattle.std.specs.List.{AllByRecursion}
use Rattle.std.specs.Option.{option_map}
use Rattle.std.specs.Str.Parse.{digits_value}
use Rattle.std.proofs.lemmas.Bool.{leb-true, ltb-true}
use Rattle.std.proofs.lemmas.Int.{ints}
use Rattle.jsa_base.specs.Reading.{◌>>=◌, when}
use Rattle.class_tree.specs.WellFormed.{parameter_slots}
use Rattle.jsa_ops.specs.declared.form.Form.{Form}
use Rattle.jsa_ops.specs.declared.form.Form.TheVariants as forms
use Rattle.jsa_ops.specs.Opcodes.{form_of}
use Rattle.asm_text.specs.declared.statement.MemberKind.TheVariants as kinds
use Rattle.asm_text.specs.declared.statement.SwitchCase.{SwitchCase}
use Rattle.asm_text.specs.declared.statement.Operation.{Operation}
use Rattle.asm_text.specs.declared.statement.Operation.TheVariants as operation
use Rattle.asm_text.specs.Mnemonics.{instruction_of}
use Rattle.asm_text.specs.Numbers.{is_natural, natural, negative, integer}
use Rattle.asm_text.specs.Words.{is_word, is_operand_word, member_name}
use Rattle.asm_text.specs.Operations.{kind_of, case_of, cases_of, operands, operation_of}
use Rattle.class_asm.proofs.Keeping.{AllIn, bind_all, when_all, some_all}

-- ---- steps

pub map_all : {X Y : Type 0} (f : X → Y) (o : Option X) (Q : X → Type 0) (P : Y → Type 0) → AllIn o Q → ((x : X) → Q x → P (f x)) → AllIn (option_map f o) P
map_all f (Some x) Q P q p = some_all (f x) P (p x (q x refl))
map_all f None Q P q p = λ y e. absurd cc

pub any : {X : Type 0} (o : Option X) → AllIn o (λ x. ⊤)
any o x e = tt

-- a value where a test holds
pub choice_all : {Y : Type 0} (b : Bool) (o : Option Y) (P : Y → Type 0) → (b ≡ true → AllIn o P) → AllIn (cond b o None) P
choice_all true o P p = p refl
choice_all false o P p = λ y e. absurd cc

pub tested_all : {Y : Type 0} (b : Bool) (o : Option Y) (P : Y → Type 0) → (b ≡ true → AllIn o P) → AllIn (when b >>= λ ok. o) P
tested_all true o P p = p refl
tested_all false o P p = λ y e. absurd cc

pub parts : (a b : Bool) → (a && b) ≡ true → (a ≡ true) × (b ≡ true)
parts true true e = (refl, refl)
parts true false e = absurd cc
parts false b e = absurd cc

-- ---- numbers

-- from -low to high
pub Within : ℕ → ℕ → ℤ → Type 0
Within low high (pos n) = n ≤ high
Within low high (negsuc n) = suc n ≤ low

pub natural_within : (limit : ℕ) (text : List ℕ) → AllIn (natural limit text) (λ n. n ≤ limit)
unfolding natural
natural_within limit text =
    choice_all (is_natural text && nat_le (digits_value 10 text) limit) (Some (digits_value 10 text)) (λ n. n ≤ limit)
    (λ h. some_all (digits_value 10 text) (λ n. n ≤ limit) (leb-true _ _ (parts (is_natural text) (nat_le (digits_value 10 text) limit) h).1))

negative_within : (low high n : ℕ) → n ≤ low → Within low high (neg_ℤ (pos n))
unfolding Within
negative_within low high zero small = omega arith
negative_within low high (suc n) small = small

negative_all : (low high : ℕ) (o : Option ℕ) → AllIn o (λ n. n ≤ low) → AllIn (negative o) (Within low high)
negative_all low high None small = λ y e. absurd cc
negative_all low high (Some n) small = of (n == 0) where
  of : (b : Bool) → AllIn (cond b None (Some (neg_ℤ (pos n)))) (Within low high)
  of true = λ y e. absurd cc
  of false = some_all (neg_ℤ (pos n)) (Within low high) (negative_within low high n (small n refl))

integer_by : (low high : ℕ) (minus : Bool) (a b : Option ℤ) → AllIn a (Within low high) → AllIn b (Within low high) → AllIn (cond minus a b) (Within low high)
integer_by low high true a b p q = p
integer_by low high false a b p q = q

pub integer_within : (low high : ℕ) (text : List ℕ) → AllIn (integer low high text) (Within low high)
unfolding integer Within
integer_within low high [] = λ y e. absurd cc
integer_within low high (b ∷ rest) =
    integer_by low high (b == 45) (negative (natural low rest)) (option_map pos (natural high (b ∷ rest)))
    (negative_all low high (natural low rest) (natural_within low rest))
    (map_all pos (natural high (b ∷ rest)) (λ n. n ≤ high) (Within low high) (natural_within high (b ∷ rest)) (λ n small. small))

pub fits_8 : (z : ℤ) → Within 0x80 0x7F z → FitsSigned w8 z
unfolding Within
fits_8 (pos n) h = omega (arith, ints, h)
fits_8 (negsuc n) h = omega (arith, ints, h)

pub fits_16 : (z : ℤ) → Within 0x8000 0x7FFF z → FitsSigned w16 z
unfolding Within
fits_16 (pos n) h = omega (arith, ints, h)
fits_16 (negsuc n) h = omega (arith, ints, h)

pub fits_32 : (z : ℤ) → Within 0x8000_0000 0x7FFF_FFFF z → FitsSigned w32 z
unfolding Within
fits_32 (pos n) h = omega (arith, ints, h)
fits_32 (negsuc n) h = omega (arith, ints, h)

-- ---- what is said of an operation

abbrev pub KeyFits : SwitchCase → Type 0
KeyFits c = FitsSigned w32 c.key

abbrev pub Formed : Operation → Type 0
Formed (operation.Plain op) = form_of op ≡ Some forms.Plain
Formed (operation.Byte op n) = (form_of op ≡ Some forms.Byte) × FitsSigned w8 n
Formed (operation.Short op n) = (form_of op ≡ Some forms.Short) × FitsSigned w16 n
Formed (operation.Load op k) = (form_of op ≡ Some forms.NearConstant) ⊎ (form_of op ≡ Some forms.Constant)
Formed (operation.Local op n) = (form_of op ≡ Some forms.Local) × (n < 65536)
Formed (operation.Iinc op n by) = (form_of op ≡ Some forms.Iinc) × (n < 65536) × FitsSigned w16 by
Formed (operation.Branch op label) = (form_of op ≡ Some forms.Branch) ⊎ (form_of op ≡ Some forms.FarBranch)
Formed (operation.Member op kind m) = form_of op ≡ Some forms.Member
Formed (operation.Interface op m slots) = (form_of op ≡ Some forms.Interface) × (slots < 256)
Formed (operation.ClassOf op name) = form_of op ≡ Some forms.ClassOf
Formed (operation.NewArray op code) = (form_of op ≡ Some forms.NewArray) × (code < 256)
Formed (operation.MultiArray op name dimensions) = (form_of op ≡ Some forms.MultiArray) × (dimensions < 256)
Formed (operation.TableSwitch op low other targets) = (form_of op ≡ Some forms.TableSwitch) × FitsSigned w32 low × (0 < length targets)
Formed (operation.LookupSwitch op other cases) = (form_of op ≡ Some forms.LookupSwitch) × AllByRecursion KeyFits cases

case_fits : (key label : List ℕ) → AllIn (case_of key label) KeyFits
case_fits key label =
    bind_all (integer 0x8000_0000 0x7FFF_FFFF key) _ (Within 0x8000_0000 0x7FFF_FFFF) KeyFits (integer_within 0x8000_0000 0x7FFF_FFFF key)
    (λ k h. when_all (is_word label) _ KeyFits (some_all _ KeyFits (fits_32 k h)))

cases_fit : (words : List (List ℕ)) → AllIn (cases_of words) (AllByRecursion KeyFits)
unfolding cases_of
cases_fit [] = some_all [] (AllByRecursion KeyFits) tt
cases_fit (key ∷ []) = λ y e. absurd cc
cases_fit (key ∷ (label ∷ rest)) =
    bind_all (case_of key label) _ KeyFits (AllByRecursion KeyFits) (case_fits key label)
    (λ first h. bind_all (cases_of rest) _ (AllByRecursion KeyFits) (AllByRecursion KeyFits) (cases_fit rest)
    (λ others more. some_all _ (AllByRecursion KeyFits) (h, more)))

below_256 : (n : ℕ) → n ≤ 255 → n < 256
below_256 n h = omega (arith, h)

below_65536 : (n : ℕ) → n ≤ 65535 → n < 65536
below_65536 n h = omega (arith, h)

one_more : (n : ℕ) → nat_lt n 255 ≡ true → n + 1 < 256
one_more n h = let k = ltb-true n 255 h in omega (arith, k)

formed_by : (form : Option Form) (op : ℕ) (of_interface : Bool) (rest : List (List ℕ)) → form_of op ≡ form → AllIn (operands op of_interface form rest) Formed
unfolding operands
formed_by None op of_interface rest is = λ y e. absurd cc
formed_by (Some forms.Plain) op of_interface [] is = some_all (operation.Plain op) Formed is
formed_by (Some forms.Plain) op of_interface (a ∷ rest) is = λ y e. absurd cc
formed_by (Some forms.Byte) op of_interface (n ∷ []) is = map_all (operation.Byte op) (integer 0x80 0x7F n) (Within 0x80 0x7F) Formed (integer_within 0x80 0x7F n) (λ z h. (is, fits_8 z h))
formed_by (Some forms.Byte) op of_interface [] is = λ y e. absurd cc
formed_by (Some forms.Byte) op of_interface (a ∷ b ∷ rest) is = λ y e. absurd cc
formed_by (Some forms.Short) op of_interface (n ∷ []) is = map_all (operation.Short op) (integer 0x8000 0x7FFF n) (Within 0x8000 0x7FFF) Formed (integer_within 0x8000 0x7FFF n) (λ z h. (is, fits_16 z h))
formed_by (Some forms.Short) op of_interface [] is = λ y e. absurd cc
formed_by (Some forms.Short) op of_interface (a ∷ b ∷ rest) is = λ y e. absurd cc
formed_by (Some forms.NearConstant) op of_interface rest is = map_all (operation.Load op) _ (λ k. ⊤) Formed (any _) (λ k t. inl is)
formed_by (Some forms.Constant) op of_interface rest is = map_all (operation.Load op) _ (λ k. ⊤) Formed (any _) (λ k t. inr is)
formed_by (Some forms.Local) op of_interface (n ∷ []) is = map_all (operation.Local op) (natural 65535 n) (λ k. k ≤ 65535) Formed (natural_within 65535 n) (λ k h. (is, below_65536 k h))
formed_by (Some forms.Local) op of_interface [] is = λ y e. absurd cc
formed_by (Some forms.Local) op of_interface (a ∷ b ∷ rest) is = λ y e. absurd cc
formed_by (Some forms.Iinc) op of_interface (n ∷ amount ∷ []) is =
    bind_all (natural 65535 n) _ (λ k. k ≤ 65535) Formed (natural_within 65535 n)
    (λ k h. bind_all (integer 0x8000 0x7FFF amount) _ (Within 0x8000 0x7FFF) Formed (integer_within 0x8000 0x7FFF amount)
    (λ z i. some_all (operation.Iinc op k z) Formed (is, below_65536 k h, fits_16 z i)))
formed_by (Some forms.Iinc) op of_interface [] is = λ y e. absurd cc
formed_by (Some forms.Iinc) op of_interface (a ∷ []) is = λ y e. absurd cc
formed_by (Some forms.Iinc) op of_interface (a ∷ b ∷ c ∷ rest) is = λ y e. absurd cc
formed_by (Some forms.Branch) op of_interface (label ∷ []) is = choice_all (is_word label) (Some (operation.Branch op label)) Formed (λ h. some_all (operation.Branch op label) Formed (inl is))
formed_by (Some forms.Branch) op of_interface [] is = λ y e. absurd cc
formed_by (Some forms.Branch) op of_interface (a ∷ b ∷ rest) is = λ y e. absurd cc
formed_by (Some forms.FarBranch) op of_interface (label ∷ []) is = choice_all (is_word label) (Some (operation.Branch op label)) Formed (λ h. some_all (operation.Branch op label) Formed (inr is))
formed_by (Some forms.FarBranch) op of_interface [] is = λ y e. absurd cc
formed_by (Some forms.FarBranch) op of_interface (a ∷ b ∷ rest) is = λ y e. absurd cc
formed_by (Some forms.Member) op of_interface (class ∷ name ∷ desc ∷ []) is = map_all (operation.Member op (kind_of op of_interface)) (member_name (kind_of op of_interface) class name desc) (λ m. ⊤) Formed (any _) (λ m t. is)
formed_by (Some forms.Member) op of_interface [] is = λ y e. absurd cc
formed_by (Some forms.Member) op of_interface (a ∷ []) is = λ y e. absurd cc
formed_by (Some forms.Member) op of_interface (a ∷ b ∷ []) is = λ y e. absurd cc
formed_by (Some forms.Member) op of_interface (a ∷ b ∷ c ∷ d ∷ rest) is = λ y e. absurd cc
formed_by (Some forms.Interface) op of_interface (class ∷ name ∷ desc ∷ []) is =
    bind_all (member_name kinds.InterfaceMethod class name desc) _ (λ m. ⊤) Formed (any _)
    (λ m t. bind_all (parameter_slots (Some desc)) _ (λ n. ⊤) Formed (any _)
    (λ n u. tested_all (nat_lt n 255) _ Formed (λ h. some_all (operation.Interface op m (n + 1)) Formed (is, one_more n h))))
formed_by (Some forms.Interface) op of_interface [] is = λ y e. absurd cc
formed_by (Some forms.Interface) op of_interface (a ∷ []) is = λ y e. absurd cc
formed_by (Some forms.Interface) op of_interface (a ∷ b ∷ []) is = λ y e. absurd cc
formed_by (Some forms.Interface) op of_interface (a ∷ b ∷ c ∷ d ∷ rest) is = λ y e. absurd cc
formed_by (Some forms.Dynamic) op of_interface rest is = λ y e. absurd cc
formed_by (Some forms.ClassOf) op of_interface (class ∷ []) is = choice_all (is_operand_word class) (Some (operation.ClassOf op class)) Formed (λ h. some_all (operation.ClassOf op class) Formed is)
formed_by (Some forms.ClassOf) op of_interface [] is = λ y e. absurd cc
formed_by (Some forms.ClassOf) op of_interface (a ∷ b ∷ rest) is = λ y e. absurd cc
formed_by (Some forms.NewArray) op of_interface (n ∷ []) is = map_all (operation.NewArray op) (natural 255 n) (λ k. k ≤ 255) Formed (natural_within 255 n) (λ k h. (is, below_256 k h))
formed_by (Some forms.NewArray) op of_interface [] is = λ y e. absurd cc
formed_by (Some forms.NewArray) op of_interface (a ∷ b ∷ rest) is = λ y e. absurd cc
formed_by (Some forms.MultiArray) op of_interface (class ∷ n ∷ []) is =
    when_all (is_operand_word class) _ Formed (bind_all (natural 255 n) _ (λ k. k ≤ 255) Formed (natural_within 255 n)
    (λ k h. some_all (operation.MultiArray op class k) Formed (is, below_256 k h)))
formed_by (Some forms.MultiArray) op of_interface [] is = λ y e. absurd cc
formed_by (Some forms.MultiArray) op of_interface (a ∷ []) is = λ y e. absurd cc
formed_by (Some forms.MultiArray) op of_interface (a ∷ b ∷ c ∷ rest) is = λ y e. absurd cc
formed_by (Some forms.TableSwitch) op of_interface (low ∷ other ∷ first ∷ more) is =
    bind_all (integer 0x8000_0000 0x7FFF_FFFF low) _ (Within 0x8000_0000 0x7FFF_FFFF) Formed (integer_within 0x8000_0000 0x7FFF_FFFF low)
    (λ z h. when_all _ _ Formed (some_all (operation.TableSwitch op z other (first ∷ more)) Formed (is, fits_32 z h, omega arith)))
formed_by (Some forms.TableSwitch) op of_interface [] is = λ y e. absurd cc
formed_by (Some forms.TableSwitch) op of_interface (a ∷ []) is = λ y e. absurd cc
formed_by (Some forms.TableSwitch) op of_interface (a ∷ b ∷ []) is = λ y e. absurd cc
formed_by (Some forms.LookupSwitch) op of_interface (other ∷ rest) is =
    when_all (is_word other) _ Formed (bind_all (cases_of rest) _ (AllByRecursion KeyFits) Formed (cases_fit rest)
    (λ cases h. some_all (operation.LookupSwitch op other cases) Formed (is, h)))
formed_by (Some forms.LookupSwitch) op of_interface [] is = λ y e. absurd cc
formed_by (Some forms.Wide) op of_interface rest is = λ y e. absurd cc

-- what the grammar says of the operation of a line
pub formed : (word : List ℕ) (rest : List (List ℕ)) → AllIn (operation_of word rest) Formed
unfolding operation_of
formed word rest = bind_all (instruction_of word) _ (λ i. ⊤) Formed (any _) (λ i t. formed_by (form_of i.0) i.0 i.1 rest refl)
