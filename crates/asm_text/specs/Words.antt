-- What a token may be.
use Rattle.std.specs.Prelude.{ℕ, List, [], ◌∷◌, Bool, false, not, ◌&&◌, ◌||◌, ◌==◌, codes, is_some, Option, Some, None, if◌then◌else◌}
use Rattle.std.specs.Option.{option_map}
use Rattle.std.specs.Str.{bytes_eq}
use Rattle.jsa_base.specs.Reading.{◌>>=◌, when}
use Rattle.jsa_names.specs.Names.{is_class_name, is_member_name, is_method_name}
use Rattle.jsa_names.specs.Paths.{text_of}
use Rattle.class_tree.specs.Links.{is_field_type, is_method_type, is_class_or_array, is_init, returns_void}
use Rattle.class_tree.specs.Flags.{is_static}
use Rattle.class_tree.specs.WellFormed.{is_declared_name, parameter_slots, are_within}
use Rattle.asm_text.specs.declared.statement.Constant.{Constant}
use Rattle.asm_text.specs.declared.statement.Constant.TheVariants as constant
use Rattle.asm_text.specs.declared.statement.MemberKind.{MemberKind}
use Rattle.asm_text.specs.declared.statement.MemberKind.TheVariants.{Field, Method, InterfaceMethod}
use Rattle.asm_text.specs.declared.statement.MemberName.{MemberName}
use Rattle.asm_text.specs.Numbers.{integer}
use Rattle.asm_text.specs.Quoted.{quoted}

-- A token that begins with a quote is no name and no label.
abbrev pub is_word : List ℕ → Bool
is_word [] = false
is_word (b ∷ rest) = not (b == 34)

-- the name of a class (JVMS 4.2.1)
abbrev pub is_class_word : List ℕ → Bool
is_class_word t = is_word t && is_class_name t

-- the name of a class that has a path, so that its file can be found
abbrev pub is_path_word : List ℕ → Bool
is_path_word t = is_word t && is_some (text_of t)

-- the name of a class, or the descriptor of an array (JVMS 4.4.1)
abbrev pub is_operand_word : List ℕ → Bool
is_operand_word t = is_word t && is_class_or_array t

-- the name and the descriptor of a declared field (JVMS 4.2.2, 4.3.2)
abbrev pub are_field_words : List ℕ → List ℕ → Bool
are_field_words name desc = is_word name && is_member_name name && is_field_type desc

-- A method descriptor whose parameters take at most 255 slots, `this` among them in a method that isn't static (JVMS 4.3.3).
abbrev pub takes_few : ℕ → List ℕ → Bool
takes_few bits desc = are_within (parameter_slots (Some desc)) (if is_static bits then 0 else 1) 255

-- the flags, the name and the descriptor of a declared method (JVMS 4.2.2, 4.3.3)
abbrev pub are_method_words : ℕ → List ℕ → List ℕ → Bool
are_method_words bits name desc = is_word name && is_declared_name name && takes_few bits desc

-- the name and the descriptor of a method that is referred to
abbrev pub are_call_words : List ℕ → List ℕ → Bool
are_call_words name desc = is_word name && is_method_name name && is_method_type desc

-- The same of any member. A method of a class that is named <init> returns V (JVMS 4.4.2).
abbrev pub are_member_words : MemberKind → List ℕ → List ℕ → Bool
are_member_words Field name desc = are_field_words name desc
are_member_words Method name desc = are_call_words name desc && (not (is_init name) || returns_void desc)
are_member_words InterfaceMethod name desc = are_call_words name desc

-- CLASS NAME DESC
unfoldable pub member_name : MemberKind → List ℕ → List ℕ → List ℕ → Option MemberName
member_name kind class name desc = do
  ok ← when (is_operand_word class && are_member_words kind name desc)
  Some (record { class = class; name = name; desc = desc })

-- ---- constants

abbrev pub integer_within : ℕ → ℕ → List ℕ → Option Constant
integer_within low high t = option_map constant.Integer (integer low high t)

abbrev pub int_constant : List ℕ → Option Constant
int_constant t = integer_within 0x8000_0000 0x7FFF_FFFF t

abbrev pub long_constant : List ℕ → Option Constant
long_constant t = option_map constant.Long (integer 0x8000_0000_0000_0000 0x7FFF_FFFF_FFFF_FFFF t)

abbrev pub text_constant : List ℕ → Option Constant
text_constant t = option_map constant.Text (quoted t)

-- The value of a static field, which fits its descriptor (JVMS 4.7.2).
unfoldable pub value_of : List ℕ → List ℕ → Option Constant
value_of desc t =
    if bytes_eq desc (codes "I") then int_constant t
    else if bytes_eq desc (codes "S") then integer_within 0x8000 0x7FFF t
    else if bytes_eq desc (codes "B") then integer_within 0x80 0x7F t
    else if bytes_eq desc (codes "C") then integer_within 0 0xFFFF t
    else if bytes_eq desc (codes "Z") then integer_within 0 1 t
    else if bytes_eq desc (codes "J") then long_constant t
    else if bytes_eq desc (codes "Ljava/lang/String;") then text_constant t
    else None
