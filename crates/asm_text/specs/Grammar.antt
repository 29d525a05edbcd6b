-- The grammar of a line.
use Rattle.std.specs.Prelude.{ℕ, ◌-◌, ◌+◌, List, [], ◌∷◌, map, length, take, drop, position, slice_get, Bool, false, ◌&&◌, ◌||◌, ◌==◌, nat_lt, codes, Option, Some, None, if◌then◌else◌}
use Rattle.std.specs.List.{list_all}
use Rattle.std.specs.Option.{option_map}
use Rattle.std.specs.Str.{bytes_eq}
use Rattle.jsa_base.specs.Reading.{◌>>=◌, when}
use Rattle.class_tree.specs.Flags.{is_static}
use Rattle.class_tree.specs.Links.{is_class_or_array}
use Rattle.class_tree.specs.Trees.{each}
use Rattle.asm_text.specs.declared.statement.Constant.{Constant}
use Rattle.asm_text.specs.declared.statement.FrameType.{FrameType}
use Rattle.asm_text.specs.declared.statement.FrameType.TheVariants as frame
use Rattle.asm_text.specs.declared.statement.Statement.{Statement}
use Rattle.asm_text.specs.declared.statement.Statement.TheVariants as statement
use Rattle.asm_text.specs.Numbers.{natural, flags}
use Rattle.asm_text.specs.Quoted.{modified}
use Rattle.asm_text.specs.Lines.{lines, tokens}
use Rattle.asm_text.specs.Words.{is_word, is_class_word, is_path_word, is_operand_word, are_field_words, are_method_words, value_of}
use Rattle.asm_text.specs.Operations.{operation_of}

-- ---- classes and their members

abbrev pub is_dash : List ℕ → Bool
is_dash t = bytes_eq t (codes "-")

abbrev pub superclass : List ℕ → Option (List ℕ)
superclass t = if is_dash t then None else Some t

-- FLAGS NAME SUPER INTERFACE ..
unfoldable pub class_line : List (List ℕ) → Option Statement
class_line (bits ∷ name ∷ sup ∷ interfaces) = do
  b ← flags bits
  ok ← when (is_path_word name && (is_dash sup || is_class_word sup) && list_all is_class_word interfaces)
  Some (statement.Class (record { flags = b; name = name; sup = superclass sup; interfaces = interfaces }))
class_line _ = None

-- N
unfoldable pub version_line : List (List ℕ) → Option Statement
version_line (n ∷ []) = option_map statement.Version (natural 65535 n)
version_line _ = None

-- At most one value, and none where the field isn't static: no class file keeps it then (JVMS 4.7.2).
abbrev pub optional_value : ℕ → List ℕ → List (List ℕ) → Option (Option Constant)
optional_value bits desc [] = Some None
optional_value bits desc (t ∷ []) = if is_static bits then option_map Some (value_of desc t) else None
optional_value bits desc _ = None

-- FLAGS NAME DESC, and a value
unfoldable pub field_line : List (List ℕ) → Option Statement
field_line (bits ∷ name ∷ desc ∷ rest) = do
  b ← flags bits
  ok ← when (are_field_words name desc)
  v ← optional_value b desc rest
  Some (statement.Field (record { flags = b; name = name; desc = desc; value = v }))
field_line _ = None

-- FLAGS NAME DESC
unfoldable pub method_line : List (List ℕ) → Option Statement
method_line (bits ∷ name ∷ desc ∷ []) = do
  b ← flags bits
  ok ← when (are_method_words b name desc)
  Some (statement.Method (record { flags = b; name = name; desc = desc }))
method_line _ = None

-- ---- code

-- STACK LOCALS
unfoldable pub code_line : List (List ℕ) → Option Statement
code_line (stack ∷ locals ∷ []) = do
  s ← natural 65535 stack
  l ← natural 65535 locals
  Some (statement.Code (record { stack = s; locals = l }))
code_line _ = None

-- everything is caught by `any`
abbrev pub caught : List ℕ → Option (List ℕ)
caught t = if bytes_eq t (codes "any") then None else Some t

-- FROM TO HANDLER CLASS
unfoldable pub catch_line : List (List ℕ) → Option Statement
catch_line (from ∷ to ∷ handler ∷ class ∷ []) = do
  ok ← when (is_word from && is_word to && is_word handler && is_operand_word class)
  Some (statement.Catch (record { from = from; to = to; handler = handler; class = caught class }))
catch_line _ = None

-- T I F D J N U
abbrev pub letter_type : ℕ → Option FrameType
letter_type b =
    if b == 84 then Some frame.Top
    else if b == 73 then Some frame.Integer
    else if b == 70 then Some frame.Float
    else if b == 68 then Some frame.Double
    else if b == 74 then Some frame.Long
    else if b == 78 then Some frame.Null
    else if b == 85 then Some frame.UninitializedThis
    else None

-- :NAME
abbrev pub object_type : List ℕ → Option FrameType
object_type [] = None
object_type (b ∷ name) = if b == 58 && is_class_or_array name then Some (frame.Object name) else None

-- a letter, O:NAME, or @LABEL
unfoldable pub type_of : List ℕ → Option FrameType
type_of [] = None
type_of (b ∷ rest) =
    if b == 64 then Some (frame.Uninitialized rest)
    else if b == 79 then object_type rest
    else if length rest == 0 then letter_type b
    else None

abbrev pub is_bar : List ℕ → Bool
is_bar t = bytes_eq t (codes "|")

-- LABEL LOCAL .. | ITEM ..
unfoldable pub frame_line : List (List ℕ) → Option Statement
frame_line [] = None
frame_line (label ∷ types) = do
  ok ← when (is_word label)
  bar ← position is_bar types
  locals ← each type_of (take bar types)
  stack ← each type_of (drop (bar + 1) types)
  Some (statement.Frame (record { label = label; locals = locals; stack = stack }))

-- LABEL:
abbrev pub is_colon : Option ℕ → Bool
is_colon (Some b) = b == 58
is_colon None = false

abbrev pub label_of : List ℕ → Option (List ℕ)
label_of t = if nat_lt 1 (length t) && is_word t && is_colon (slice_get t (length t - 1)) then Some (take (length t - 1) t) else None

-- MNEMONIC OPERAND ..
abbrev pub operation_line : List ℕ → List (List ℕ) → Option Statement
operation_line word rest = option_map statement.Operation (operation_of word rest)

-- A label stands alone; what is no label is an instruction.
abbrev pub label_or_operation : Option (List ℕ) → List ℕ → List (List ℕ) → Option Statement
label_or_operation (Some label) word [] = Some (statement.Label label)
label_or_operation (Some label) word _ = None
label_or_operation None word rest = operation_line word rest

-- ---- all lines

abbrev pub end_line : List (List ℕ) → Option Statement
end_line [] = Some statement.End
end_line _ = None

abbrev pub is_comment : List ℕ → Bool
is_comment [] = false
is_comment (b ∷ rest) = b == 35

-- what a line says of a code, or among its lines
abbrev pub member_statement : List ℕ → List (List ℕ) → Option Statement
member_statement word rest =
    if bytes_eq word (codes "code") then code_line rest
    else if bytes_eq word (codes "end") then end_line rest
    else if bytes_eq word (codes "catch") then catch_line rest
    else if bytes_eq word (codes "frame") then frame_line rest
    else label_or_operation (label_of word) word rest

-- what the tokens of a line say
unfoldable pub statement_of : List (List ℕ) → Option Statement
statement_of [] = Some statement.Blank
statement_of (word ∷ rest) =
    if is_comment word then Some statement.Blank
    else if bytes_eq word (codes "class") then class_line rest
    else if bytes_eq word (codes "version") then version_line rest
    else if bytes_eq word (codes "field") then field_line rest
    else if bytes_eq word (codes "method") then method_line rest
    else member_statement word rest

-- What a line says, if it is in the grammar.
unfoldable pub line_statement : List ℕ → Option Statement
line_statement line = do
  m ← modified line
  statement_of (tokens m)

-- what each line of a text says
unfoldable pub statements : List ℕ → List (Option Statement)
statements text = map line_statement (lines text)
