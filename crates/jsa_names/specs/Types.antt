-- Types of fields and methods, and the descriptors that spell them (JVMS 4.3).
use Rattle.std.specs.Prelude.{◌≡◌, ℕ, zero, suc, ◌+◌, ◌≤◌, List, [], ◌∷◌, ◌++◌, length, take, drop, position, replicate, Option, Some, None, Bool, true, false, ◌&&◌, not, nat_le, ◌==◌, codes, if◌then◌else◌}
use Rattle.std.specs.List.{flat_map, AllByRecursion}
use Rattle.std.specs.Option.{option_map}
use Rattle.std.specs.Str.{bytes_eq}
use Rattle.jsa_names.specs.Binding.{◌>>=◌}
use Rattle.jsa_names.specs.Names.{is_class_name}
use Rattle.jsa_names.specs.declared.types.FieldType.{FieldType}
use Rattle.jsa_names.specs.declared.types.FieldType.TheVariants as code

-- The type of a field: a base type, a class by its name, or an array by its dimensions and the descriptor of its element.
pub data JavaType : Type 0 where
  Byte : JavaType
  Char : JavaType
  Double : JavaType
  Float : JavaType
  Int : JavaType
  Long : JavaType
  Short : JavaType
  Boolean : JavaType
  Class : List ℕ → JavaType
  Array : ℕ → List ℕ → JavaType

-- the type of a method: its parameters, and its result, None for V
pub record JavaMethod : Type 0 where
  pub parameters : List JavaType
  pub result : Option JavaType

-- a type of the code as plain data
abbrev pub field_shown : FieldType → JavaType
field_shown code.Byte = Byte
field_shown code.Char = Char
field_shown code.Double = Double
field_shown code.Float = Float
field_shown code.Int = Int
field_shown code.Long = Long
field_shown code.Short = Short
field_shown code.Boolean = Boolean
field_shown (code.Class name) = Class name.now
field_shown (code.Array depth element) = Array depth element.now

-- ---- what a descriptor is read as

-- B, C, D, F, I, J, S and Z (4.3.2)
unfoldable pub base_type : ℕ → Option JavaType
base_type b =
    if b == 66 then Some Byte else if b == 67 then Some Char else if b == 68 then Some Double else if b == 70 then Some Float
    else if b == 73 then Some Int else if b == 74 then Some Long else if b == 83 then Some Short else if b == 90 then Some Boolean
    else None

abbrev pub is_semicolon : ℕ → Bool
is_semicolon b = b == 59

-- a class name, and a semicolon as the last byte
unfoldable pub class_type_of : List ℕ → Option JavaType
class_type_of text = do
  n ← position is_semicolon text
  if n + 1 == length text && is_class_name (take n text) then Some (Class (take n text)) else None

-- a base type, or L, a class name and a semicolon
unfoldable pub element_type_of : List ℕ → Option JavaType
element_type_of [] = None
element_type_of (b ∷ rest) = if b == 76 then class_type_of rest else if length rest == 0 then base_type b else None

abbrev pub is_no_bracket : ℕ → Bool
is_no_bracket b = not (b == 91)

-- The type that a field descriptor spells: an element behind up to 255 brackets. None outside the grammar (4.3.2).
unfoldable pub field_type_of : List ℕ → Option JavaType
field_type_of bytes = do
  depth ← position is_no_bracket bytes
  element ← element_type_of (drop depth bytes)
  if depth == 0 then Some element else if nat_le depth 255 then Some (Array depth (drop depth bytes)) else None

abbrev pub begins_class : List ℕ → Bool
begins_class [] = false
begins_class (b ∷ rest) = b == 76

-- how many bytes a descriptor at the front takes: up to a semicolon where an L stands behind its brackets, else one behind them
unfoldable pub type_length : List ℕ → Option ℕ
type_length bytes = do
  depth ← position is_no_bracket bytes
  if begins_class (drop depth bytes) then (position is_semicolon bytes >>= λ n. Some (n + 1)) else Some (depth + 1)

-- the type at the front, and the bytes behind it
unfoldable pub type_at : List ℕ → Option (JavaType × List ℕ)
type_at bytes = do
  n ← type_length bytes
  type ← field_type_of (take n bytes)
  Some (type, drop n bytes)

-- a type before others, where one stands at the front
abbrev pub more_types : List ℕ → Option (JavaType × List ℕ) → (List ℕ → List JavaType × List ℕ) → List JavaType × List ℕ
more_types bytes None others = ([], bytes)
more_types bytes (Some first) others = (first.0 ∷ (others first.1).0, (others first.1).1)

-- the types that stand at the front one after the other, as far as they go and at most so many, and the bytes behind them
unfoldable pub types_at : ℕ → List ℕ → List JavaType × List ℕ
types_at zero bytes = ([], bytes)
types_at (suc n) bytes = more_types bytes (type_at bytes) (types_at n)

-- all types at the front: none is spelled by no byte, so as many as there are bytes are enough
abbrev pub front_types : List ℕ → List JavaType
front_types bytes = (types_at (length bytes) bytes).0

-- a parameter of type long or double takes two slots, any other one (4.3.3)
abbrev pub slots_of_type : JavaType → ℕ
slots_of_type Byte = 1
slots_of_type Char = 1
slots_of_type Double = 2
slots_of_type Float = 1
slots_of_type Int = 1
slots_of_type Long = 2
slots_of_type Short = 1
slots_of_type Boolean = 1
slots_of_type (Class name) = 1
slots_of_type (Array depth element) = 1

unfoldable pub slots_of : List JavaType → ℕ
slots_of [] = 0
slots_of (type ∷ others) = slots_of_type type + slots_of others

-- all types at the front, where they take at most 255 slots, and the bytes behind them
unfoldable pub few_types : List ℕ → Option (List JavaType × List ℕ)
few_types bytes = if nat_le (slots_of (front_types bytes)) 255 then Some (types_at (length bytes) bytes) else None

-- V, which is None, or a field descriptor
unfoldable pub result_of : List ℕ → Option (Option JavaType)
result_of bytes = if bytes_eq bytes (codes "V") then Some None else option_map Some (field_type_of bytes)

-- what stands behind a byte at the front
abbrev pub behind_byte : ℕ → List ℕ → Option (List ℕ)
behind_byte b [] = None
behind_byte b (first ∷ rest) = if first == b then Some rest else None

-- The type that a method descriptor spells: '(', parameters of at most 255 slots, ')' and the result. None outside the
-- grammar (4.3.3).
unfoldable pub method_type_of : List ℕ → Option JavaMethod
method_type_of bytes = do
  inner ← behind_byte 40 bytes
  types ← few_types inner
  last ← behind_byte 41 types.1
  answer ← result_of last
  Some (record { parameters = types.0; result = answer })

-- ---- how a type is spelled

abbrev pub spelling : JavaType → List ℕ
spelling Byte = codes "B"
spelling Char = codes "C"
spelling Double = codes "D"
spelling Float = codes "F"
spelling Int = codes "I"
spelling Long = codes "J"
spelling Short = codes "S"
spelling Boolean = codes "Z"
spelling (Class name) = codes "L" ++ name ++ codes ";"
spelling (Array depth element) = replicate depth 91 ++ element

-- no array, and a class has the name of one
abbrev pub FitsElement : JavaType → Type 0
FitsElement Byte = Unit {0}
FitsElement Char = Unit {0}
FitsElement Double = Unit {0}
FitsElement Float = Unit {0}
FitsElement Int = Unit {0}
FitsElement Long = Unit {0}
FitsElement Short = Unit {0}
FitsElement Boolean = Unit {0}
FitsElement (Class name) = is_class_name name ≡ true
FitsElement (Array depth element) = ⊥

-- An array has 1 to 255 dimensions and the descriptor of an element; a class has the name of one.
abbrev pub Fits : JavaType → Type 0
Fits Byte = Unit {0}
Fits Char = Unit {0}
Fits Double = Unit {0}
Fits Float = Unit {0}
Fits Int = Unit {0}
Fits Long = Unit {0}
Fits Short = Unit {0}
Fits Boolean = Unit {0}
Fits (Class name) = is_class_name name ≡ true
Fits (Array depth element) = (1 ≤ depth) × (depth ≤ 255) × ((type : JavaType) × (element ≡ spelling type) × FitsElement type)

abbrev pub result_spelling : Option JavaType → List ℕ
result_spelling None = codes "V"
result_spelling (Some type) = spelling type

abbrev pub FitsResult : Option JavaType → Type 0
FitsResult None = Unit {0}
FitsResult (Some type) = Fits type

abbrev pub method_spelling : JavaMethod → List ℕ
method_spelling m = codes "(" ++ flat_map spelling m.parameters ++ codes ")" ++ result_spelling m.result

-- at most 255 slots of parameters that are types, and a result that is one or None
abbrev pub FitsMethod : JavaMethod → Type 0
FitsMethod m = AllByRecursion Fits m.parameters × (slots_of m.parameters ≤ 255) × FitsResult m.result
