-- The names of arrays. What names a class, as a Class of the constant pool, names an array class by its descriptor, and each
-- other class by its own name (JVMS 4.4.1).
use Rattle.std.specs.Prelude.{◌≡◌, ℕ, suc, ◌-◌, List, [], ◌∷◌, ◌++◌, length, take, drop, Option, Some, None, Bool, false, nat_lt, ◌==◌, codes, option_map, if◌then◌else◌}
use Rattle.std.specs.List.{prefix_len}
use Rattle.std.specs.Str.{bytes_eq}
use Rattle.jsa_names.specs.Binding.{◌>>=◌}
use Rattle.jsa_names.specs.Types.{JavaType, Byte, Char, Double, Float, Int, Long, Short, Boolean, Class, Array, base_type, behind_byte}

abbrev pub is_bracket : ℕ → Bool
is_bracket b = b == 91

-- the descriptor of an array begins with a bracket (4.3.2), which no name of a class has (4.2.2)
abbrev pub is_array : List ℕ → Bool
is_array [] = false
is_array (b ∷ rest) = is_bracket b

-- an array type has as many dimensions as its descriptor has brackets at the front
unfoldable pub dimensions : List ℕ → ℕ
dimensions name = prefix_len is_bracket name

-- the component type of an array, by its descriptor: what follows the first bracket. None where the name is no array's.
abbrev pub component_of : List ℕ → Option (List ℕ)
component_of name = behind_byte 91 name

-- what stands before a semicolon that is the last byte
abbrev pub before_semicolon : List ℕ → Option (List ℕ)
before_semicolon text = if bytes_eq (drop (length text - 1) text) (codes ";") then Some (take (length text - 1) text) else None

-- the class that a descriptor of a class names: what stands between L and the semicolon (4.3.2). None where it is none.
abbrev pub class_of : List ℕ → Option (List ℕ)
class_of descriptor = do
  text ← behind_byte 76 descriptor
  before_semicolon text

-- The class that is the element type of an array, behind the last bracket. None where the name is no array's, and where its
-- element type is primitive.
unfoldable pub element_name : List ℕ → Option (List ℕ)
element_name name = if is_array name then class_of (drop (dimensions name) name) else None

-- what names a reference type, by its descriptor: that of an array, and the name of a class. None where it is primitive.
abbrev pub reference_name : List ℕ → Option (List ℕ)
reference_name descriptor = if is_array descriptor then Some descriptor else class_of descriptor

-- The component type of an array of references, by what names it. None where the name is no array's, and where its component
-- type is primitive.
unfoldable pub component_name : List ℕ → Option (List ℕ)
component_name name = do
  component ← component_of name
  reference_name component

-- the descriptor of the type that a name names
abbrev pub descriptor_of : List ℕ → List ℕ
descriptor_of name = if is_array name then name else codes "L" ++ name ++ codes ";"

-- The array whose component type is the class or the array of this name. None where it has more than 255 dimensions (4.9.1).
unfoldable pub array_over : List ℕ → Option (List ℕ)
array_over name = if nat_lt (dimensions name) 255 then Some (codes "[" ++ descriptor_of name) else None

-- the array whose component type is the base type of this letter. None where it is no base type's.
unfoldable pub primitive_array : ℕ → Option (List ℕ)
primitive_array letter = option_map (λ type. 91 ∷ letter ∷ []) (base_type letter)

-- ---- laws

-- the name of a type that is a class
abbrev pub class_in : JavaType → Option (List ℕ)
class_in Byte = None
class_in Char = None
class_in Double = None
class_in Float = None
class_in Int = None
class_in Long = None
class_in Short = None
class_in Boolean = None
class_in (Class name) = Some name
class_in (Array depth element) = None

-- an array over what a name names has that as its component, and a dimension more
abbrev pub HasComponent : List ℕ → List ℕ → Type 0
HasComponent name array = (component_name array ≡ Some name) × (dimensions array ≡ suc (dimensions name))
