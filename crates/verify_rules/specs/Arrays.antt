-- Arrays: their elements, their length, and how they are made (JVM Specification SE 8, 4.10.1.9).
use Rattle.std.specs.Prelude.{ℕ, zero, suc, Bool, true, false, cond, ◌&&◌, ◌||◌, List, [], ◌∷◌, ◌++◌, Option, Some, None, Ok, Err, codes, nat_le, nat_lt, ◌==◌, if◌then◌else◌}
use Rattle.std.specs.Str.{bytes_eq}
use Rattle.verify_rules.specs.declared.types.VType.{VType}
use Rattle.verify_rules.specs.declared.types.VType.TheVariants as types
use Rattle.verify_rules.specs.declared.letter.Letter.{Letter}
use Rattle.verify_rules.specs.declared.letter.Letter.TheVariants.{Int, Long, Float, Double}
use Rattle.verify_rules.specs.declared.cause.Cause.TheVariants.{Written, Operands, Mismatch}
use Rattle.verify_rules.specs.Causes.{Typed, ◌>>=◌}
use Rattle.verify_rules.specs.Assign.{is_array, is_bracket, is_class_letter, element_name}
use Rattle.verify_rules.specs.Letters.{pop_where, pop_letter, push, is_object_type, type_of_letter}

-- ---- elements of primitive types. The kinds are those of the opcodes: i, l, f, d, (a), b, c, s.

-- byte and boolean arrays share their instructions
unfoldable pub is_array_of : ℕ → List ℕ → Bool
is_array_of kind name =
    if kind == 0 then bytes_eq name (codes "[I")
    else if kind == 1 then bytes_eq name (codes "[J")
    else if kind == 2 then bytes_eq name (codes "[F")
    else if kind == 3 then bytes_eq name (codes "[D")
    else if kind == 5 then bytes_eq name (codes "[B") || bytes_eq name (codes "[Z")
    else if kind == 6 then bytes_eq name (codes "[C")
    else if kind == 7 then bytes_eq name (codes "[S")
    else false

-- an element on the stack
abbrev pub element_letter : ℕ → Letter
element_letter kind = if kind == 1 then Long else if kind == 2 then Float else if kind == 3 then Double else Int

-- null, or an object whose name passes a test
abbrev pub is_null_or : (List ℕ → Bool) → VType → Bool
is_null_or test types.Top = false
is_null_or test types.Integer = false
is_null_or test types.Float = false
is_null_or test types.Double = false
is_null_or test types.Long = false
is_null_or test types.Null = true
is_null_or test types.UninitializedThis = false
is_null_or test (types.Object name) = test name
is_null_or test (types.Uninitialized place) = false

-- an index, then an array of the kind
abbrev pub pop_place : ℕ → List VType → Typed (List VType)
pop_place kind stack = pop_letter Int stack >>= λ s. pop_where (is_null_or (is_array_of kind)) s

unfoldable pub element_loaded : ℕ → ℕ → List VType → Typed (List VType)
element_loaded room kind stack = pop_place kind stack >>= λ s. push room (type_of_letter (element_letter kind)) s

unfoldable pub element_stored : ℕ → List VType → Typed (List VType)
element_stored kind stack = pop_letter (element_letter kind) stack >>= λ s. pop_place kind s

-- ---- elements that are references

-- the component of an array of references: an array by its descriptor, a class by its name
abbrev pub component_of : List ℕ → Option (List ℕ)
component_of [] = None
component_of (a ∷ []) = None
component_of (a ∷ b ∷ rest) = cond (is_bracket a) (cond (is_bracket b) (Some (b ∷ rest)) (cond (is_class_letter b) (Some (element_name rest)) None)) None

abbrev pub named_component : Option (List ℕ) → Typed VType
named_component None = Err Mismatch
named_component (Some name) = Ok (types.Object name)

-- what aaload gives of an array: null of null
abbrev pub component_type : VType → Typed VType
component_type types.Top = Err Mismatch
component_type types.Integer = Err Mismatch
component_type types.Float = Err Mismatch
component_type types.Double = Err Mismatch
component_type types.Long = Err Mismatch
component_type types.Null = Ok types.Null
component_type types.UninitializedThis = Err Mismatch
component_type (types.Object name) = named_component (component_of name)
component_type (types.Uninitialized place) = Err Mismatch

abbrev pub component_loaded : ℕ → List VType → Typed (List VType)
component_loaded room [] = Err Operands
component_loaded room (t ∷ stack) = component_type t >>= λ c. push room c stack

-- aaload
unfoldable pub reference_loaded : ℕ → List VType → Typed (List VType)
reference_loaded room stack = pop_letter Int stack >>= λ s. component_loaded room s

abbrev pub holds_some : Option (List ℕ) → Bool
holds_some None = false
holds_some (Some name) = true

abbrev pub is_reference_array : List ℕ → Bool
is_reference_array name = holds_some (component_of name)

-- aastore takes any object: whether the element suits is tested when it is stored
unfoldable pub reference_stored : List VType → Typed (List VType)
reference_stored stack = pop_where is_object_type stack >>= λ s. pop_letter Int s >>= λ t. pop_where (is_null_or is_reference_array) t

-- ---- length and making

-- arraylength
unfoldable pub length_taken : ℕ → List VType → Typed (List VType)
length_taken room stack = pop_where (is_null_or is_array) stack >>= λ s. push room types.Integer s

-- the array that newarray makes: boolean, char, float, double, byte, short, int, long
unfoldable pub primitive_array : ℕ → Option (List ℕ)
primitive_array code =
    if code == 4 then Some (codes "[Z")
    else if code == 5 then Some (codes "[C")
    else if code == 6 then Some (codes "[F")
    else if code == 7 then Some (codes "[D")
    else if code == 8 then Some (codes "[B")
    else if code == 9 then Some (codes "[S")
    else if code == 10 then Some (codes "[I")
    else if code == 11 then Some (codes "[J")
    else None

-- a length is taken, and an array of the name is put
abbrev pub array_made : ℕ → Option (List ℕ) → List VType → Typed (List VType)
array_made room None stack = Err Written
array_made room (Some name) stack = pop_letter Int stack >>= λ s. push room (types.Object name) s

-- the brackets at the front
unfoldable pub dimensions : List ℕ → ℕ
dimensions [] = 0
dimensions (c ∷ name) = cond (is_bracket c) (suc (dimensions name)) 0

-- The array whose component is the class or the array of this name. An array has at most 255 dimensions.
abbrev pub array_over : List ℕ → Option (List ℕ)
array_over name = cond (nat_lt (dimensions name) 255) (Some (cond (is_array name) (codes "[" ++ name) (codes "[L" ++ (name ++ codes ";")))) None

-- takes so many lengths
unfoldable pub pop_lengths : ℕ → List VType → Typed (List VType)
pop_lengths zero stack = Ok stack
pop_lengths (suc n) stack = pop_letter Int stack >>= λ s. pop_lengths n s

-- multianewarray: at least one dimension, and at most those that the array has
unfoldable pub arrays_made : ℕ → Option (List ℕ) → ℕ → List VType → Typed (List VType)
arrays_made room None count stack = Err Written
arrays_made room (Some name) count stack =
    cond (nat_le 1 count && nat_le count (dimensions name)) (pop_lengths count stack >>= λ s. push room (types.Object name) s) (Err Written)
