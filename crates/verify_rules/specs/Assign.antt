-- Which questions make a type assignable to another (JVM Specification SE 8, 4.10.1.2).
use Rattle.std.specs.Prelude.{ℕ, ◌-◌, Bool, true, false, cond, ◌&&◌, ◌||◌, List, [], ◌∷◌, length, take, codes, nat_eq}
use Rattle.std.specs.Str.{bytes_eq}
use Rattle.verify_rules.specs.declared.types.VType.{VType}
use Rattle.verify_rules.specs.declared.types.VType.TheVariants.{Top, Integer, Float, Double, Long, Null, UninitializedThis, Object, Uninitialized}
use Rattle.verify_rules.specs.Types.{is_top, is_uninitialized_this, is_made_at}
use Rattle.verify_rules.specs.declared.cause.Cause.TheVariants.{Mismatch}
use Rattle.verify_rules.specs.Asking.{Check, fine, refused, test, asks_for}

-- Equal names, and the target java/lang/Object, give no question.
abbrev pub class_assign : List ℕ → List ℕ → Check
class_assign from to = cond (bytes_eq from to || bytes_eq to (codes "java/lang/Object")) fine (asks_for from to)

-- what an array is assignable to beside arrays
abbrev pub is_above_arrays : List ℕ → Bool
is_above_arrays to = bytes_eq to (codes "java/lang/Object") || (bytes_eq to (codes "java/lang/Cloneable") || bytes_eq to (codes "java/io/Serializable"))

-- the name of a class from its descriptor behind the L: without its semicolon
abbrev pub element_name : List ℕ → List ℕ
element_name text = take (length text - 1) text

abbrev pub is_bracket : ℕ → Bool
is_bracket c = nat_eq c 91

abbrev pub is_class_letter : ℕ → Bool
is_class_letter c = nat_eq c 76

-- The component of an array to that of another, by their descriptors: an array, a class, or a primitive type, which is
-- assignable to itself alone.
unfoldable pub component_assign : List ℕ → List ℕ → Check
component_assign [] to = refused Mismatch
component_assign (c ∷ from) [] = refused Mismatch
component_assign (c ∷ from) (d ∷ to) =
    cond (is_bracket c)
    (cond (is_bracket d) (component_assign from to) (test Mismatch (is_class_letter d && is_above_arrays (element_name to))))
    (cond (is_class_letter c && is_class_letter d) (class_assign (element_name from) (element_name to)) (test Mismatch (nat_eq c d && (bytes_eq from [] && bytes_eq to []))))

abbrev pub is_array : List ℕ → Bool
is_array [] = false
is_array (c ∷ name) = is_bracket c

abbrev pub behind_first : List ℕ → List ℕ
behind_first [] = []
behind_first (c ∷ name) = name

-- the name of a class or the descriptor of an array, to another that isn't the same
abbrev pub other_assign : List ℕ → List ℕ → Check
other_assign from to =
    cond (is_array from)
    (cond (is_array to) (component_assign (behind_first from) (behind_first to)) (test Mismatch (is_above_arrays to)))
    (cond (is_array to) (refused Mismatch) (class_assign from to))

-- the name of a class or the descriptor of an array, to another
unfoldable pub object_assign : List ℕ → List ℕ → Check
object_assign from to = cond (bytes_eq from to) fine (other_assign from to)

-- null is assignable to each class and array
abbrev pub reference_assign : VType → List ℕ → Check
reference_assign Top to = refused Mismatch
reference_assign Integer to = refused Mismatch
reference_assign Float to = refused Mismatch
reference_assign Double to = refused Mismatch
reference_assign Long to = refused Mismatch
reference_assign Null to = fine
reference_assign UninitializedThis to = refused Mismatch
reference_assign (Object from) to = object_assign from to
reference_assign (Uninitialized place) to = refused Mismatch

abbrev pub is_integer : VType → Bool
is_integer Integer = true
is_integer Top = false
is_integer Float = false
is_integer Double = false
is_integer Long = false
is_integer Null = false
is_integer UninitializedThis = false
is_integer (Object name) = false
is_integer (Uninitialized place) = false

abbrev pub is_float : VType → Bool
is_float Float = true
is_float Top = false
is_float Integer = false
is_float Double = false
is_float Long = false
is_float Null = false
is_float UninitializedThis = false
is_float (Object name) = false
is_float (Uninitialized place) = false

abbrev pub is_double : VType → Bool
is_double Double = true
is_double Top = false
is_double Integer = false
is_double Float = false
is_double Long = false
is_double Null = false
is_double UninitializedThis = false
is_double (Object name) = false
is_double (Uninitialized place) = false

abbrev pub is_long : VType → Bool
is_long Long = true
is_long Top = false
is_long Integer = false
is_long Float = false
is_long Double = false
is_long Null = false
is_long UninitializedThis = false
is_long (Object name) = false
is_long (Uninitialized place) = false

abbrev pub is_null : VType → Bool
is_null Null = true
is_null Top = false
is_null Integer = false
is_null Float = false
is_null Double = false
is_null Long = false
is_null UninitializedThis = false
is_null (Object name) = false
is_null (Uninitialized place) = false

-- A type to another, by the other one. The uninitialized types, numbers and null are assignable to themselves alone.
unfoldable pub assign : VType → VType → Check
assign from Top = test Mismatch (is_top from)
assign from Integer = test Mismatch (is_integer from)
assign from Float = test Mismatch (is_float from)
assign from Double = test Mismatch (is_double from)
assign from Long = test Mismatch (is_long from)
assign from Null = test Mismatch (is_null from)
assign from UninitializedThis = test Mismatch (is_uninitialized_this from)
assign from (Object to) = reference_assign from to
assign from (Uninitialized place) = test Mismatch (is_made_at place from)

-- in a local anything is assignable to Top
unfoldable pub local_assign : VType → VType → Check
local_assign from to = cond (is_top to) fine (assign from to)
