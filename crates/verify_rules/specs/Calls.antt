-- Fields, calls, throws and returns: what they take, what they ask and what they put (JVM Specification SE 8, 4.10.1.9).
use Rattle.std.specs.Prelude.{ℕ, ◌+◌, Bool, true, false, cond, ◌&&◌, ◌||◌, List, [], ◌∷◌, length, take, drop, Option, Some, None, Result, Ok, codes, slice_get, is_none, nat_le, nat_lt, nat_eq, ◌==◌, if◌then◌else◌}
use Rattle.std.specs.List.{list_any}
use Rattle.std.specs.Str.{bytes_eq}
use Rattle.jsa_ops.specs.Instruction.{Instruction, ClassOf}
use Rattle.jsa_ops.specs.declared.fault.OpFault.{OpFault}
use Rattle.jsa_ops.specs.Reading.{decoded}
use Rattle.jsa_names.specs.Types.{JavaType, JavaMethod, method_type_of, slots_of}
use Rattle.class_tree.specs.Links as links
use Rattle.class_tree.specs.WellFormed.{class_name, are_equal}
use Rattle.class_tree.specs.ClassNames.{sup_name, interface_names}
use Rattle.verify_rules.specs.declared.types.VType.{VType}
use Rattle.verify_rules.specs.declared.types.VType.TheVariants as types
use Rattle.verify_rules.specs.declared.types.Unfinished.{Unfinished}
use Rattle.verify_rules.specs.declared.types.Unfinished.TheVariants.{MadeAt, ThisObject}
use Rattle.verify_rules.specs.declared.types.Frame.{Frame}
use Rattle.verify_rules.specs.Types.{top_first, turned_all}
use Rattle.verify_rules.specs.declared.letter.Letter.{Letter}
use Rattle.verify_rules.specs.declared.cause.Cause.TheVariants.{Written, Operands, Mismatch, Unfinished as UnfinishedThis}
use Rattle.verify_rules.specs.Asking.{Asking, Check, ◌>>=◌, gives, refused, silent, fine, and_then}
use Rattle.verify_rules.specs.Assign.{assign}
use Rattle.verify_rules.specs.Superclasses.{Superclass}
use Rattle.verify_rules.specs.Env.{Env, pool_of, this_name, this_type, is_constructor, vtype_of, vtypes_of, field_vtype, own_type}
use Rattle.verify_rules.specs.Members.{NamedMember, Signature, field_at, method_at, interface_method_at, any_method_at, call_site_at, is_clinit, is_plain_method, is_guarded_field, protected_test, method_test, is_own_field}
use Rattle.verify_rules.specs.Letters.{is_of, push}

-- ---- operands of given types

-- types one by one, from the first on
unfoldable pub all_assign : List VType → List VType → Check
all_assign [] [] = fine
all_assign (a ∷ from) (b ∷ to) = and_then (assign a b) (all_assign from to)
all_assign [] (b ∷ to) = refused Operands
all_assign (a ∷ from) [] = refused Operands

-- so many items of a stack from its top, the deepest first
abbrev pub operands : ℕ → List VType → List VType
operands count stack = top_first (take count stack)

-- Takes operands that are assignable to these types, the deepest first, from a stack with its top first.
unfoldable pub took : List VType → List VType → Asking (List VType)
took wanted stack =
    cond (nat_le (length wanted) (length stack))
    (and_then (all_assign (operands (length wanted) stack) wanted) (gives (drop (length wanted) stack)))
    (refused Operands)

-- puts a result, where there is one
abbrev pub put_result : ℕ → Option JavaType → List VType → Asking (List VType)
put_result room None stack = gives stack
put_result room (Some t) stack = silent (push room (vtype_of t) stack)

-- the same locals over another stack
abbrev pub over_asked : Frame → Asking (List VType) → Asking Frame
over_asked f a = a >>= λ stack. gives (record f { stack = stack })

-- ---- fields

abbrev pub static_read : ℕ → VType → List VType → Asking (List VType)
static_read room t stack = silent (push room t stack)

abbrev pub static_written : VType → List VType → Asking (List VType)
static_written t stack = took (t ∷ []) stack

abbrev pub field_read : Env → NamedMember → VType → List VType → Asking (List VType)
field_read e m t stack =
    took (types.Object m.class ∷ []) stack >>= λ rest. and_then (protected_test e (is_guarded_field e m) (slice_get stack 0)) (silent (push e.code.stack t rest))

abbrev pub is_unfinished_this : Option VType → Bool
is_unfinished_this None = false
is_unfinished_this (Some types.Top) = false
is_unfinished_this (Some types.Integer) = false
is_unfinished_this (Some types.Float) = false
is_unfinished_this (Some types.Double) = false
is_unfinished_this (Some types.Long) = false
is_unfinished_this (Some types.Null) = false
is_unfinished_this (Some types.UninitializedThis) = true
is_unfinished_this (Some (types.Object name)) = false
is_unfinished_this (Some (types.Uninitialized place)) = false

-- A constructor may store into a field that its class declares before it has called another one.
abbrev pub is_early_store : Env → NamedMember → Option VType → Bool
is_early_store e m object = is_unfinished_this object && (is_constructor e && is_own_field e m)

abbrev pub field_written : Env → NamedMember → VType → List VType → Asking (List VType)
field_written e m t stack =
    cond (is_early_store e m (slice_get stack 1)) (took (types.UninitializedThis ∷ t ∷ []) stack)
    (took (types.Object m.class ∷ t ∷ []) stack >>= λ rest. and_then (protected_test e (is_guarded_field e m) (slice_get stack 1)) (gives rest))

abbrev pub field_by : Env → ℕ → NamedMember → VType → List VType → Asking (List VType)
field_by e op m t stack =
    if op == 0xb2 then static_read e.code.stack t stack
    else if op == 0xb3 then static_written t stack
    else if op == 0xb4 then field_read e m t stack
    else field_written e m t stack

abbrev pub field_typed : Env → ℕ → NamedMember → Option VType → List VType → Asking (List VType)
field_typed e op m None stack = refused Written
field_typed e op m (Some t) stack = field_by e op m t stack

abbrev pub field_named : Env → ℕ → Option NamedMember → List VType → Asking (List VType)
field_named e op None stack = refused Written
field_named e op (Some m) stack = field_typed e op m (field_vtype m.desc) stack

-- getstatic, putstatic, getfield, putfield
unfoldable pub field_row : Env → ℕ → ℕ → List VType → Asking (List VType)
field_row e op k stack = field_named e op (field_at (pool_of e) k) stack

-- ---- calls of methods that are no constructors

-- without an object
abbrev pub static_called : ℕ → JavaMethod → List VType → Asking (List VType)
static_called room m stack = took (vtypes_of m.parameters) stack >>= λ rest. put_result room m.result rest

-- on an object of a class, with the test of a protected method
abbrev pub object_called : Env → List ℕ → NamedMember → JavaMethod → List VType → Asking (List VType)
object_called e class m t stack =
    took (types.Object class ∷ vtypes_of t.parameters) stack >>= λ rest.
    and_then (method_test e m (slice_get stack (length t.parameters))) (put_result e.code.stack t.result rest)

abbrev pub virtual_typed : Env → NamedMember → Option JavaMethod → List VType → Asking (List VType)
virtual_typed e m None stack = refused Written
virtual_typed e m (Some t) stack = object_called e m.class m t stack

abbrev pub virtual_named : Env → Option NamedMember → List VType → Asking (List VType)
virtual_named e None stack = refused Written
virtual_named e (Some m) stack = cond (is_plain_method m.name) (virtual_typed e m (method_type_of m.desc) stack) (refused Written)

-- invokevirtual
unfoldable pub virtual_row : Env → ℕ → List VType → Asking (List VType)
virtual_row e k stack = virtual_named e (method_at (pool_of e) k) stack

abbrev pub static_typed : ℕ → Option JavaMethod → List VType → Asking (List VType)
static_typed room None stack = refused Written
static_typed room (Some t) stack = static_called room t stack

abbrev pub static_named : ℕ → Option NamedMember → List VType → Asking (List VType)
static_named room None stack = refused Written
static_named room (Some m) stack = cond (is_plain_method m.name) (static_typed room (method_type_of m.desc) stack) (refused Written)

-- invokestatic
unfoldable pub static_row : Env → ℕ → List VType → Asking (List VType)
static_row e k stack = static_named e.code.stack (any_method_at e.tree k) stack

abbrev pub interface_typed : Env → ℕ → NamedMember → Option JavaMethod → List VType → Asking (List VType)
interface_typed e count m None stack = refused Written
interface_typed e count m (Some t) stack = cond (nat_eq count (slots_of t.parameters + 1)) (object_called e m.class m t stack) (refused Written)

abbrev pub interface_named : Env → ℕ → ℕ → Option NamedMember → List VType → Asking (List VType)
interface_named e count last None stack = refused Written
interface_named e count last (Some m) stack = cond (is_plain_method m.name && nat_eq last 0) (interface_typed e count m (method_type_of m.desc) stack) (refused Written)

-- invokeinterface: the slots of the parameters and of the object are counted behind the index, and then comes a 0
unfoldable pub interface_row : Env → ℕ → ℕ → ℕ → List VType → Asking (List VType)
interface_row e k count last stack = interface_named e count last (interface_method_at (pool_of e) k) stack

abbrev pub dynamic_named : ℕ → ℕ → ℕ → Option Signature → List VType → Asking (List VType)
dynamic_named room first second None stack = refused Written
dynamic_named room first second (Some s) stack =
    cond (is_plain_method s.name && (nat_eq first 0 && nat_eq second 0)) (static_typed room (method_type_of s.desc) stack) (refused Written)

-- invokedynamic: two zeros stand behind the index
unfoldable pub dynamic_row : Env → ℕ → ℕ → ℕ → List VType → Asking (List VType)
dynamic_row e k first second stack = dynamic_named e.code.stack first second (call_site_at (pool_of e) k) stack

-- ---- invokespecial

-- the class itself, a superclass or a direct superinterface
unfoldable pub is_lineal : Env → List ℕ → Bool
is_lineal e name =
    bytes_eq name (this_name e)
    || (list_any (λ (c : Superclass). bytes_eq c.name name) e.supers || list_any (bytes_eq name) (interface_names e.tree))

abbrev pub special_typed : Env → NamedMember → Option JavaMethod → List VType → Asking (List VType)
special_typed e m None stack = refused Written
special_typed e m (Some t) stack = object_called e (this_name e) m t stack

-- a method of a class above, on an object of the class itself
abbrev pub special_called : Env → NamedMember → List VType → Asking (List VType)
special_called e m stack = cond (is_lineal e m.class) (special_typed e m (method_type_of m.desc) stack) (refused Written)

-- ---- constructors

abbrev pub class_in : Env → Result (Instruction × ℕ) OpFault → Option (List ℕ)
class_in e (Ok (ClassOf op k, next)) = if op == 0xbb then class_name (pool_of e) k else None
class_in e _ = None

-- the class that the new at a place names
unfoldable pub made_class : Env → ℕ → Option (List ℕ)
made_class e place = if nat_lt place (length e.code.bytes) then class_in e (decoded e.code.bytes place) else None

-- What a constructor of a class may be called on: what a new of the class made, or `this`, by one of the class itself or of
-- its direct superclass.
abbrev pub unfinished_of : Env → List ℕ → VType → Option Unfinished
unfinished_of e class types.Top = None
unfinished_of e class types.Integer = None
unfinished_of e class types.Float = None
unfinished_of e class types.Double = None
unfinished_of e class types.Long = None
unfinished_of e class types.Null = None
unfinished_of e class types.UninitializedThis = if bytes_eq class (this_name e) || are_equal (sup_name e.tree) (Some class) then Some ThisObject else None
unfinished_of e class (types.Object name) = None
unfinished_of e class (types.Uninitialized place) = if are_equal (made_class e place) (Some class) then Some (MadeAt place) else None

-- All copies become objects of their class. `this` is no longer without a constructor.
abbrev pub finished : Env → NamedMember → Unfinished → Frame → List VType → Frame
finished e m (MadeAt place) f stack = record {
  locals = turned_all (MadeAt place) (types.Object m.class) f.locals;
  stack = turned_all (MadeAt place) (types.Object m.class) stack;
  this_uninit = f.this_uninit;
}
finished e m ThisObject f stack = record {
  locals = turned_all ThisObject (this_type e) f.locals;
  stack = turned_all ThisObject (this_type e) stack;
  this_uninit = false;
}

-- A constructor called on `this` isn't tested for protected access.
abbrev pub constructor_test : Env → NamedMember → Unfinished → VType → Check
constructor_test e m ThisObject object = fine
constructor_test e m (MadeAt place) object = method_test e m (Some object)

-- the parameters are taken, then the object below them
abbrev pub constructed_on : Env → NamedMember → JavaMethod → Option Unfinished → VType → Frame → Asking Frame
constructed_on e m t None object f = refused Mismatch
constructed_on e m t (Some old) object f =
    took (object ∷ vtypes_of t.parameters) f.stack >>= λ rest. and_then (constructor_test e m old object) (gives (finished e m old f rest))

abbrev pub constructed_below : Env → NamedMember → JavaMethod → Option VType → Frame → Asking Frame
constructed_below e m t None f = refused Operands
constructed_below e m t (Some object) f = constructed_on e m t (unfinished_of e m.class object) object f

abbrev pub constructor_typed : Env → NamedMember → Option JavaMethod → Frame → Asking Frame
constructor_typed e m None f = refused Written
constructor_typed e m (Some t) f = constructed_below e m t (slice_get f.stack (length t.parameters)) f

-- ---- invokespecial, both ways

abbrev pub special_named : Env → NamedMember → Frame → Asking Frame
special_named e m f = cond (is_clinit m.name) (refused Written) (over_asked f (special_called e m f.stack))

abbrev pub constructor_named : Env → Option NamedMember → Frame → Asking Frame
constructor_named e None f = refused Written
constructor_named e (Some m) f = cond (links.returns_void m.desc) (constructor_typed e m (method_type_of m.desc) f) (refused Written)

abbrev pub special_by : Env → ℕ → Option NamedMember → Frame → Asking Frame
special_by e k None f = refused Written
special_by e k (Some m) f = cond (links.is_init m.name) (constructor_named e (method_at (pool_of e) k) f) (special_named e m f)

-- invokespecial
unfoldable pub special_row : Env → ℕ → Frame → Asking Frame
special_row e k f = special_by e k (any_method_at e.tree k) f

-- ---- athrow and returns

-- athrow
unfoldable pub thrown : List VType → Asking (List VType)
thrown stack = took (types.Object (codes "java/lang/Throwable") ∷ []) stack

abbrev pub returned_type : Letter → Option JavaType → List VType → Asking (List VType)
returned_type letter None stack = refused Written
returned_type letter (Some t) stack = cond (is_of letter (vtype_of t)) (took (vtype_of t ∷ []) stack) (refused Written)

abbrev pub value_returned : Letter → Option JavaMethod → List VType → Asking (List VType)
value_returned letter None stack = refused Written
value_returned letter (Some m) stack = returned_type letter m.result stack

-- ireturn, lreturn, freturn, dreturn, areturn: the method's result has a type of the letter
unfoldable pub return_row : Env → Letter → List VType → Asking (List VType)
return_row e letter stack = value_returned letter (own_type e) stack

abbrev pub returns_nothing : Option JavaMethod → Bool
returns_nothing None = false
returns_nothing (Some m) = is_none m.result

-- return: the method has no result, and a constructor has called another one
unfoldable pub plain_return_row : Env → Frame → Asking Frame
plain_return_row e f = cond (returns_nothing (own_type e)) (cond (is_constructor e && f.this_uninit) (refused UnfinishedThis) (gives f)) (refused Written)
