-- Fields and methods that instructions name, and protected ones of superclasses (JVM Specification SE 8, 4.10.1.8, 5.4.3).
use Rattle.std.specs.Prelude.{ℕ, Bool, false, cond, not, ◌&&◌, ◌||◌, List, [], ◌∷◌, Option, Some, None, codes, slice_get, nat_le, if◌then◌else◌}
use Rattle.std.specs.List.{list_any}
use Rattle.std.specs.Str.{bytes_eq}
use Rattle.jsa_base.specs.Reading.{◌>>=◌}
use Rattle.class_tree.specs.declared.constant_pool.PoolEntry.{PoolEntry}
use Rattle.class_tree.specs.declared.constant_pool.PoolEntry.TheVariants as entries
use Rattle.class_tree.specs.declared.tree.ClassTree.{ClassTree}
use Rattle.class_tree.specs.declared.tree.FieldTree.{FieldTree}
use Rattle.class_tree.specs.Flags.{is_protected, is_static}
use Rattle.class_tree.specs.Links as links
use Rattle.class_tree.specs.WellFormed.{text_of, class_name, are_equal}
use Rattle.loader_rules.specs.Packages.{share_package}
use Rattle.verify_rules.specs.declared.types.VType.{VType}
use Rattle.verify_rules.specs.declared.types.VType.TheVariants as types
use Rattle.verify_rules.specs.declared.cause.Cause.TheVariants.{Operands}
use Rattle.verify_rules.specs.Asking.{Check, fine, refused}
use Rattle.verify_rules.specs.Assign.{is_array, assign}
use Rattle.verify_rules.specs.Superclasses.{Superclass, Member}
use Rattle.verify_rules.specs.Env.{Env, this_name, this_type}

-- ---- what the pool says (4.4.2, 4.4.6)

-- a field or a method by its class, its name and its descriptor
pub record NamedMember : Type 0 where
  pub class : List ℕ
  pub name : List ℕ
  pub desc : List ℕ

-- a name and a descriptor
pub record Signature : Type 0 where
  pub name : List ℕ
  pub desc : List ℕ

abbrev pub signature_in : List PoolEntry → Option PoolEntry → Option Signature
signature_in pool (Some (entries.NameAndType name desc)) = text_of pool name >>= λ n. text_of pool desc >>= λ d. Some (record { name = n; desc = d })
signature_in pool _ = None

unfoldable pub signature_at : List PoolEntry → ℕ → Option Signature
signature_at pool k = signature_in pool (slice_get pool k)

unfoldable pub member_of : List PoolEntry → ℕ → ℕ → Option NamedMember
member_of pool class member = class_name pool class >>= λ c. signature_at pool member >>= λ s. Some (record { class = c; name = s.name; desc = s.desc })

abbrev pub field_in : List PoolEntry → Option PoolEntry → Option NamedMember
field_in pool (Some (entries.Fieldref class member)) = member_of pool class member
field_in pool _ = None

-- the field at an index
unfoldable pub field_at : List PoolEntry → ℕ → Option NamedMember
field_at pool k = field_in pool (slice_get pool k)

abbrev pub method_in : List PoolEntry → Option PoolEntry → Option NamedMember
method_in pool (Some (entries.Methodref class member)) = member_of pool class member
method_in pool _ = None

-- the method of a class at an index
unfoldable pub method_at : List PoolEntry → ℕ → Option NamedMember
method_at pool k = method_in pool (slice_get pool k)

abbrev pub interface_method_in : List PoolEntry → Option PoolEntry → Option NamedMember
interface_method_in pool (Some (entries.InterfaceMethodref class member)) = member_of pool class member
interface_method_in pool _ = None

-- the method of an interface at an index
unfoldable pub interface_method_at : List PoolEntry → ℕ → Option NamedMember
interface_method_at pool k = interface_method_in pool (slice_get pool k)

abbrev pub call_site_in : List PoolEntry → Option PoolEntry → Option Signature
call_site_in pool (Some (entries.InvokeDynamic bootstrap member)) = signature_at pool member
call_site_in pool _ = None

-- the call of an invokedynamic
unfoldable pub call_site_at : List PoolEntry → ℕ → Option Signature
call_site_at pool k = call_site_in pool (slice_get pool k)

abbrev pub or_else : {A : Type 0} → Option A → Option A → Option A
or_else (Some x) other = Some x
or_else None other = other

-- From version 52 on invokespecial and invokestatic may also name the method of an interface (4.9.1).
unfoldable pub any_method_at : ClassTree → ℕ → Option NamedMember
any_method_at t k = or_else (method_at t.pool k) (if nat_le 52 t.major then interface_method_at t.pool k else None)

-- ---- names

abbrev pub is_clinit : List ℕ → Bool
is_clinit name = bytes_eq name (codes "<clinit>")

-- neither `<init>` nor `<clinit>`
abbrev pub is_plain_method : List ℕ → Bool
is_plain_method name = not (links.is_init name || is_clinit name)

-- ---- protected members of superclasses

-- the superclasses from the one of a name up
unfoldable pub from_named : List ℕ → List Superclass → List Superclass
from_named name [] = []
from_named name (c ∷ supers) = cond (bytes_eq c.name name) (c ∷ supers) (from_named name supers)

abbrev pub is_the_member : NamedMember → Member → Bool
is_the_member m f = bytes_eq f.name m.name && bytes_eq f.desc m.desc

-- protected, not static, and of another run-time package than the class
abbrev pub is_far_protected : Env → Superclass → ℕ → Bool
is_far_protected e c flags = is_protected flags && (not (is_static flags) && not (share_package (this_name e) e.loader c.name c.loader))

-- the access flags of the first of these members that is the one named
abbrev pub first_flags : NamedMember → List Member → Option ℕ
first_flags m [] = None
first_flags m (f ∷ members) = cond (is_the_member m f) (Some f.flags) (first_flags m members)

abbrev pub field_flags : NamedMember → Superclass → Option ℕ
field_flags m c = first_flags m c.fields

abbrev pub method_flags : NamedMember → Superclass → Option ℕ
method_flags m c = first_flags m c.methods

abbrev pub far_or_above : Env → Superclass → Option ℕ → Bool → Bool
far_or_above e c (Some flags) above = is_far_protected e c flags
far_or_above e c None above = above

-- The first of these classes that declares the member: whether it is protected there, in another run-time package.
unfoldable pub is_far_in : Env → (Superclass → Option ℕ) → List Superclass → Bool
is_far_in e flags [] = false
is_far_in e flags (c ∷ supers) = far_or_above e c (flags c) (is_far_in e flags supers)

abbrev pub first_only : List Superclass → List Superclass
first_only [] = []
first_only (c ∷ supers) = c ∷ []

-- A field that is named through a superclass.
unfoldable pub is_guarded_field : Env → NamedMember → Bool
is_guarded_field e m = is_far_in e (field_flags m) (from_named m.class e.supers)

-- A method that is named through a superclass. A constructor is that of the class named alone.
unfoldable pub is_guarded_method : Env → NamedMember → Bool
is_guarded_method e m = is_far_in e (method_flags m) (cond (links.is_init m.name) (first_only (from_named m.class e.supers)) (from_named m.class e.supers))

abbrev pub object_is_own : Env → Option VType → Check
object_is_own e None = refused Operands
object_is_own e (Some t) = assign t (this_type e)

-- The object whose protected member is used is one of the class itself.
unfoldable pub protected_test : Env → Bool → Option VType → Check
protected_test e guarded object = cond guarded (object_is_own e object) fine

abbrev pub is_array_object : Option VType → Bool
is_array_object None = false
is_array_object (Some types.Top) = false
is_array_object (Some types.Integer) = false
is_array_object (Some types.Float) = false
is_array_object (Some types.Double) = false
is_array_object (Some types.Long) = false
is_array_object (Some types.Null) = false
is_array_object (Some types.UninitializedThis) = false
is_array_object (Some (types.Object name)) = is_array name
is_array_object (Some (types.Uninitialized place)) = false

-- The test of a method, of which clone of an array is free.
unfoldable pub method_test : Env → NamedMember → Option VType → Check
method_test e m object = protected_test e (is_guarded_method e m && not (bytes_eq m.name (codes "clone") && is_array_object object)) object

-- ---- fields of the class itself

abbrev pub is_declared_as : ClassTree → NamedMember → FieldTree → Bool
is_declared_as t m f = are_equal (text_of t.pool f.name) (Some m.name) && are_equal (text_of t.pool f.desc) (Some m.desc)

-- the class itself declares the field that is named through it
unfoldable pub is_own_field : Env → NamedMember → Bool
is_own_field e m = bytes_eq m.class (this_name e) && list_any (is_declared_as e.tree m) e.tree.fields
