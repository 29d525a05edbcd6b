-- What a tree must meet to be that of a class file (JVMS 4.1 to 4.7), beside its constant pool and what its text can hold.
use Rattle.std.specs.Prelude.{ℕ, ◌+◌, List, [], ◌∷◌, length, map, Bool, true, false, not, ◌&&◌, ◌||◌, Option, Some, None, ◌==◌, nat_le, nat_lt, slice_get, codes, if◌then◌else◌}
use Rattle.std.specs.List.{list_all, list_any}
use Rattle.std.specs.Str.{bytes_eq}
use Rattle.jsa_names.specs.Texts.{is_within}
use Rattle.jsa_names.specs.Names.{is_class_name, is_member_name, is_method_name}
use Rattle.jsa_names.specs.Types.{JavaMethod, method_type_of, slots_of}
use Rattle.class_tree.specs.declared.constant_pool.PoolEntry.{PoolEntry}
use Rattle.class_tree.specs.declared.constant_pool.PoolEntry.TheVariants.{Integer, Float, Long, Double, Class, Str}
use Rattle.class_tree.specs.declared.tree.Handler.{Handler}
use Rattle.class_tree.specs.declared.tree.CodeTree.{CodeTree}
use Rattle.class_tree.specs.declared.tree.FieldTree.{FieldTree}
use Rattle.class_tree.specs.declared.tree.MethodTree.{MethodTree}
use Rattle.class_tree.specs.declared.tree.ClassTree.{ClassTree}
use Rattle.class_tree.specs.Links.{text_in, holds, has_text, is_class, is_field_type, is_init, returns_void}
use Rattle.class_tree.specs.Flags.{is_static, is_native, is_interface, is_abstract, are_class_flags, are_field_flags, are_method_flags, are_init_flags}

-- ---- what stands at an index

abbrev pub text_of : List PoolEntry → ℕ → Option (List ℕ)
text_of pool index = text_in (slice_get pool index)

abbrev pub class_name_in : List PoolEntry → Option PoolEntry → Option (List ℕ)
class_name_in pool (Some (Class name)) = text_of pool name
class_name_in pool _ = None

-- what the Class at an index names
abbrev pub class_name : List PoolEntry → ℕ → Option (List ℕ)
class_name pool index = class_name_in pool (slice_get pool index)

-- a Class that names a class or an interface, and no array
abbrev pub is_plain_class : List PoolEntry → ℕ → Bool
is_plain_class pool index = holds (class_name pool index) is_class_name

abbrev pub is_object : List ℕ → Bool
is_object name = bytes_eq name (codes "java/lang/Object")

-- the Class of java/lang/Object
abbrev pub is_object_class : List PoolEntry → ℕ → Bool
is_object_class pool index = holds (class_name pool index) is_object

-- two texts are there, and they are equal
abbrev pub are_equal : Option (List ℕ) → Option (List ℕ) → Bool
are_equal (Some a) (Some b) = bytes_eq a b
are_equal _ _ = false

-- ---- no two alike

unfoldable pub are_distinct : {A : Type 0} → (A → A → Bool) → List A → Bool
are_distinct is_like [] = true
are_distinct is_like (x ∷ xs) = not (list_any (is_like x) xs) && are_distinct is_like xs

-- Two indices of Classes that name the same class.
abbrev pub is_like_class : List PoolEntry → ℕ → ℕ → Bool
is_like_class pool i j = are_equal (class_name pool i) (class_name pool j)

-- the index of a member's name and that of its descriptor
abbrev pub NameAndDescriptor : Type 0
NameAndDescriptor = ℕ × ℕ

abbrev pub is_like_member : List PoolEntry → NameAndDescriptor → NameAndDescriptor → Bool
is_like_member pool m n = are_equal (text_of pool m.0) (text_of pool n.0) && are_equal (text_of pool m.1) (text_of pool n.1)

abbrev pub field_member : FieldTree → NameAndDescriptor
field_member f = (f.name, f.desc)

abbrev pub method_member : MethodTree → NameAndDescriptor
method_member m = (m.name, m.desc)

-- ---- fields (4.5)

-- the descriptors of an int in a constant pool (4.7.2)
abbrev pub is_int_type : List ℕ → Bool
is_int_type desc = bytes_eq desc (codes "I") || bytes_eq desc (codes "S") || bytes_eq desc (codes "C") || bytes_eq desc (codes "B") || bytes_eq desc (codes "Z")

abbrev pub is_string_type : List ℕ → Bool
is_string_type desc = bytes_eq desc (codes "Ljava/lang/String;")

-- An entry is a constant for fields with the descriptor at this index (4.7.2).
abbrev pub is_constant_for : List PoolEntry → ℕ → Option PoolEntry → Bool
is_constant_for pool desc (Some (Integer bits)) = has_text pool desc is_int_type
is_constant_for pool desc (Some (Float bits)) = has_text pool desc (λ d. bytes_eq d (codes "F"))
is_constant_for pool desc (Some (Long bits)) = has_text pool desc (λ d. bytes_eq d (codes "J"))
is_constant_for pool desc (Some (Double bits)) = has_text pool desc (λ d. bytes_eq d (codes "D"))
is_constant_for pool desc (Some (Str string)) = has_text pool desc is_string_type
is_constant_for pool desc _ = false

-- A field that has a constant is static, and the constant suits its descriptor (4.7.2).
abbrev pub has_its_constant : List PoolEntry → FieldTree → Bool
has_its_constant pool f = f.value == 0 || (is_static f.flags && is_constant_for pool f.desc (slice_get pool f.value))

abbrev pub is_field_declaration : ClassTree → FieldTree → Bool
is_field_declaration t f =
    has_text t.pool f.name is_member_name && has_text t.pool f.desc is_field_type
    && are_field_flags (is_interface t.flags) f.flags && has_its_constant t.pool f

-- ---- methods (4.6)

abbrev pub is_clinit : List ℕ → Bool
is_clinit name = bytes_eq name (codes "<clinit>")

-- a name without '<' and '>', or <init> or <clinit> (4.2.2)
abbrev pub is_declared_name : List ℕ → Bool
is_declared_name name = is_method_name name || is_clinit name

-- ()V
abbrev pub is_plain_void : List ℕ → Bool
is_plain_void desc = bytes_eq desc (codes "()V")

-- the slots that the parameters of a method descriptor take
abbrev pub slots_in : Option JavaMethod → Option ℕ
slots_in (Some m) = Some (slots_of m.parameters)
slots_in None = None

abbrev pub parameter_slots : Option (List ℕ) → Option ℕ
parameter_slots (Some desc) = slots_in (method_type_of desc)
parameter_slots None = None

-- `this` takes one slot more in a method that isn't static (4.3.3)
abbrev pub this_slots : MethodTree → ℕ
this_slots m = if is_static m.flags then 0 else 1

abbrev pub are_within : Option ℕ → ℕ → ℕ → Bool
are_within (Some slots) this room = nat_le (slots + this) room
are_within None this room = false

-- The descriptor is that of a method, and its parameters take at most so many slots.
abbrev pub takes_within : List PoolEntry → MethodTree → ℕ → Bool
takes_within pool m room = are_within (parameter_slots (text_of pool m.desc)) (this_slots m) room

-- <clinit> is static and ()V, and its other flags aren't looked at (2.9).
abbrev pub is_initializer : List PoolEntry → MethodTree → Bool
is_initializer pool m = is_static m.flags && has_text pool m.desc is_plain_void

-- <init> returns V, and isn't in an interface (2.9, 4.6).
abbrev pub is_constructor : ClassTree → MethodTree → Bool
is_constructor t m = are_init_flags m.flags && has_text t.pool m.desc returns_void && not (is_interface t.flags)

-- What the name asks of the flags and the descriptor.
unfoldable pub suits_its_name : ClassTree → MethodTree → Bool
suits_its_name t m =
    if has_text t.pool m.name is_clinit then is_initializer t.pool m
    else if has_text t.pool m.name is_init then are_method_flags t.major (is_interface t.flags) m.flags && is_constructor t m
    else are_method_flags t.major (is_interface t.flags) m.flags

-- A handler covers a range within the code that isn't empty, goes on within it, and catches a Class or everything (4.7.3).
abbrev pub is_handler : List PoolEntry → ℕ → Handler → Bool
is_handler pool size h =
    nat_lt h.start h.end && nat_le h.end size && nat_lt h.handler size && (h.catch == 0 || is_class pool h.catch)

-- 1 to 65,535 bytes, handlers within them, and room for the parameters (4.7.3)
unfoldable pub is_code : List PoolEntry → MethodTree → CodeTree → Bool
is_code pool m c =
    is_within 1 65535 (length c.bytes) && list_all (is_handler pool (length c.bytes)) c.handlers && takes_within pool m c.locals

-- <clinit>, and a method that is neither native nor abstract, has code, and no other method has (4.7.3).
abbrev pub has_code : List PoolEntry → MethodTree → Bool
has_code pool m = has_text pool m.name is_clinit || (not (is_native m.flags) && not (is_abstract m.flags))

abbrev pub is_code_of : List PoolEntry → MethodTree → Option CodeTree → Bool
is_code_of pool m None = not (has_code pool m)
is_code_of pool m (Some c) = has_code pool m && is_code pool m c

abbrev pub is_method_declaration : ClassTree → MethodTree → Bool
is_method_declaration t m =
    has_text t.pool m.name is_declared_name && takes_within t.pool m 255
    && suits_its_name t m && is_code_of t.pool m m.code

-- ---- the class (4.1)

-- java/lang/Object has no superclass, and every other class has one.
abbrev pub has_its_super : ClassTree → Bool
has_its_super t = if is_object_class t.pool t.this then t.sup == 0 else is_plain_class t.pool t.sup

-- The superclass of an interface is java/lang/Object.
abbrev pub suits_its_kind : ClassTree → Bool
suits_its_kind t = not (is_interface t.flags) || is_object_class t.pool t.sup

-- what is said of the class itself, its members aside
unfoldable pub is_class_declaration : ClassTree → Bool
is_class_declaration t =
    is_within 50 52 t.major && are_class_flags t.flags && is_plain_class t.pool t.this && has_its_super t && suits_its_kind t
    && list_all (is_plain_class t.pool) t.interfaces

unfoldable pub are_declared : ClassTree → Bool
are_declared t = list_all (is_field_declaration t) t.fields && list_all (is_method_declaration t) t.methods

-- no two interfaces, fields or methods alike
unfoldable pub has_distinct_parts : ClassTree → Bool
has_distinct_parts t =
    are_distinct (is_like_class t.pool) t.interfaces
    && are_distinct (is_like_member t.pool) (map field_member t.fields)
    && are_distinct (is_like_member t.pool) (map method_member t.methods)

unfoldable pub is_well_formed : ClassTree → Bool
is_well_formed t = is_class_declaration t && are_declared t && has_distinct_parts t
