-- What a method is typed in, and what its class file says of it by names.
use Rattle.std.specs.Prelude.{ℕ, List, ◌++◌, map, replicate, Bool, Option, Some}
use Rattle.jsa_base.specs.Reading.{◌>>=◌}
use Rattle.jsa_names.specs.Types.{JavaType, JavaMethod, Byte, Char, Double, Float, Int, Long, Short, Boolean, Class, Array, method_type_of, field_type_of}
use Rattle.class_tree.specs.declared.tree.ClassTree.{ClassTree}
use Rattle.class_tree.specs.declared.tree.MethodTree.{MethodTree}
use Rattle.class_tree.specs.declared.tree.CodeTree.{CodeTree}
use Rattle.class_tree.specs.declared.constant_pool.PoolEntry.{PoolEntry}
use Rattle.class_tree.specs.Links as links
use Rattle.class_tree.specs.WellFormed.{text_of}
use Rattle.loader_rules.specs.declared.loader.Loader.{Loader}
use Rattle.class_tree.specs.ClassNames.{or_empty, own_name}
use Rattle.verify_rules.specs.declared.types.VType.{VType}
use Rattle.verify_rules.specs.declared.types.VType.TheVariants as types
use Rattle.verify_rules.specs.Superclasses.{Superclass}

-- A method with its code, in its class: the class file, the loader that defines the class, and its superclasses from the direct one up.
pub record Env : Type 0 where
  pub tree : ClassTree
  pub loader : Loader
  pub supers : List Superclass
  pub method : MethodTree
  pub code : CodeTree

abbrev pub pool_of : Env → List PoolEntry
pool_of e = e.tree.pool

-- the class itself, by its name and as a type
abbrev pub this_name : Env → List ℕ
this_name e = own_name e.tree

abbrev pub this_type : Env → VType
this_type e = types.Object (this_name e)

abbrev pub is_named_init : List PoolEntry → MethodTree → Bool
is_named_init pool m = links.is_init (or_empty (text_of pool m.name))

-- the method is `<init>`
abbrev pub is_constructor : Env → Bool
is_constructor e = is_named_init (pool_of e) e.method

-- ---- descriptors (4.3)

-- The type that a value of a Java type has: boolean, byte, char and short are int, and an array goes by its descriptor.
abbrev pub vtype_of : JavaType → VType
vtype_of Byte = types.Integer
vtype_of Char = types.Integer
vtype_of Double = types.Double
vtype_of Float = types.Float
vtype_of Int = types.Integer
vtype_of Long = types.Long
vtype_of Short = types.Integer
vtype_of Boolean = types.Integer
vtype_of (Class name) = types.Object name
vtype_of (Array depth element) = types.Object (replicate depth 91 ++ element)

unfoldable pub vtypes_of : List JavaType → List VType
vtypes_of parameters = map vtype_of parameters

-- the type of a field with this descriptor
unfoldable pub field_vtype : List ℕ → Option VType
field_vtype desc = field_type_of desc >>= λ t. Some (vtype_of t)

-- the type of the method
unfoldable pub own_type : Env → Option JavaMethod
own_type e = text_of (pool_of e) e.method.desc >>= method_type_of
