-- The record of a class that loads, as far as it is known before it is linked: its class file (JVMS 4.1, 4.4 to 4.6) with
-- names in place of indices, the loader and the folder, and where its fields stand.
use Rattle.std.specs.Prelude.{ℕ, ◌+◌, List, [], ◌∷◌, map, filter, length, sum, Bool, not, if◌then◌else◌, Option, Some, None}
use Rattle.std.specs.Option.{option_map}
use Rattle.class_tree.specs.declared.constant_pool.PoolEntry.{PoolEntry}
use Rattle.class_tree.specs.declared.constant_pool.PoolEntry.TheVariants as entries
use Rattle.class_tree.specs.declared.tree.ClassTree.{ClassTree}
use Rattle.class_tree.specs.declared.tree.FieldTree.{FieldTree}
use Rattle.class_tree.specs.declared.tree.MethodTree.{MethodTree}
use Rattle.class_tree.specs.declared.tree.CodeTree.{CodeTree}
use Rattle.class_tree.specs.WellFormed.{text_of}
use Rattle.class_tree.specs.Flags as access
use Rattle.loader_rules.specs.declared.loader.Loader.{Loader}
use Rattle.loader_rules.specs.declared.loader.Loader.TheVariants.{App}
use Rattle.class_record.specs.declared.record.PoolName.{PoolName}
use Rattle.class_record.specs.declared.record.PoolName.TheVariants as names
use Rattle.class_record.specs.declared.record.FieldRecord.{FieldRecord}
use Rattle.class_record.specs.declared.record.MethodRecord.{MethodRecord}
use Rattle.class_record.specs.declared.record.CodeRecord.{CodeRecord}
use Rattle.class_record.specs.Files.{Name, RunFiles}
use Rattle.class_tree.specs.ClassNames.{or_empty, own_name, sup_name, interface_names}
use Rattle.class_record.specs.Loading.{FoundClass, class_of}
use Rattle.class_record.specs.Ancestors.{supers}
use Rattle.class_record.specs.Facts.{Facts}

-- ---- the constant pool (4.4)

-- the Utf8 text at an index (4.4.7)
abbrev pub text_at : List PoolEntry → ℕ → List ℕ
text_at pool index = or_empty (text_of pool index)

-- an entry (4.4.1 to 4.4.10): classes, strings and descriptors by their texts, members by the indices of their entries
abbrev pub pool_name : List PoolEntry → PoolEntry → PoolName
pool_name pool entries.Unusable = names.Unusable
pool_name pool (entries.Utf8 text) = names.Utf8 text
pool_name pool (entries.Integer bits) = names.Integer bits
pool_name pool (entries.Float bits) = names.Float bits
pool_name pool (entries.Long bits) = names.Long bits
pool_name pool (entries.Double bits) = names.Double bits
pool_name pool (entries.Class name) = names.Class (text_at pool name)
pool_name pool (entries.Str text) = names.Str (text_at pool text)
pool_name pool (entries.Fieldref class member) = names.Fieldref class member
pool_name pool (entries.Methodref class member) = names.Methodref class member
pool_name pool (entries.InterfaceMethodref class member) = names.InterfaceMethodref class member
pool_name pool (entries.NameAndType name desc) = names.NameAndType (text_at pool name) (text_at pool desc)
pool_name pool (entries.MethodHandle kind member) = names.MethodHandle kind member
pool_name pool (entries.MethodType desc) = names.MethodType (text_at pool desc)
pool_name pool (entries.InvokeDynamic bootstrap member) = names.InvokeDynamic bootstrap member

-- ---- fields and methods (4.5, 4.6)

-- ACC_STATIC (4.5)
abbrev pub is_static : FieldTree → Bool
is_static f = access.is_static f.flags

-- a field (4.5) with its slot and its ConstantValue (4.7.2)
abbrev pub field_record : List PoolEntry → ℕ → FieldTree → FieldRecord
field_record pool slot f = record { name = text_at pool f.name; desc = text_at pool f.desc; flags = f.flags; slot = slot; value = f.value }

-- The next instance field gets the one slot, the next static field the other, in the order of the array fields (4.1, 4.5).
unfoldable pub field_records : List PoolEntry → ℕ → ℕ → List FieldTree → List FieldRecord
field_records pool instance static [] = []
field_records pool instance static (f ∷ fs) =
    if is_static f then field_record pool static f ∷ field_records pool instance (static + 1) fs
    else field_record pool instance f ∷ field_records pool (instance + 1) static fs

abbrev pub instance_fields : List FieldTree → ℕ
instance_fields fs = length (filter (λ f. not (is_static f)) fs)

abbrev pub static_fields : List FieldTree → ℕ
static_fields fs = length (filter is_static fs)

-- the code of a method (4.7.3)
abbrev pub code_record : CodeTree → CodeRecord
code_record c = record { stack = c.stack; locals = c.locals; bytes = c.bytes; handlers = c.handlers }

-- a method (4.6)
abbrev pub method_record : List PoolEntry → MethodTree → MethodRecord
method_record pool m = record { name = text_at pool m.name; desc = text_at pool m.desc; flags = m.flags; code = option_map code_record m.code }

-- ---- the class (4.1)

-- The facts of a class with this tree, which the loader defines by a file of the folder, and whose superclass's objects
-- have so many fields. Its own instance fields follow those, and its static fields begin at 0.
unfoldable pub facts_of : Loader → ℕ → ℕ → ClassTree → Facts
facts_of loader folder above t = record {
  name = own_name t;
  flags = t.flags;
  loader = loader;
  folder = folder;
  major = t.major;
  sup = sup_name t;
  interfaces = interface_names t;
  pool = map (pool_name t.pool) t.pool;
  fields = field_records t.pool above 0 t.fields;
  methods = map (method_record t.pool) t.methods;
  instance_size = above + instance_fields t.fields;
  static_size = static_fields t.fields;
}

abbrev pub own_size_in : Option FoundClass → ℕ
own_size_in None = 0
own_size_in (Some c) = instance_fields c.tree.fields

-- how many instance fields the class of a name declares
abbrev pub own_size : RunFiles → Name → ℕ
own_size p name = own_size_in (class_of p App name)

-- how many the superclasses of a class declare
abbrev pub size_above : RunFiles → Name → ℕ
size_above p name = sum (map (own_size p) (supers p name))

-- the facts of the class of a name
abbrev pub record_of : RunFiles → Name → Option Facts
record_of p name = option_map (λ c. facts_of c.file.loader c.file.folder (size_above p name) c.tree) (class_of p App name)
