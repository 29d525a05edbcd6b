-- Constants of the pool, new, casts and monitors (JVM Specification SE 8, 4.10.1.9).
use Rattle.std.specs.Prelude.{ℕ, cond, List, Option, Some, None, Err, codes, slice_get, ◌==◌, if◌then◌else◌}
use Rattle.std.specs.List.{list_any}
use Rattle.class_tree.specs.declared.constant_pool.PoolEntry.{PoolEntry}
use Rattle.class_tree.specs.declared.constant_pool.PoolEntry.TheVariants as entries
use Rattle.class_tree.specs.WellFormed.{class_name}
use Rattle.verify_rules.specs.declared.types.VType.{VType}
use Rattle.verify_rules.specs.declared.types.VType.TheVariants as types
use Rattle.verify_rules.specs.declared.types.Unfinished.TheVariants.{MadeAt}
use Rattle.verify_rules.specs.declared.types.Frame.{Frame}
use Rattle.verify_rules.specs.Types.{is_made_at, turned_all}
use Rattle.verify_rules.specs.declared.letter.Letter.TheVariants.{Reference}
use Rattle.verify_rules.specs.declared.cause.Cause.TheVariants.{Written, Mismatch}
use Rattle.verify_rules.specs.Causes.{Typed, ◌>>=◌}
use Rattle.verify_rules.specs.Assign.{is_array}
use Rattle.verify_rules.specs.Letters.{pop_where, pop_letter, push, over, is_object_type}

-- ---- ldc, ldc_w, ldc2_w

-- what ldc and ldc_w put of an entry
abbrev pub constant_type : Option PoolEntry → Option VType
constant_type None = None
constant_type (Some entries.Unusable) = None
constant_type (Some (entries.Utf8 text)) = None
constant_type (Some (entries.Integer bits)) = Some types.Integer
constant_type (Some (entries.Float bits)) = Some types.Float
constant_type (Some (entries.Long bits)) = None
constant_type (Some (entries.Double bits)) = None
constant_type (Some (entries.Class name)) = Some (types.Object (codes "java/lang/Class"))
constant_type (Some (entries.Str text)) = Some (types.Object (codes "java/lang/String"))
constant_type (Some (entries.Fieldref class member)) = None
constant_type (Some (entries.Methodref class member)) = None
constant_type (Some (entries.InterfaceMethodref class member)) = None
constant_type (Some (entries.NameAndType name desc)) = None
constant_type (Some (entries.MethodHandle kind member)) = Some (types.Object (codes "java/lang/invoke/MethodHandle"))
constant_type (Some (entries.MethodType desc)) = Some (types.Object (codes "java/lang/invoke/MethodType"))
constant_type (Some (entries.InvokeDynamic bootstrap member)) = None

-- what ldc2_w puts of an entry
abbrev pub wide_constant_type : Option PoolEntry → Option VType
wide_constant_type None = None
wide_constant_type (Some entries.Unusable) = None
wide_constant_type (Some (entries.Utf8 text)) = None
wide_constant_type (Some (entries.Integer bits)) = None
wide_constant_type (Some (entries.Float bits)) = None
wide_constant_type (Some (entries.Long bits)) = Some types.Long
wide_constant_type (Some (entries.Double bits)) = Some types.Double
wide_constant_type (Some (entries.Class name)) = None
wide_constant_type (Some (entries.Str text)) = None
wide_constant_type (Some (entries.Fieldref class member)) = None
wide_constant_type (Some (entries.Methodref class member)) = None
wide_constant_type (Some (entries.InterfaceMethodref class member)) = None
wide_constant_type (Some (entries.NameAndType name desc)) = None
wide_constant_type (Some (entries.MethodHandle kind member)) = None
wide_constant_type (Some (entries.MethodType desc)) = None
wide_constant_type (Some (entries.InvokeDynamic bootstrap member)) = None

abbrev pub put_constant : ℕ → Option VType → List VType → Typed (List VType)
put_constant room None stack = Err Written
put_constant room (Some t) stack = push room t stack

unfoldable pub constant_put : ℕ → List PoolEntry → ℕ → ℕ → List VType → Typed (List VType)
constant_put room pool op k stack = put_constant room (if op == 0x14 then wide_constant_type (slice_get pool k) else constant_type (slice_get pool k)) stack

-- ---- new

-- Objects that this new made before are gone from the locals. None is left on the stack.
abbrev pub made : ℕ → ℕ → Frame → Typed Frame
made room place f =
    cond (list_any (is_made_at place) f.stack) (Err Mismatch)
    (over (record f { locals = turned_all (MadeAt place) types.Top f.locals }) (push room (types.Uninitialized place) f.stack))

-- a class, and no array
abbrev pub class_made : ℕ → ℕ → Option (List ℕ) → Frame → Typed Frame
class_made room place None f = Err Written
class_made room place (Some name) f = cond (is_array name) (Err Written) (made room place f)

unfoldable pub new_made : ℕ → List PoolEntry → ℕ → ℕ → Frame → Typed Frame
new_made room pool place k f = class_made room place (class_name pool k) f

-- ---- checkcast, instanceof, monitorenter, monitorexit

abbrev pub object_turned : ℕ → Option VType → List VType → Typed (List VType)
object_turned room None stack = Err Written
object_turned room (Some t) stack = pop_where is_object_type stack >>= λ s. push room t s

abbrev pub cast_type : Option (List ℕ) → Option VType
cast_type None = None
cast_type (Some name) = Some (types.Object name)

abbrev pub tested_type : Option (List ℕ) → Option VType
tested_type None = None
tested_type (Some name) = Some types.Integer

unfoldable pub cast : ℕ → List PoolEntry → ℕ → List VType → Typed (List VType)
cast room pool k stack = object_turned room (cast_type (class_name pool k)) stack

unfoldable pub tested : ℕ → List PoolEntry → ℕ → List VType → Typed (List VType)
tested room pool k stack = object_turned room (tested_type (class_name pool k)) stack

abbrev pub monitored : List VType → Typed (List VType)
monitored stack = pop_letter Reference stack
