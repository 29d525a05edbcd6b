-- What is so of loaded classes, whatever world they come from: what a class is based on was loaded before it, and the
-- fields of its objects follow those of its superclass.
use Rattle.std.specs.Prelude.{◌≡◌, ℕ, ◌+◌, ◌<◌, ◌^◌, List, [], ◌∷◌, map, filter, length, Bool, true, false, not, if◌then◌else◌, Option, Some, None}
use Rattle.std.specs.List.{AllByRecursion}
use Rattle.std.specs.Option.{IfSome}
use Rattle.std.specs.Str.{bytes_eq}
use Rattle.class_tree.specs.Flags as access
use Rattle.class_record.specs.declared.record.FieldRecord.{FieldRecord}
use Rattle.class_record.specs.declared.record.MethodRecord.{MethodRecord}
use Rattle.class_record.specs.Files.{Name}
use Rattle.class_record.specs.Loading.{is_among}
use Rattle.class_record.specs.Facts.{Facts, names_of, code_of}

-- the size of an object of the class of a name
abbrev pub size_in : List Facts → Name → ℕ
size_in [] name = 0
size_in (f ∷ older) name = if bytes_eq f.name name then f.instance_size else size_in older name

abbrev pub size_of_super : List Facts → Option Name → ℕ
size_of_super older None = 0
size_of_super older (Some sup) = size_in older sup

abbrev pub is_static : FieldRecord → Bool
is_static f = access.is_static f.flags

-- the slots of fields, where the next instance field gets the one and the next static field the other
abbrev pub slots_from : ℕ → ℕ → List FieldRecord → List ℕ
slots_from instance static [] = []
slots_from instance static (f ∷ fs) = if is_static f then static ∷ slots_from instance (static + 1) fs else instance ∷ slots_from (instance + 1) static fs

abbrev pub IsShort : MethodRecord → Type 0
IsShort m = length (code_of m.code) < 2 ^ 16

pub record IsBuiltOn (older : List Facts) (f : Facts) : Type 0 where
  pub is_new : is_among f.name (names_of older) ≡ false
  pub sup : IfSome f.sup (λ name. is_among name (names_of older) ≡ true)
  pub interfaces : AllByRecursion (λ name. is_among name (names_of older) ≡ true) f.interfaces
  pub instance_size : f.instance_size ≡ size_of_super older f.sup + length (filter (λ field. not (is_static field)) f.fields)
  pub static_size : f.static_size ≡ length (filter is_static f.fields)
  pub slots : map (λ field. field.slot) f.fields ≡ slots_from (size_of_super older f.sup) 0 f.fields
  pub interface_count : length f.interfaces < 2 ^ 16
  pub pool_count : length f.pool < 2 ^ 16
  pub field_count : length f.fields < 2 ^ 16
  pub method_count : length f.methods < 2 ^ 16
  pub codes : AllByRecursion IsShort f.methods

-- classes that were loaded one after the other, the newest first
abbrev pub AreBuilt : List Facts → Type 0
AreBuilt [] = Unit {0}
AreBuilt (f ∷ older) = IsBuiltOn older f × AreBuilt older
