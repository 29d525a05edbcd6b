-- What a class is based on, and how long the lists of a class file are (JVMS 4.1).
use Rattle.std.specs.Prelude.{ℕ, ◌<◌, ◌^◌, List, [], length, Bool, not, map, Option, Some, None, ◌++◌}
use Rattle.std.specs.List.{AllByRecursion}
use Rattle.std.specs.Option.{option_to_list}
use Rattle.class_tree.specs.declared.tree.ClassTree.{ClassTree}
use Rattle.class_tree.specs.declared.tree.CodeTree.{CodeTree}
use Rattle.class_tree.specs.declared.tree.MethodTree.{MethodTree}
use Rattle.class_tree.specs.ClassNames.{sup_name, interface_names}
use Rattle.class_tree.specs.Flags.{is_interface}
use Rattle.class_record.specs.declared.bases.Base.{Base}
use Rattle.class_record.specs.declared.bases.BaseKind.{BaseKind}
use Rattle.class_record.specs.declared.bases.BaseKind.TheVariants.{Superclass, Superinterface}
use Rattle.class_record.specs.Files.{Name}

-- a class or an interface that another one is based on
abbrev pub base_of : BaseKind → Name → Base
base_of kind name = record { kind = kind; name = name }

-- the superclass, then the direct superinterfaces in their order, as they are loaded (5.3.5)
abbrev pub bases_of : ClassTree → List Base
bases_of t = map (base_of Superclass) (option_to_list (sup_name t)) ++ map (base_of Superinterface) (interface_names t)

-- A superclass is a class, and a superinterface an interface (5.3.5).
abbrev pub suits : BaseKind → ℕ → Bool
suits Superclass flags = not (is_interface flags)
suits Superinterface flags = is_interface flags

-- ---- how long its lists are

abbrev pub bytes_of : Option CodeTree → List ℕ
bytes_of None = []
bytes_of (Some c) = c.bytes

-- The lists are as short as each class file has them (4.1, 4.7.3).
pub record HasShortLists (t : ClassTree) : Type 0 where
  pub pool : length t.pool < 2 ^ 16
  pub interfaces : length t.interfaces < 2 ^ 16
  pub fields : length t.fields < 2 ^ 16
  pub methods : length t.methods < 2 ^ 16
  pub codes : AllByRecursion (λ (m : MethodTree). length (bytes_of m.code) < 2 ^ 16) t.methods
