-- Auxiliary: what is looked up of a class file before its class is loaded.
use Rattle.std.specs.Prelude.{◌≡◌, ℕ, ◌+◌, List}
use Rattle.std.specs.Global.{Vec}
use Rattle.std.specs.HashMap.{HashMap}
use Rattle.loader_rules.specs.declared.loader.Loader.{Loader}
use Rattle.class_tree.specs.declared.tree.ClassTree.{ClassTree}
use Rattle.class_record.specs.Records.{instance_fields, static_fields}
use Rattle.loaded_classes.specs.declared.held.HeldClass.{HeldClass}
use Rattle.loaded_classes.specs.declared.pushing.LookedUp.{LookedUp}
use Rattle.loaded_classes.specs.Slots.{field_slots}
use Rattle.loaded_classes.specs.Bases.{base_id, base_ids, superinterface_ids, size_at}

pub record IsLookedUp {S : Type 0} (held : List HeldClass) (places : HashMap (Vec ℕ) ℕ S) (tree : ClassTree) (up : LookedUp) : Type 0 where
  pub sup : up.sup ≡ base_id places tree.pool tree.sup
  pub above : up.above ≡ size_at held up.sup
  pub interfaces : up.interfaces ≡ base_ids places tree.pool tree.interfaces
  pub superinterfaces : up.superinterfaces ≡ superinterface_ids held up.sup up.interfaces
  pub slots : up.layout.slots ≡ field_slots up.above 0 tree.fields
  pub instance_size : up.layout.instance_size ≡ up.above + instance_fields tree.fields
  pub static_size : up.layout.static_size ≡ static_fields tree.fields

abbrev pub held_class : Loader → ℕ → ClassTree → LookedUp → HeldClass
held_class loader folder tree up = record {
  loader = loader;
  folder = folder;
  tree = tree;
  above = up.above;
  sup = up.sup;
  interfaces = up.interfaces;
  superinterfaces = up.superinterfaces;
  slots = up.layout.slots;
  instance_size = up.layout.instance_size;
  static_size = up.layout.static_size;
}
