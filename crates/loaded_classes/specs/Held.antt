-- Auxiliary: what is so of the classes as they are held. A class stands for its name, by its place in the load order.
use Rattle.std.specs.Prelude.{◌≡◌, ℕ, ◌+◌, ◌*◌, ◌<◌, ◌≤◌, List, [], ◌∷◌, map, length, Bool, true, false, Option, Some, None, Result, Ok, Err, slice_get}
use Rattle.std.specs.Global.{Vec}
use Rattle.std.specs.HashMap.{HashMap, get_by}
use Rattle.std.specs.Str.{bytes_eq}
use Rattle.loader_rules.specs.declared.loader.Loader.{Loader}
use Rattle.class_tree.specs.declared.tree.ClassTree.{ClassTree}
use Rattle.class_record.specs.declared.fault.TheConstants.{MAX_LOADED}
use Rattle.class_record.specs.declared.fault.JavaFault.{JavaFault}
use Rattle.class_record.specs.declared.fault.JavaFault.TheVariants.{NoClassDefFoundError}
use Rattle.class_record.specs.declared.facts.ClassId.{ClassId}
use Rattle.class_record.specs.Files.{Name, sees}
use Rattle.class_record.specs.Trees.{HasShortLists}
use Rattle.class_tree.specs.ClassNames.{own_name, sup_name, interface_names}
use Rattle.class_record.specs.Facts.{Facts, names_of}
use Rattle.class_record.specs.Ancestors.{newest, superinterfaces_in}
use Rattle.class_record.specs.Built.{AreBuilt, size_in}
use Rattle.class_record.specs.Records.{facts_of, instance_fields, static_fields}
use Rattle.loaded_classes.specs.declared.held.HeldClass.{HeldClass}
use Rattle.loaded_classes.specs.Slots.{field_slots}
use Rattle.loaded_classes.specs.Table.{ClassTable, row_at}

abbrev pub facts_in : HeldClass → Facts
facts_in h = facts_of h.loader h.folder h.above h.tree

abbrev pub facts_list : List HeldClass → List Facts
facts_list held = map facts_in held

abbrev pub tree_in : HeldClass → ClassTree
tree_in h = h.tree

abbrev pub trees_list : List HeldClass → List ClassTree
trees_list held = map tree_in held

-- The name that is wanted is that of this class, which was loaded before the class `id`, or none is wanted.
abbrev pub IsId : List Name → ℕ → Option Name → Option ℕ → Type 0
IsId names id wanted None = wanted ≡ None
IsId names id wanted (Some found) = (found < id) × (slice_get names found ≡ wanted)

-- The names that are wanted are those of these classes, which were loaded before the class `id`.
abbrev pub AreIds : List Name → ℕ → List Name → List ℕ → Type 0
AreIds names id [] [] = Unit {0}
AreIds names id [] (n ∷ ns) = ⊥
AreIds names id (w ∷ ws) [] = ⊥
AreIds names id (w ∷ ws) (n ∷ ns) = (n < id) × (slice_get names n ≡ Some w) × AreIds names id ws ns

-- What is held of the class with a number is so. At most 65,535 fields a class keep the sizes small.
pub record IsHeld (classes : List Facts) (id : ℕ) (h : HeldClass) : Type 0 where
  pub short : HasShortLists h.tree
  pub sup : IsId (names_of classes) id (sup_name h.tree) h.sup
  pub interfaces : AreIds (names_of classes) id (interface_names h.tree) h.interfaces
  pub superinterfaces : AreIds (names_of classes) id (superinterfaces_in (newest classes) (own_name h.tree)) h.superinterfaces
  pub slots : h.slots ≡ field_slots h.above 0 h.tree.fields
  pub instance_size : h.instance_size ≡ h.above + instance_fields h.tree.fields
  pub static_size : h.static_size ≡ static_fields h.tree.fields
  pub size : size_in (newest classes) (own_name h.tree) ≡ h.instance_size
  pub small : h.instance_size ≤ 65535 * (id + 1)

-- ---- the map from names to places

abbrev pub known_at : {S : Type 0} → HashMap (Vec ℕ) ℕ S → Name → Option ℕ
known_at places name = get_by (λ key. bytes_eq name key.items) places

-- The place of each name is known, and only those.
pub record Knows {S : Type 0} (places : HashMap (Vec ℕ) ℕ S) (names : List Name) : Type 0 where
  pub found : (name : Name) (id : ℕ) → known_at places name ≡ Some id → slice_get names id ≡ Some name
  pub stands : (id : ℕ) (name : Name) → slice_get names id ≡ Some name → known_at places name ≡ Some id

-- ---- the whole

abbrev pub pool_length : Option HeldClass → ℕ
pool_length None = 0
pool_length (Some h) = length h.tree.pool

pub record AreKept {S : Type 0} (held : List HeldClass) (linked : List Bool) (words : List (List ℕ)) (places : HashMap (Vec ℕ) ℕ S) : Type 0 where
  pub built : AreBuilt (newest (facts_list held))
  pub few : length held ≤ MAX_LOADED
  pub linked_count : length linked ≡ length held
  pub word_count : length words ≡ length held
  pub right : (id : ℕ) (h : HeldClass) → slice_get held id ≡ Some h → IsHeld (facts_list held) id h
  pub fits : (id : ℕ) → length (row_at words id) ≡ pool_length (slice_get held id)
  pub known : Knows places (names_of (facts_list held))

abbrev pub table_of : List HeldClass → List Bool → List (List ℕ) → ClassTable
table_of held linked words = record { classes = facts_list held; trees = trees_list held; linked = linked; words = words }

-- ---- what a loader finds

abbrev pub sees_class : Loader → Option Facts → Bool
sees_class from None = false
sees_class from (Some f) = sees from f.loader

-- It is the class of this name, and the loader sees it. The fault comes exactly where there is none.
abbrev pub Finds : List Facts → Loader → Name → Result ClassId JavaFault → Type 0
Finds fs from name (Ok id) = (slice_get (names_of fs) id.0 ≡ Some name) × (sees_class from (slice_get fs id.0) ≡ true)
Finds fs from name (Err fault) = (fault ≡ NoClassDefFoundError) × ((id : ℕ) → slice_get (names_of fs) id ≡ Some name → sees_class from (slice_get fs id) ≡ false)
