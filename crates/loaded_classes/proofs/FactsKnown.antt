-- What is known of a class is what its class file says.
use Rattle.std.proofs.Common.{◌≡◌, ℕ, zero, suc, ◌+◌, Bool, true, false, List, [], ◌∷◌, map, length, Option, Some, None, slice_get, refl, sym, ap, ◌∙◌}
use Rattle.std.proofs.lemmas.List.{length-map}
use Rattle.std.specs.Option.{option_map}
use Rattle.std.proofs.lemmas.Option.{slice_get-map}
use Rattle.class_tree.specs.declared.constant_pool.PoolEntry.{PoolEntry}
use Rattle.class_tree.specs.declared.tree.FieldTree.{FieldTree}
use Rattle.class_record.specs.declared.record.FieldRecord.{FieldRecord}
use Rattle.class_tree.specs.ClassNames.{own_name, sup_name, interface_names}
use Rattle.class_record.specs.Facts as known
use Rattle.class_record.specs.Facts.{Facts, with_class}
use Rattle.class_record.specs.Records.{facts_of, field_records, is_static, method_record, pool_name}
use Rattle.loaded_classes.specs.declared.held.HeldClass.{HeldClass}
use Rattle.loaded_classes.specs.Held.{facts_in, facts_list, pool_length}
use Rattle.loaded_classes.specs.Slots.{field_slots, with_slot}

-- ---- the fields

record_here : (b : Bool) (pool : List PoolEntry) (instance static k : ℕ) (f : FieldTree) (fs : List FieldTree) → is_static f ≡ b
    → ((i s j : ℕ) → slice_get (field_records pool i s fs) j ≡ with_slot pool (slice_get (field_slots i s fs) j) (slice_get fs j))
    → slice_get (field_records pool instance static (f ∷ fs)) k ≡ with_slot pool (slice_get (field_slots instance static (f ∷ fs)) k) (slice_get (f ∷ fs) k)
unfolding field_records
record_here true pool instance static zero f fs e later = rw e refl
record_here true pool instance static (suc k) f fs e later = rw e (later instance (static + 1) k)
record_here false pool instance static zero f fs e later = rw e refl
record_here false pool instance static (suc k) f fs e later = rw e (later (instance + 1) static k)

pub field_records_at : (pool : List PoolEntry) (fs : List FieldTree) (instance static k : ℕ) → slice_get (field_records pool instance static fs) k ≡ with_slot pool (slice_get (field_slots instance static fs) k) (slice_get fs k)
unfolding field_records
field_records_at pool [] instance static k = refl
field_records_at pool (f ∷ fs) instance static k = record_here (is_static f) pool instance static k f fs refl (field_records_at pool fs)

-- ---- the class at a place

module _ (fs : List Facts) (id : ℕ) (h : HeldClass) (is : slice_get fs id ≡ Some (facts_in h)) where
  pub part_at : {A : Type 0} (none : A) (part : Facts → A) → with_class none part (slice_get fs id) ≡ part (facts_in h)
  part_at none part = ap (with_class none part) is

  pub sup_known : known.sup_at fs id ≡ sup_name h.tree
  unfolding facts_of
  sup_known = part_at None (λ f. f.sup)

  pub name_known : known.name_at fs id ≡ own_name h.tree
  unfolding facts_of
  name_known = part_at [] (λ f. f.name)

  pub interfaces_known : known.interfaces_at fs id ≡ interface_names h.tree
  unfolding facts_of
  interfaces_known = part_at [] (λ f. f.interfaces)

  pub pool_known : known.pool_of fs id ≡ map (pool_name h.tree.pool) h.tree.pool
  unfolding facts_of
  pool_known = part_at [] (λ f. f.pool)

  pub methods_known : with_class [] (λ f. f.methods) (slice_get fs id) ≡ map (method_record h.tree.pool) h.tree.methods
  unfolding facts_of
  methods_known = part_at [] (λ f. f.methods)

  pub field_known : (k : ℕ) → h.slots ≡ field_slots h.above 0 h.tree.fields → known.field_at fs id k ≡ with_slot h.tree.pool (slice_get h.slots k) (slice_get h.tree.fields k)
  unfolding facts_of
  field_known k slots =
      ap (λ (rs : List FieldRecord). slice_get rs k) (part_at [] (λ f. f.fields)) ∙ field_records_at h.tree.pool h.tree.fields h.above 0 k
      ∙ ap (λ (ns : List ℕ). with_slot h.tree.pool (slice_get ns k) (slice_get h.tree.fields k)) (sym slots)

length_of : (o : Option HeldClass) → pool_length o ≡ length (with_class [] (λ f. f.pool) (option_map facts_in o))
unfolding facts_of
length_of None = refl
length_of (Some h) = sym (length-map h.tree.pool (pool_name h.tree.pool))

-- Each class has as many words as entries in its pool.
pub pool_lengths : (held : List HeldClass) (id : ℕ) → pool_length (slice_get held id) ≡ length (known.pool_of (facts_list held) id)
pool_lengths held id = rw slice_get-map (length_of (slice_get held id))
