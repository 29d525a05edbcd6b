-- A class that is loaded next stands on those that are loaded.
use Rattle.std.proofs.Common.{◌≡◌, ℕ, suc, ◌+◌, ◌<◌, ◌≤◌, ◌^◌, Bool, true, false, not, List, [], ◌∷◌, ◌++◌, map, length, filter, Option, Some, None, refl, sym, ap, ◌∙◌, arith}
use Rattle.std.specs.List.{filter_map, cons_option, AllByRecursion}
use Rattle.std.specs.Option.{IfSome, option_map, option_to_list}
use Rattle.std.proofs.lemmas.List.{length-map}
use Rattle.class_tree.specs.declared.constant_pool.PoolEntry.{PoolEntry}
use Rattle.class_tree.specs.declared.tree.ClassTree.{ClassTree}
use Rattle.class_tree.specs.declared.tree.FieldTree.{FieldTree}
use Rattle.class_tree.specs.declared.tree.MethodTree.{MethodTree}
use Rattle.class_tree.specs.declared.tree.CodeTree.{CodeTree}
use Rattle.class_tree.specs.WellFormed.{class_name}
use Rattle.loader_rules.specs.declared.loader.Loader.{Loader}
use Rattle.class_record.specs.declared.bases.BaseKind.{BaseKind}
use Rattle.class_record.specs.declared.bases.BaseKind.TheVariants.{Superclass, Superinterface}
use Rattle.class_record.specs.declared.record.FieldRecord.{FieldRecord}
use Rattle.class_record.specs.Files.{Name}
use Rattle.class_record.specs.declared.bases.Base.{Base}
use Rattle.class_record.specs.Trees.{HasShortLists, base_of, bases_of, bytes_of}
use Rattle.class_tree.specs.ClassNames.{own_name, sup_name, interface_names}
use Rattle.class_record.specs.Facts.{Facts, names_of, code_of}
use Rattle.class_record.specs.Loading.{is_among}
use Rattle.class_record.specs.Built as built
use Rattle.class_record.specs.Built.{IsBuiltOn, IsShort, size_of_super, slots_from}
use Rattle.class_record.specs.Records as records
use Rattle.class_record.specs.Records.{facts_of, field_records, field_record, instance_fields, static_fields, code_record, method_record, pool_name}

-- ---- its fields

module _ (pool : List PoolEntry) where
  slots_by : (b : Bool) (instance static : ℕ) (f : FieldTree) (fs : List FieldTree) → records.is_static f ≡ b
      → ((i s : ℕ) → map (λ (r : FieldRecord). r.slot) (field_records pool i s fs) ≡ slots_from i s (field_records pool i s fs))
      → map (λ (r : FieldRecord). r.slot) (field_records pool instance static (f ∷ fs)) ≡ slots_from instance static (field_records pool instance static (f ∷ fs))
  unfolding field_records
  slots_by true instance static f fs e later = rw (e, e) (ap (λ (ns : List ℕ). static ∷ ns) (later instance (static + 1)))
  slots_by false instance static f fs e later = rw (e, e) (ap (λ (ns : List ℕ). instance ∷ ns) (later (instance + 1) static))

  pub slots_right : (fs : List FieldTree) (instance static : ℕ) → map (λ (r : FieldRecord). r.slot) (field_records pool instance static fs) ≡ slots_from instance static (field_records pool instance static fs)
  unfolding field_records
  slots_right [] instance static = refl
  slots_right (f ∷ fs) instance static = slots_by (records.is_static f) instance static f fs refl (slots_right fs)

  length_by : (b : Bool) (instance static : ℕ) (f : FieldTree) (fs : List FieldTree) → records.is_static f ≡ b → ((i s : ℕ) → length (field_records pool i s fs) ≡ length fs)
      → length (field_records pool instance static (f ∷ fs)) ≡ length (f ∷ fs)
  unfolding field_records
  length_by true instance static f fs e later = rw e (ap suc (later instance (static + 1)))
  length_by false instance static f fs e later = rw e (ap suc (later (instance + 1) static))

  pub length_right : (fs : List FieldTree) (instance static : ℕ) → length (field_records pool instance static fs) ≡ length fs
  unfolding field_records
  length_right [] instance static = refl
  length_right (f ∷ fs) instance static = length_by (records.is_static f) instance static f fs refl (length_right fs)

  static_by : (b : Bool) (instance static : ℕ) (f : FieldTree) (fs : List FieldTree) → records.is_static f ≡ b → ((i s : ℕ) → length (filter built.is_static (field_records pool i s fs)) ≡ static_fields fs)
      → length (filter built.is_static (field_records pool instance static (f ∷ fs))) ≡ static_fields (f ∷ fs)
  unfolding field_records
  static_by true instance static f fs e later = rw (e, e) (ap suc (later instance (static + 1)))
  static_by false instance static f fs e later = rw (e, e) (later (instance + 1) static)

  pub static_right : (fs : List FieldTree) (instance static : ℕ) → length (filter built.is_static (field_records pool instance static fs)) ≡ static_fields fs
  unfolding field_records
  static_right [] instance static = refl
  static_right (f ∷ fs) instance static = static_by (records.is_static f) instance static f fs refl (static_right fs)

  instance_by : (b : Bool) (instance static : ℕ) (f : FieldTree) (fs : List FieldTree) → records.is_static f ≡ b
      → ((i s : ℕ) → length (filter (λ (r : FieldRecord). not (built.is_static r)) (field_records pool i s fs)) ≡ instance_fields fs)
      → length (filter (λ (r : FieldRecord). not (built.is_static r)) (field_records pool instance static (f ∷ fs))) ≡ instance_fields (f ∷ fs)
  unfolding field_records
  instance_by true instance static f fs e later = rw (e, e) (later instance (static + 1))
  instance_by false instance static f fs e later = rw (e, e) (ap suc (later (instance + 1) static))

  pub instance_right : (fs : List FieldTree) (instance static : ℕ) → length (filter (λ (r : FieldRecord). not (built.is_static r)) (field_records pool instance static fs)) ≡ instance_fields fs
  unfolding field_records
  instance_right [] instance static = refl
  instance_right (f ∷ fs) instance static = instance_by (records.is_static f) instance static f fs refl (instance_right fs)

  -- ---- its methods

  code_same : (code : Option CodeTree) → length (bytes_of code) < 2 ^ 16 → length (code_of (option_map code_record code)) < 2 ^ 16
  code_same None h = h
  code_same (Some c) h = h

  pub codes_short : (ms : List MethodTree) → AllByRecursion (λ (m : MethodTree). length (bytes_of m.code) < 2 ^ 16) ms → AllByRecursion IsShort (map (method_record pool) ms)
  codes_short [] all = tt
  codes_short (m ∷ ms) all = (code_same m.code all.0, codes_short ms all.1)

-- ---- what it is based on

all_front : {A : Type 0} (P : A → Type 0) (xs ys : List A) → AllByRecursion P (xs ++ ys) → AllByRecursion P xs
all_front P [] ys all = tt
all_front P (x ∷ xs) ys all = (all.0, all_front P xs ys all.1)

all_behind : {A : Type 0} (P : A → Type 0) (xs ys : List A) → AllByRecursion P (xs ++ ys) → AllByRecursion P ys
all_behind P [] ys all = all
all_behind P (x ∷ xs) ys all = all_behind P xs ys all.1

all_names : (P : Name → Type 0) (kind : BaseKind) (ns : List Name) → AllByRecursion (λ (base : Base). P base.name) (map (base_of kind) ns) → AllByRecursion P ns
all_names P kind [] all = tt
all_names P kind (n ∷ ns) all = (all.0, all_names P kind ns all.1)

of_option : (P : Name → Type 0) (o : Option Name) → AllByRecursion P (option_to_list o) → IfSome o P
of_option P None all = tt
of_option P (Some n) all = all.0

pub sup_among : (P : Name → Type 0) (tree : ClassTree) → AllByRecursion (λ (base : Base). P base.name) (bases_of tree) → IfSome (sup_name tree) P
sup_among P tree all =
    of_option P (sup_name tree) (all_names P Superclass (option_to_list (sup_name tree))
    (all_front (λ (base : Base). P base.name) (map (base_of Superclass) (option_to_list (sup_name tree))) (map (base_of Superinterface) (interface_names tree)) all))

pub interfaces_among : (P : Name → Type 0) (tree : ClassTree) → AllByRecursion (λ (base : Base). P base.name) (bases_of tree) → AllByRecursion P (interface_names tree)
interfaces_among P tree all =
    all_names P Superinterface (interface_names tree)
    (all_behind (λ (base : Base). P base.name) (map (base_of Superclass) (option_to_list (sup_name tree))) (map (base_of Superinterface) (interface_names tree)) all)

short_by : {B : Type 0} (o : Option B) (ys : List B) (n : ℕ) → length ys ≤ n → length (cons_option o ys) ≤ n + 1
short_by None ys n h = omega arith
short_by (Some y) ys n h = omega arith

filter_map_short : {A B : Type 0} (f : A → Option B) (xs : List A) → length (filter_map f xs) ≤ length xs
filter_map_short f [] = omega arith
filter_map_short f (x ∷ xs) = let h = short_by (f x) (filter_map f xs) (length xs) (filter_map_short f xs) in omega (arith, h)

-- ---- the class

pub built_on : (older : List Facts) (loader : Loader) (folder above : ℕ) (tree : ClassTree) → is_among (own_name tree) (names_of older) ≡ false
    → AllByRecursion (λ (base : Base). is_among base.name (names_of older) ≡ true) (bases_of tree) → HasShortLists tree → above ≡ size_of_super older (sup_name tree)
    → IsBuiltOn older (facts_of loader folder above tree)
unfolding facts_of
built_on older loader folder above tree fresh bases short is = record {
  is_new = fresh;
  sup = sup_among (λ (n : Name). is_among n (names_of older) ≡ true) tree bases;
  interfaces = interfaces_among (λ (n : Name). is_among n (names_of older) ≡ true) tree bases;
  instance_size = ap (λ (n : ℕ). n + instance_fields tree.fields) is ∙ ap (λ (n : ℕ). size_of_super older (sup_name tree) + n) (sym (instance_right tree.pool tree.fields above 0));
  static_size = sym (static_right tree.pool tree.fields above 0);
  slots = slots_right tree.pool tree.fields above 0 ∙ ap (λ (n : ℕ). slots_from n 0 (field_records tree.pool above 0 tree.fields)) is;
  interface_count = let h = filter_map_short (class_name tree.pool) tree.interfaces in omega (arith, h, short.interfaces);
  pool_count = rw length-map short.pool;
  field_count = rw length_right short.fields;
  method_count = rw length-map short.methods;
  codes = codes_short tree.pool tree.methods short.codes;
}
