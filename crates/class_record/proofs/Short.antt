-- What is so of the tree of each class file: how long its lists are, and that what it is based on has names.
use Rattle.std.proofs.Common.{◌≡◌, ℕ, ◌<◌, ◌≤◌, Bool, true, false, ◌&&◌, List, [], ◌∷◌, length, Option, Some, None, refl, sym, ap, subst, ◌∙◌, arith, lit<}
use Rattle.std.specs.Prelude.{nat_le, suc}
use Rattle.std.specs.List.{filter_map, list_all, AllByRecursion}
use Rattle.std.proofs.lemmas.Bool.{leb-true, and_parts}
use Rattle.jsa_base.specs.Reading.{◌>>=◌}
use Rattle.jsa_base.proofs.Codecs.{bind_some, some_is}
use Rattle.jsa_names.specs.Texts.{is_within}
use Rattle.jsa_names.specs.Names.{is_class_name}
use Rattle.class_tree.specs.declared.constant_pool.PoolEntry.{PoolEntry}
use Rattle.class_tree.specs.declared.tree.ClassTree.{ClassTree}
use Rattle.class_tree.specs.declared.tree.FieldTree.{FieldTree}
use Rattle.class_tree.specs.declared.tree.MethodTree.{MethodTree}
use Rattle.class_tree.specs.declared.tree.CodeTree.{CodeTree}
use Rattle.class_tree.specs.ClassFiles.{ClassParts}
use Rattle.class_tree.specs.Links.{holds}
use Rattle.class_tree.specs.Trees.{have_names, each, field_of, method_of, tree_of}
use Rattle.class_tree.specs.WellFormed.{class_name, is_plain_class, is_code, is_code_of, is_method_declaration, is_class_declaration, are_declared, is_well_formed}
use Rattle.class_tree.specs.Spells.{Spells}
use Rattle.class_tree.proofs.ClassCodecs.{passed}
use Rattle.class_tree.specs.ClassNames.{interface_names}
use Rattle.class_record.specs.Trees.{bytes_of, HasShortLists}

-- ---- a tree and its parts

each_length : {A B : Type 0} (make : A → Option B) (xs : List A) (ys : List B) → each make xs ≡ Some ys → length ys ≡ length xs
unfolding each
each_length make [] ys h = ap length (sym (some_is [] ys h))
each_length make (x ∷ xs) ys h =
    let a = bind_some (make x) (λ first. each make xs >>= λ others. Some (first ∷ others)) ys h in
    let b = bind_some (each make xs) (λ others. Some (a.0 ∷ others)) ys a.2 in
    ap length (sym (some_is (a.0 ∷ b.0) ys b.2)) ∙ ap suc (each_length make xs b.0 b.1)

-- the lists of a tree are as long as those of its parts
record IsMadeOf (p : ClassParts) (t : ClassTree) : Type 0 where
  pool : length t.pool ≡ length p.pool
  interfaces : length t.interfaces ≡ length p.interfaces
  fields : length t.fields ≡ length p.fields
  methods : length t.methods ≡ length p.methods

tree_lists : (major : ℕ) (p : ClassParts) (t : ClassTree) → tree_of major p ≡ Some t → IsMadeOf p t
unfolding tree_of
tree_lists major p t h =
    let n = passed (have_names p.pool p.attributes) (each (field_of p.pool) p.fields >>= λ fields. behind_fields fields) t h in
    let a = bind_some (each (field_of p.pool) p.fields) behind_fields t n.1 in
    let b = bind_some (each (method_of p.pool) p.methods) (λ methods. Some (made a.0 methods)) t a.2 in
    let e : t ≡ made a.0 b.0 = sym (some_is (made a.0 b.0) t b.2) in
    record {
      pool = ap (λ (x : ClassTree). length x.pool) e;
      interfaces = ap (λ (x : ClassTree). length x.interfaces) e;
      fields = ap (λ (x : ClassTree). length x.fields) e ∙ each_length (field_of p.pool) p.fields a.0 a.1;
      methods = ap (λ (x : ClassTree). length x.methods) e ∙ each_length (method_of p.pool) p.methods b.0 b.1;
    }
  where
    made : List FieldTree → List MethodTree → ClassTree
    made fields methods = record { major = major; flags = p.flags; pool = p.pool; this = p.this; sup = p.sup; interfaces = p.interfaces; fields = fields; methods = methods }

    behind_fields : List FieldTree → Option ClassTree
    behind_fields fields = each (method_of p.pool) p.methods >>= λ methods. Some (made fields methods)

-- ---- code

short_code : (pool : List PoolEntry) (m : MethodTree) (c : CodeTree) → is_code pool m c ≡ true → length c.bytes < 65536
unfolding is_code
short_code pool m c h =
    let a = and_parts (is_within 1 65535 (length c.bytes)) _ (and_parts _ _ h).0 in
    let upper : nat_le (length c.bytes) 65535 ≡ true = (and_parts (nat_le 1 (length c.bytes)) (nat_le (length c.bytes) 65535) a.0).1 in
    let top : length c.bytes ≤ 65535 = leb-true (length c.bytes) 65535 upper in
    omega arith

short_if_any : (pool : List PoolEntry) (m : MethodTree) (o : Option CodeTree) → is_code_of pool m o ≡ true → length (bytes_of o) < 65536
short_if_any pool m None h = lit< tt
short_if_any pool m (Some c) h = short_code pool m c (and_parts _ _ h).1

short_codes : (t : ClassTree) (ms : List MethodTree) → list_all (is_method_declaration t) ms ≡ true → AllByRecursion (λ (m : MethodTree). length (bytes_of m.code) < 65536) ms
short_codes t [] h = tt
short_codes t (m ∷ ms) h =
    let a = and_parts (is_method_declaration t m) (list_all (is_method_declaration t) ms) h in
    (short_if_any t.pool m m.code (and_parts _ (is_code_of t.pool m m.code) a.0).1, short_codes t ms a.1)

methods_declared : (t : ClassTree) → is_well_formed t ≡ true → list_all (is_method_declaration t) t.methods ≡ true
unfolding is_well_formed are_declared
methods_declared t h = (and_parts _ _ (and_parts _ _ (and_parts _ _ h).0).1).1

-- The lists of a class file are as short as their counts can tell.
pub spelled_short : (bytes : List ℕ) (t : ClassTree) → Spells bytes t → HasShortLists t
spelled_short bytes t s =
    let l = tree_lists t.major s.parts t s.made in
    record {
      pool = subst (λ (n : ℕ). n < 65536) (sym l.pool) s.fits.pool.1;
      interfaces = subst (λ (n : ℕ). n < 65536) (sym l.interfaces) s.fits.interfaces.0;
      fields = subst (λ (n : ℕ). n < 65536) (sym l.fields) s.fits.fields.0;
      methods = subst (λ (n : ℕ). n < 65536) (sym l.methods) s.fits.methods.0;
      codes = short_codes t t.methods (methods_declared t s.formed);
    }

-- ---- names of superinterfaces

named : (pool : List PoolEntry) (indices : List ℕ) → list_all (is_plain_class pool) indices ≡ true → length (filter_map (class_name pool) indices) ≡ length indices
named pool [] h = refl
named pool (i ∷ indices) h =
    let a = and_parts (is_plain_class pool i) (list_all (is_plain_class pool) indices) h in
    by_case (class_name pool i) refl a.0 (named pool indices a.1)
  where
    by_case : (o : Option (List ℕ)) → class_name pool i ≡ o → holds o is_class_name ≡ true → length (filter_map (class_name pool) indices) ≡ length indices
        → length (filter_map (class_name pool) (i ∷ indices)) ≡ length (i ∷ indices)
    by_case None e k rest = absurd cc
    by_case (Some text) e k rest = rw e (ap suc rest)

interfaces_declared : (t : ClassTree) → is_well_formed t ≡ true → list_all (is_plain_class t.pool) t.interfaces ≡ true
unfolding is_well_formed is_class_declaration
interfaces_declared t h = (and_parts _ _ (and_parts _ _ (and_parts _ _ h).0).0).1

-- Each direct superinterface of a class file has a name.
pub spelled_bases : (bytes : List ℕ) (t : ClassTree) → Spells bytes t → length (interface_names t) ≡ length t.interfaces
spelled_bases bytes t s = named t.pool t.interfaces (interfaces_declared t s.formed)
