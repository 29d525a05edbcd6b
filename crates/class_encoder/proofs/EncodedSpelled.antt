-- What is written of a tree that some bytes spell spells it.
use Rattle.std.proofs.Common.{◌≡◌, ℕ, ◌<◌, List, [], length, Option, Some, IsTrue, refl, sym, ap, subst, ◌∙◌, lit<}
use Rattle.jsa_base.specs.Reading.{◌>>=◌}
use Rattle.jsa_base.proofs.Codecs.{bind_some, some_is}
use Rattle.class_tree.specs.declared.constant_pool.PoolEntry.{PoolEntry}
use Rattle.class_tree.specs.declared.tree.FieldTree.{FieldTree}
use Rattle.class_tree.specs.declared.tree.MethodTree.{MethodTree}
use Rattle.class_tree.specs.declared.tree.ClassTree.{ClassTree}
use Rattle.class_tree.specs.ClassFiles.{ClassParts, FitsMember, FitsParts}
use Rattle.class_tree.specs.Links.{is_linked}
use Rattle.class_tree.specs.Trees.{have_names, field_of, method_of, each, tree_of}
use Rattle.class_tree.specs.Encoded.{field_member, method_member, parts_of, encoded, EncodedSpells}
use Rattle.class_tree.proofs.ClassCodecs.{passed}
use Rattle.class_encoder.proofs.AttributesAgain.{none_have_names}
use Rattle.class_encoder.proofs.CodesAgain.{goes_on}
use Rattle.class_encoder.proofs.MembersAgain.{AllAgain, field_again, method_again, all_again}

-- The parts that are written of a tree fit, and make the tree. Its pool is that of the parts which it was made of.
record PartsAgain (major : ℕ) (pool : List PoolEntry) (tree : ClassTree) : Type 0 where
  pool_is : pool ≡ tree.pool
  fits : FitsParts (parts_of tree)
  made : tree_of major (parts_of tree) ≡ Some tree

abbrev with_members : ℕ → ClassParts → List FieldTree → List MethodTree → ClassTree
with_members major p fields methods = record { major = major; flags = p.flags; pool = p.pool; this = p.this; sup = p.sup; interfaces = p.interfaces; fields = fields; methods = methods }

abbrev behind_fields : ℕ → ClassParts → List FieldTree → Option ClassTree
behind_fields major p fields = each (method_of p.pool) p.methods >>= λ methods. Some (with_members major p fields methods)

abbrev behind_names : ℕ → ClassParts → Option ClassTree
behind_names major p = each (field_of p.pool) p.fields >>= behind_fields major p

members_again : (major : ℕ) (p : ClassParts) (fields : List FieldTree) (methods : List MethodTree) → FitsParts p
    → AllAgain (field_of p.pool) FitsMember (field_member p.pool) fields (length p.fields) → AllAgain (method_of p.pool) FitsMember (method_member p.pool) methods (length p.methods)
    → PartsAgain major p.pool (with_members major p fields methods)
unfolding tree_of
members_again major p fields methods fits f m =
    let back = parts_of (with_members major p fields methods) in
    record {
      pool_is = refl;
      fits = record {
        pool = fits.pool;
        flags = fits.flags;
        this = fits.this;
        sup = fits.sup;
        interfaces = fits.interfaces;
        fields = (subst (λ (n : ℕ). n < 65536) (sym f.long) fits.fields.0, f.fits);
        methods = (subst (λ (n : ℕ). n < 65536) (sym m.long) fits.methods.0, m.fits);
        attributes = (lit< tt, tt);
      };
      made =
          goes_on (have_names p.pool []) (behind_names major back) (none_have_names p.pool)
          ∙ ap (λ (o : Option (List FieldTree)). o >>= behind_fields major back) f.made
          ∙ ap (λ (o : Option (List MethodTree)). o >>= λ x. Some (with_members major back fields x)) m.made;
    }

parts_again : (major : ℕ) (p : ClassParts) (tree : ClassTree) → FitsParts p → tree_of major p ≡ Some tree → PartsAgain major p.pool tree
unfolding tree_of
parts_again major p tree fits h =
    let n = passed (have_names p.pool p.attributes) (behind_names major p) tree h in
    let a = bind_some (each (field_of p.pool) p.fields) (behind_fields major p) tree n.1 in
    let b = bind_some (each (method_of p.pool) p.methods) (λ methods. Some (with_members major p a.0 methods)) tree a.2 in
    let f = all_again (field_of p.pool) FitsMember (field_member p.pool) (field_again p.pool) p.fields a.0 fits.fields.1 a.1 in
    let m = all_again (method_of p.pool) FitsMember (method_member p.pool) (method_again p.pool) p.methods b.0 fits.methods.1 b.1 in
    subst (PartsAgain major p.pool) (some_is (with_members major p a.0 b.0) tree b.2) (members_again major p a.0 b.0 fits f m)

pub encoded_spells : EncodedSpells
unfolding encoded
encoded_spells bytes t s =
    let a = parts_again t.major s.parts t s.fits s.made in
    record {
      parts = parts_of t;
      written = refl;
      fits = a.fits;
      linked = subst (λ (pool : List PoolEntry). IsTrue (is_linked pool)) a.pool_is s.linked;
      made = a.made;
      formed = s.formed;
    }
