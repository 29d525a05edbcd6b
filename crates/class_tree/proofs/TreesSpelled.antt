-- What the reading of a class file says of its spelling.
use Rattle.std.proofs.Common.{◌≡◌, ℕ, ◌<◌, ◌≤◌, Bool, true, false, eqb, ◌&&◌, List, [], ◌++◌, Option, Some, IsFalse, refl, sym, ap, subst, ◌∙◌, arith, lit<}
use Rattle.std.specs.Prelude.{nat_le}
use Rattle.std.proofs.lemmas.Bool.{eqb-true, leb-true, and_parts}
use Rattle.std.proofs.lemmas.List.{append-nil}
use Rattle.jsa_base.specs.Reading.{◌>>=◌, Read, IsBytes, when, all_read}
use Rattle.jsa_base.specs.Codec.{Codec}
use Rattle.jsa_base.proofs.Codecs.{bind_some, some_is, all_read_is}
use Rattle.jsa_names.specs.Texts.{is_within}
use Rattle.class_tree.specs.declared.tree.ClassTree.{ClassTree}
use Rattle.class_tree.specs.declared.tree.FieldTree.{FieldTree}
use Rattle.class_tree.specs.declared.tree.MethodTree.{MethodTree}
use Rattle.class_tree.specs.ClassFiles.{ClassParts, parts_text, version_text, code_text, FitsCode}
use Rattle.class_tree.specs.ClassReading.{parts_at, code_at, version_at}
use Rattle.class_tree.specs.Trees.{have_names, each, field_of, method_of, tree_of}
use Rattle.class_tree.specs.WellFormed.{is_class_declaration, is_well_formed}
use Rattle.class_tree.specs.Spells.{Spells, OneTree, is_read_version, OtherVersionsHaveNoTree, tree_behind, tree_at, TreesAreSpelled, VersionsAreWritten, CodesAreSpelled}
use Rattle.class_tree.proofs.ClassCodecs.{passed, code_codec, parts_codec, version_codec, FitsLinked}

-- a whole text is read again
whole_again : {A : Type 0} (read : List ℕ → Read A) (spell : A → List ℕ) (Fits : A → Type 0) → Codec read spell Fits → (x : A) → Fits x → all_read (read (spell x)) ≡ Some x
whole_again read spell Fits c x fits = ap (λ (b : List ℕ). all_read (read b)) (sym (append-nil (spell x))) ∙ ap all_read (c.again x [] fits)

-- a test that holds goes on
goes_on : {A : Type 0} (b : Bool) (rest : Option A) → b ≡ true → (when b >>= λ known. rest) ≡ rest
goes_on true rest h = refl
goes_on false rest h = absurd cc

-- ---- the version

pub versions_are_written : VersionsAreWritten
versions_are_written bytes minor major fits = (
  λ h. let t = version_codec.takes bytes (minor, major) h.0 fits h.1 in record { rest = h.0; written = t.parts; fits = t.fits },
  λ v. (v.rest, ap version_at v.written ∙ version_codec.again (minor, major) v.rest v.fits),
)

-- the version of a tree
major_is : (major : ℕ) (p : ClassParts) (t : ClassTree) → tree_of major p ≡ Some t → t.major ≡ major
unfolding tree_of
major_is major p t h =
    let n = passed (have_names p.pool p.attributes) (each (field_of p.pool) p.fields >>= λ fields. behind_fields fields) t h in
    let a = bind_some (each (field_of p.pool) p.fields) behind_fields t n.1 in
    let b = bind_some (each (method_of p.pool) p.methods) (λ methods. Some (made a.0 methods)) t a.2 in
    sym (ap (λ (x : ClassTree). x.major) (some_is (made a.0 b.0) t b.2))
  where
    made : List FieldTree → List MethodTree → ClassTree
    made fields methods = record { major = major; flags = p.flags; pool = p.pool; this = p.this; sup = p.sup; interfaces = p.interfaces; fields = fields; methods = methods }

    behind_fields : List FieldTree → Option ClassTree
    behind_fields fields = each (method_of p.pool) p.methods >>= λ methods. Some (made fields methods)

-- a well-formed tree has a version that is read
major_is_read : (t : ClassTree) → is_well_formed t ≡ true → is_read_version 0 t.major ≡ true
unfolding is_well_formed is_class_declaration
major_is_read t h =
    let a = (and_parts _ _ (and_parts _ _ h).0).0 in
    (and_parts _ _ (and_parts _ _ (and_parts _ _ (and_parts _ _ (and_parts _ _ a).0).0).0).0).0

-- ---- the tree

-- parts of which a tree is made
record MakesTree (major : ℕ) (bytes : List ℕ) (tree : ClassTree) : Type 0 where
  parts : ClassParts
  written : bytes ≡ parts_text parts
  fits : FitsLinked parts
  made : tree_of major parts ≡ Some tree
  formed : is_well_formed tree ≡ true

-- what follows the parts
abbrev well_formed_alone : ClassTree → Option ClassTree
well_formed_alone tree = when (is_well_formed tree) >>= λ formed. Some tree

abbrev made_of : ℕ → ClassParts → Option ClassTree
made_of major parts = tree_of major parts >>= well_formed_alone

behind_takes : (major : ℕ) (bytes : List ℕ) (tree : ClassTree) → IsBytes bytes → tree_behind major bytes ≡ Some tree → MakesTree major bytes tree
unfolding tree_behind
behind_takes major bytes tree fits h =
    let a = bind_some (all_read (parts_at bytes)) (made_of major) tree h in
    let b = bind_some (tree_of major a.0) well_formed_alone tree a.2 in
    let g = passed (is_well_formed b.0) (Some b.0) tree b.2 in
    let e : b.0 ≡ tree = some_is b.0 tree g.1 in
    let t = parts_codec.takes bytes a.0 [] fits (all_read_is (parts_at bytes) a.0 a.1) in
    record {
      parts = a.0;
      written = t.parts ∙ append-nil (parts_text a.0);
      fits = t.fits;
      made = b.1 ∙ ap (λ (x : ClassTree). Some x) e;
      formed = subst (λ (x : ClassTree). is_well_formed x ≡ true) e g.0;
    }

behind_again : (major : ℕ) (parts : ClassParts) (tree : ClassTree) → FitsLinked parts → tree_of major parts ≡ Some tree → is_well_formed tree ≡ true → tree_behind major (parts_text parts) ≡ Some tree
unfolding tree_behind
behind_again major parts tree fits made formed =
    ap (λ (o : Option ClassParts). o >>= made_of major) (whole_again parts_at parts_text FitsLinked parts_codec parts fits)
    ∙ ap (λ (o : Option ClassTree). o >>= well_formed_alone) made
    ∙ goes_on (is_well_formed tree) (Some tree) formed

-- what follows the version
abbrev tree_of_version : (ℕ × ℕ) × List ℕ → Option ClassTree
tree_of_version version = when (is_read_version version.0.0 version.0.1) >>= λ known. tree_behind version.0.1 version.1

tree_takes : (bytes : List ℕ) (tree : ClassTree) → IsBytes bytes → tree_at bytes ≡ Some tree → Spells bytes tree
unfolding tree_at
tree_takes bytes tree fits h =
    let a = bind_some (version_at bytes) tree_of_version tree h in
    let v = version_codec.takes bytes a.0.0 a.0.1 fits a.1 in
    let g = passed (is_read_version a.0.0.0 a.0.0.1) (tree_behind a.0.0.1 a.0.1) tree a.2 in
    let zero_is : a.0.0.0 ≡ 0 = eqb-true _ _ (and_parts (eqb a.0.0.0 0) (is_within 50 52 a.0.0.1) g.0).0 in
    let m = behind_takes a.0.0.1 a.0.1 tree v.rest_bytes g.1 in
    let same : tree.major ≡ a.0.0.1 = major_is a.0.0.1 m.parts tree m.made in
    record {
      parts = m.parts;
      written =
          v.parts ∙ ap (λ (r : List ℕ). version_text a.0.0.0 a.0.0.1 ++ r) m.written
          ∙ ap (λ (n : ℕ). version_text n a.0.0.1 ++ parts_text m.parts) zero_is
          ∙ ap (λ (n : ℕ). version_text 0 n ++ parts_text m.parts) (sym same);
      fits = m.fits.parts;
      linked = m.fits.linked;
      made = subst (λ (n : ℕ). tree_of n m.parts ≡ Some tree) (sym same) m.made;
      formed = m.formed;
    }

-- the major version of bytes that spell a tree
small_major : (n : ℕ) → is_within 50 52 n ≡ true → n < 65536
small_major n h =
    let upper : nat_le n 52 ≡ true = (and_parts (nat_le 50 n) (nat_le n 52) h).1 in
    let top : n ≤ 52 = leb-true n 52 upper in
    omega arith

pub has_its_version : (bytes : List ℕ) (tree : ClassTree) → Spells bytes tree → (rest : List ℕ) × (version_at bytes ≡ Some ((0, tree.major), rest)) × (tree_behind tree.major rest ≡ Some tree) × (is_read_version 0 tree.major ≡ true)
has_its_version bytes tree s =
    let known = major_is_read tree s.formed in
    let small : tree.major < 65536 = small_major tree.major known in (
      parts_text s.parts,
      ap version_at s.written ∙ version_codec.again (0, tree.major) (parts_text s.parts) (lit< tt, small),
      behind_again tree.major s.parts tree (record { parts = s.fits; linked = s.linked }) s.made s.formed,
      known,
    )

tree_again : (bytes : List ℕ) (tree : ClassTree) → Spells bytes tree → tree_at bytes ≡ Some tree
unfolding tree_at
tree_again bytes tree s =
    let v = has_its_version bytes tree s in
    ap (λ (o : Read (ℕ × ℕ)). o >>= tree_of_version) v.1
    ∙ goes_on (is_read_version 0 tree.major) (tree_behind tree.major v.0) v.3
    ∙ v.2

pub trees_are_spelled : TreesAreSpelled
trees_are_spelled bytes tree fits = (tree_takes bytes tree fits, tree_again bytes tree)

pub one_is : OneTree
one_is bytes s t a b = some_is s t (sym (tree_again bytes s a) ∙ tree_again bytes t b)

-- bytes of another version spell no tree
pub other_versions_have_no_tree : OtherVersionsHaveNoTree
other_versions_have_no_tree bytes minor major other tree s =
    let v = has_its_version bytes tree s in
    let w : version_at bytes ≡ Some ((minor, major), other.0.rest) = ap version_at other.0.written ∙ version_codec.again (minor, major) other.0.rest other.0.fits in
    let e = some_is ((0, tree.major), v.0) ((minor, major), other.0.rest) (sym v.1 ∙ w) in
    let known : is_read_version minor major ≡ true = subst (λ (x : (ℕ × ℕ) × List ℕ). is_read_version x.0.0 x.0.1 ≡ true) e v.3 in
    refuted (is_read_version minor major) known other.1
  where
    refuted : (b : Bool) → b ≡ true → IsFalse b → ⊥
    refuted true h k = absurd cc
    refuted false h k = absurd cc

pub codes_are_spelled : CodesAreSpelled
codes_are_spelled content code fits = (
  λ h. let t = code_codec.takes content code [] fits (all_read_is (code_at content) code h) in (t.parts ∙ append-nil (code_text code), t.fits),
  λ h. ap (λ (b : List ℕ). all_read (code_at b)) h.0 ∙ whole_again code_at code_text FitsCode code_codec code h.1,
)
