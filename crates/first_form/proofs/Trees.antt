-- What the first form takes from a well-formed tree.
use Rattle.std.proofs.Common.{◌≡◌, ◌≤◌, ℕ, Bool, true, false, cond, List, [], ◌∷◌, length, Option, Some, None, IsTrue, refl, sym, ap, subst, ◌∙◌}
use Rattle.std.specs.Prelude.{◌&&◌, find}
use Rattle.std.specs.List.{list_all}
use Rattle.std.proofs.lemmas.Bool.{leb-true, and_parts}
use Rattle.jsa_base.proofs.Codecs.{some_is}
use Rattle.class_tree.specs.declared.tree.CodeTree.{CodeTree}
use Rattle.class_tree.specs.declared.tree.MethodTree.{MethodTree}
use Rattle.class_tree.specs.declared.tree.ClassTree.{ClassTree}
use Rattle.class_tree.specs.Links.{holds}
use Rattle.class_tree.specs.WellFormed.{class_name, is_code, is_code_of, is_method_declaration, is_class_declaration, are_declared, is_well_formed}

held : (text : Option (List ℕ)) (test : List ℕ → Bool) → holds text test ≡ true → (name : List ℕ) × (text ≡ Some name)
held (Some name) test h = (name, refl)
held None test h = absurd cc

-- What is found has what all have.
has_it : {A : Type 0} (test q : A → Bool) (xs : List A) (x : A) → list_all q xs ≡ true → find test xs ≡ Some x → q x ≡ true
has_it test q [] x all h = absurd cc
has_it {A} test q (y ∷ ys) x all h =
    let b = and_parts (q y) (list_all q ys) all in
    first (test y) b.0 (has_it test q ys x b.1) h
  where
    first : (found : Bool) → q y ≡ true → (find test ys ≡ Some x → q x ≡ true) → cond found (Some y) (find test ys) ≡ Some x → q x ≡ true
    first true here others e = ap q (sym (some_is y x e)) ∙ here
    first false here others e = others e

-- The code of a method has at most 65,535 bytes.
pub code_is_short : (t : ClassTree) (test : MethodTree → Bool) (m : MethodTree) (c : CodeTree) → IsTrue (is_well_formed t) → find test t.methods ≡ Some m → m.code ≡ Some c → length c.bytes ≤ 65_535
unfolding is_well_formed are_declared is_code
code_is_short t test m c formed found coded =
    let whole = and_parts _ _ formed in
    let declared = and_parts _ _ (and_parts _ _ whole.0).1 in
    let method = and_parts _ _ (has_it test (is_method_declaration t) t.methods m declared.1 found) in
    let code : is_code_of t.pool m (Some c) ≡ true = subst (λ (o : Option CodeTree). is_code_of t.pool m o ≡ true) coded method.1 in
    let size = and_parts _ _ (and_parts _ _ (and_parts _ _ (and_parts _ _ code).1).0).0 in
    leb-true (length c.bytes) 65_535 size.1

-- The class has a name.
pub class_is_named : (t : ClassTree) → IsTrue (is_well_formed t) → (name : List ℕ) × (class_name t.pool t.this ≡ Some name)
unfolding is_well_formed is_class_declaration
class_is_named t formed =
    let a = and_parts _ _ (and_parts _ _ formed).0 in
    let b = and_parts _ _ a.0 in
    let c = and_parts _ _ b.0 in
    let d = and_parts _ _ c.0 in
    let e = and_parts _ _ d.0 in
    held _ _ e.1
