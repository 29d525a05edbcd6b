-- The name inside a class of the first form.
use Rattle.std.proofs.Common.{◌≡◌, ℕ, List, Option, Some, None, Result, Ok, Err, sym, ap, ◌∙◌}
use Rattle.jsa_base.specs.Reading.{◌>>=◌}
use Rattle.jsa_base.proofs.Codecs.{bind_some, some_is}
use Rattle.class_tree.specs.declared.tree.ClassTree.{ClassTree}
use Rattle.class_tree.specs.Spells.{Spells}
use Rattle.class_tree.specs.WellFormed.{class_name}
use Rattle.class_tree.proofs.TreesSpelled as trees
use Rattle.first_form.specs.declared.fault.FormFault.{FormFault}
use Rattle.first_form.specs.declared.fault.FormFault.TheVariants.{NotFirstForm, Memory}
use Rattle.first_form.specs.declared.program.Program.{Program}
use Rattle.first_form.specs.Outcomes.{Yields}
use Rattle.first_form.specs.Program.{program_of}
use Rattle.first_form.specs.FirstForm.{IsFirstForm, IsNamedForm, IsClassNamed, HasName, OneName, EachClassIsNamed, IsTreeOf, name_of}
use Rattle.first_form.proofs.Trees.{class_is_named}

-- A class of the first form with a name inside is a class of the first form.
pub named_is_form : (bytes name : List ℕ) (program : Program) → IsNamedForm bytes name program → IsFirstForm bytes program
named_is_form bytes name program is = record { tree = is.tree; spelled = is.spelled; form = is.form }

pub each_is_named : EachClassIsNamed
each_is_named bytes program is =
    let n = class_is_named is.tree is.spelled.formed in
    (n.0, record { tree = is.tree; spelled = is.spelled; form = is.form; named = n.1 })

-- A class with a name inside has the name of its tree.
tree_is_named : (bytes name : List ℕ) (tree : ClassTree) → Spells bytes tree → IsClassNamed bytes name → name_of tree ≡ Some name
unfolding name_of
tree_is_named bytes name tree spelled c =
    let is = c.1 in
    ap (λ (t : ClassTree). program_of t >>= λ program. class_name t.pool t.this) (trees.one_is bytes tree is.tree spelled is.spelled)
    ∙ ap (λ (o : Option Program). o >>= λ program. class_name is.tree.pool is.tree.this) is.form
    ∙ is.named

-- what is answered of the tree of a class
pub has_name : (bytes : List ℕ) (tree : ClassTree) (result : Result (List ℕ) FormFault) → Spells bytes tree → Yields result (name_of tree) → HasName bytes result
unfolding name_of
has_name bytes tree (Ok name) spelled h =
    let b = bind_some (program_of tree) (λ program. class_name tree.pool tree.this) name h in
    (b.0, record { tree = tree; spelled = spelled; form = b.1; named = b.2 })
has_name bytes tree (Err NotFirstForm) spelled h = λ program is.
    let n = each_is_named bytes program is in
    none_some n.0 (sym h ∙ tree_is_named bytes n.0 tree spelled (program, n.1))
  where
    none_some : (name : List ℕ) → ◌≡◌ {A = Option (List ℕ)} None (Some name) → ⊥
    none_some name e = cc
has_name bytes tree (Err Memory) spelled h = tt

-- what is answered where no tree is
pub has_no_name : (bytes : List ℕ) (e : FormFault) → IsTreeOf bytes (Err e) → HasName bytes (Err e)
has_no_name bytes NotFirstForm h = λ program is. h is.tree is.spelled
has_no_name bytes Memory h = tt

pub one_inside : OneName
one_inside bytes n m a b = some_is n m (sym (tree_is_named bytes n a.1.tree a.1.spelled a) ∙ tree_is_named bytes m a.1.tree a.1.spelled b)
