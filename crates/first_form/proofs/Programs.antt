-- What is answered of the program of a class.
use Rattle.std.proofs.Common.{◌≡◌, ℕ, List, Option, Some, None, Result, Ok, Err, sym, ap, ◌∙◌}
use Rattle.jsa_base.proofs.Codecs.{some_is}
use Rattle.class_tree.specs.declared.tree.ClassTree.{ClassTree}
use Rattle.class_tree.specs.Spells.{Spells}
use Rattle.class_tree.proofs.TreesSpelled as trees
use Rattle.first_form.specs.declared.fault.FormFault.{FormFault}
use Rattle.first_form.specs.declared.fault.FormFault.TheVariants.{NotFirstForm, Memory}
use Rattle.first_form.specs.declared.program.Program.{Program}
use Rattle.first_form.specs.Outcomes.{Yields}
use Rattle.first_form.specs.Program.{program_of}
use Rattle.first_form.specs.FirstForm.{IsFirstForm, Accepts, OneProgram, IsTreeOf}

-- A class of the first form has the program of its tree.
pub has_program : (bytes : List ℕ) (tree : ClassTree) (program : Program) → Spells bytes tree → IsFirstForm bytes program → program_of tree ≡ Some program
has_program bytes tree program spelled is = ap program_of (trees.one_is bytes tree is.tree spelled is.spelled) ∙ is.form

-- what is answered of the tree of a class
pub accepts : (bytes : List ℕ) (tree : ClassTree) (result : Result Program FormFault) → Spells bytes tree → Yields result (program_of tree) → Accepts bytes result
accepts bytes tree (Ok program) spelled h = record { tree = tree; spelled = spelled; form = h }
accepts bytes tree (Err NotFirstForm) spelled h = λ program is. none_some program (sym h ∙ has_program bytes tree program spelled is)
  where
    none_some : (program : Program) → ◌≡◌ {A = Option Program} None (Some program) → ⊥
    none_some program e = cc
accepts bytes tree (Err Memory) spelled h = tt

-- what is answered where no tree is
pub refuses : (bytes : List ℕ) (e : FormFault) → IsTreeOf bytes (Err e) → Accepts bytes (Err e)
refuses bytes NotFirstForm h = λ program is. h is.tree is.spelled
refuses bytes Memory h = tt

pub one_is : OneProgram
one_is bytes p q a b = some_is p q (sym a.form ∙ has_program bytes a.tree q a.spelled b)
