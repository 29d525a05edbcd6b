-- Which bytes are a class of the first form, and with which program.
use Rattle.std.specs.Prelude.{◌≡◌, ℕ, List, Option, Some, None, Result, Ok, Err}
use Rattle.std.specs.Bool.{IsTrue}
use Rattle.jsa_base.specs.Reading.{◌>>=◌}
use Rattle.class_tree.specs.declared.tree.ClassTree.{ClassTree}
use Rattle.class_tree.specs.WellFormed.{class_name, is_well_formed}
use Rattle.class_tree.specs.Spells.{Spells, HasNoTree}
use Rattle.first_form.specs.declared.fault.FormFault.{FormFault}
use Rattle.first_form.specs.declared.fault.FormFault.TheVariants.{NotFirstForm, Memory}
use Rattle.first_form.specs.declared.program.Program.{Program}
use Rattle.first_form.specs.Program.{program_of}

-- The bytes are a class file (JVMS 4), and its tree has this program.
pub record IsFirstForm (bytes : List ℕ) (program : Program) : Type 0 where
  pub tree : ClassTree
  pub spelled : Spells bytes tree
  pub form : program_of tree ≡ Some program

-- the bytes of no class of the first form
abbrev pub IsOther : List ℕ → Type 0
IsOther bytes = (program : Program) → IsFirstForm bytes program → ⊥

-- What reading answers: the program, or a fault exactly where there is none, unless memory runs out.
abbrev pub Accepts : List ℕ → Result Program FormFault → Type 0
Accepts bytes (Ok program) = IsFirstForm bytes program
Accepts bytes (Err NotFirstForm) = IsOther bytes
Accepts bytes (Err Memory) = Unit {0}

-- A text has one program at most.
abbrev pub OneProgram : Type 0
OneProgram = (bytes : List ℕ) (p q : Program) → IsFirstForm bytes p → IsFirstForm bytes q → p ≡ q

-- What is answered of a tree: its program, or a fault exactly where it breaks a rule of form (4.1, 4.4 to 4.7) or has no
-- program, unless memory runs out.
abbrev pub HasProgram : ClassTree → Result Program FormFault → Type 0
HasProgram tree (Ok program) = IsTrue (is_well_formed tree) × (program_of tree ≡ Some program)
HasProgram tree (Err NotFirstForm) = IsTrue (is_well_formed tree) → program_of tree ≡ None
HasProgram tree (Err Memory) = Unit {0}

-- What is answered of the whole class: its tree, or a fault exactly where there is none, unless memory runs out.
abbrev pub IsTreeOf : List ℕ → Result ClassTree FormFault → Type 0
IsTreeOf bytes (Ok tree) = Spells bytes tree
IsTreeOf bytes (Err NotFirstForm) = HasNoTree bytes
IsTreeOf bytes (Err Memory) = Unit {0}

-- ---- the name inside (4.1, 4.2.1)

-- The bytes are a class of the first form with this program, and the class that they declare has this name.
pub record IsNamedForm (bytes name : List ℕ) (program : Program) : Type 0 where
  pub tree : ClassTree
  pub spelled : Spells bytes tree
  pub form : program_of tree ≡ Some program
  pub named : class_name tree.pool tree.this ≡ Some name

-- a class of the first form with this name inside
abbrev pub IsClassNamed : List ℕ → List ℕ → Type 0
IsClassNamed bytes name = (program : Program) × IsNamedForm bytes name program

-- What reading the name answers: the name, or a fault exactly where the bytes are no class of the first form, unless
-- memory runs out.
abbrev pub HasName : List ℕ → Result (List ℕ) FormFault → Type 0
HasName bytes (Ok name) = IsClassNamed bytes name
HasName bytes (Err NotFirstForm) = IsOther bytes
HasName bytes (Err Memory) = Unit {0}

-- A text has one name inside at most.
abbrev pub OneName : Type 0
OneName = (bytes n m : List ℕ) → IsClassNamed bytes n → IsClassNamed bytes m → n ≡ m

-- Each class of the first form has a name inside.
abbrev pub EachClassIsNamed : Type 0
EachClassIsNamed = (bytes : List ℕ) (program : Program) → IsFirstForm bytes program → (name : List ℕ) × IsNamedForm bytes name program

-- the name of a class tree, where it has the first form
unfoldable pub name_of : ClassTree → Option (List ℕ)
name_of t = program_of t >>= λ program. class_name t.pool t.this
