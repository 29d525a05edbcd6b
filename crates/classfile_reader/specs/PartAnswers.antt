-- What the functions that read and build the parts of a class file answer.
use Rattle.std.specs.Prelude.{◌≡◌, ℕ, List, Bool, true, false, Option, Some, None, Result, Ok, Err}
use Rattle.jsa_base.specs.Reading.{Read}
use Rattle.class_tree.specs.declared.fault.FormatFault.{FormatFault}
use Rattle.class_tree.specs.declared.fault.FormatFault.TheVariants.{NotClass, Version}
use Rattle.class_tree.specs.declared.tree.ClassTree.{ClassTree}
use Rattle.class_tree.specs.declared.tree.FieldTree.{FieldTree}
use Rattle.class_tree.specs.declared.tree.MethodTree.{MethodTree}
use Rattle.class_tree.specs.ClassFiles.{ClassParts}
use Rattle.class_tree.specs.Trees.{have_names, each, field_of, method_of, tree_of}
use Rattle.class_tree.specs.Outcomes.{Fails}
use Rattle.class_tree.specs.Spells.{is_read_version, tree_behind}

-- The value, as VIEW shows it, and the bytes that are left are what reading gives, unless memory ran out.
abbrev pub Shows : {X Y : Type 0} → (X → Y) → Result X FormatFault → List ℕ → Read Y → Type 0
Shows view (Ok x) left read = read ≡ Some (view x, left)
Shows view (Err fault) left read = Fails fault read

-- The value, as VIEW shows it, is this one, unless memory ran out.
abbrev pub Builds : {X Y : Type 0} → (X → Y) → Result X FormatFault → Option Y → Type 0
Builds view (Ok x) value = value ≡ Some (view x)
Builds view (Err fault) value = Fails fault value

-- The fields and the methods of a class whose attributes have names, unless memory ran out. Where they fail, no tree is made.
abbrev pub BuildsMembers : Result (List FieldTree × List MethodTree) FormatFault → ℕ → ClassParts → Type 0
BuildsMembers (Ok x) major p = (have_names p.pool p.attributes ≡ true) × (each (field_of p.pool) p.fields ≡ Some x.0) × (each (method_of p.pool) p.methods ≡ Some x.1)
BuildsMembers (Err fault) major p = Fails fault (tree_of major p)

-- what is found of a name after one more attribute
abbrev pub kept : Option (List ℕ) → Bool → List ℕ → Option (Option (List ℕ))
kept found false content = Some found
kept None true content = Some (Some content)
kept (Some other) true content = None

-- What is answered behind a version.
abbrev pub AnswersBehind : Bool → Result ClassTree FormatFault → ℕ → ℕ → List ℕ → Type 0
AnswersBehind true result minor major rest = Builds (λ tree. tree) result (tree_behind major rest)
AnswersBehind false result minor major rest = result ≡ Err (Version minor major)

-- What is answered, by what is read of the version.
abbrev pub AnswersVersion : Result ClassTree FormatFault → Read (ℕ × ℕ) → Type 0
AnswersVersion result None = result ≡ Err NotClass
AnswersVersion result (Some version) = AnswersBehind (is_read_version version.0.0 version.0.1) result version.0.0 version.0.1 version.1
