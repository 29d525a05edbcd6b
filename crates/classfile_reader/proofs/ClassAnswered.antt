-- Which answer the bytes have, by what is read of them.
use Rattle.std.proofs.Common.{◌≡◌, ℕ, Bool, true, false, List, Option, Some, None, Result, Ok, Err, refl, sym, ap, subst, ◌∙◌}
use Rattle.jsa_base.specs.Reading.{◌>>=◌, Read, IsBytes, when}
use Rattle.jsa_base.proofs.Codecs.{some_is}
use Rattle.class_tree.specs.declared.fault.FormatFault.{FormatFault}
use Rattle.class_tree.specs.declared.fault.FormatFault.TheVariants.{NotClass, Version, Memory}
use Rattle.class_tree.specs.declared.tree.ClassTree.{ClassTree}
use Rattle.class_tree.specs.ClassReading.{version_at}
use Rattle.class_tree.specs.Spells.{Spells, IsOtherVersion, HasNoTree, is_read_version, tree_behind, tree_at}
use Rattle.class_tree.proofs.TreesSpelled.{trees_are_spelled, versions_are_written, other_versions_have_no_tree, one_is}
use Rattle.classfile_reader.specs.PartAnswers.{AnswersBehind, AnswersVersion}
use Rattle.classfile_reader.specs.ClassAnswers.{ClassAnswers, IsUnlessMemory, HasNoOtherVersion}

abbrev some : {A : Type 0} → A → Option A
some x = Some x

-- the numbers of a version, and the bytes behind it
abbrev VersionRead : Type 0
VersionRead = (ℕ × ℕ) × List ℕ

abbrev is_read : VersionRead → Bool
is_read version = is_read_version version.0.0 version.0.1

nothing : {A : Type 0} (x : A) (r : Option A) → r ≡ None → r ≡ Some x → ⊥
nothing x None h k = absurd cc
nothing x (Some y) h k = absurd cc

both_ways : (b : Bool) → b ≡ true → b ≡ false → ⊥
both_ways true h k = absurd cc
both_ways false h k = absurd cc

-- ---- trees

-- what follows the version
abbrev tree_of_version : VersionRead → Option ClassTree
tree_of_version version = when (is_read version) >>= λ known. tree_behind version.0.1 version.1

tree_of_read : (bytes : List ℕ) (version : VersionRead) → version_at bytes ≡ Some version → is_read version ≡ true → tree_at bytes ≡ tree_behind version.0.1 version.1
unfolding tree_at
tree_of_read bytes version head known =
    ap (λ (r : Read (ℕ × ℕ)). r >>= tree_of_version) head
    ∙ ap (λ (b : Bool). when b >>= λ known. tree_behind version.0.1 version.1) known

tree_of_none : (bytes : List ℕ) → version_at bytes ≡ None → tree_at bytes ≡ None
unfolding tree_at
tree_of_none bytes head = ap (λ (r : Read (ℕ × ℕ)). r >>= tree_of_version) head

has_no_tree : (bytes : List ℕ) → IsBytes bytes → tree_at bytes ≡ None → HasNoTree bytes
has_no_tree bytes fits none tree spelled = nothing tree (tree_at bytes) none ((trees_are_spelled bytes tree fits).1 spelled)

-- ---- versions

has_no_version : (bytes : List ℕ) → IsBytes bytes → version_at bytes ≡ None → HasNoOtherVersion bytes
has_no_version bytes fits none minor major other =
    let v = (versions_are_written bytes minor major fits).1 other.0 in
    nothing ((minor, major), v.0) (version_at bytes) none v.1

has_a_read_version : (bytes : List ℕ) (version : VersionRead) → IsBytes bytes → version_at bytes ≡ Some version → is_read version ≡ true → HasNoOtherVersion bytes
has_a_read_version bytes version fits head known minor major other =
    let v = (versions_are_written bytes minor major fits).1 other.0 in
    let e = some_is version ((minor, major), v.0) (sym head ∙ v.1) in
    both_ways (is_read_version minor major) (subst (λ (x : VersionRead). is_read x ≡ true) e known) other.1

one_version : (bytes : List ℕ) (a b m n : ℕ) → IsBytes bytes → IsOtherVersion bytes a b → IsOtherVersion bytes m n → (a ≡ m) × (b ≡ n)
one_version bytes a b m n fits s t =
    let v = (versions_are_written bytes a b fits).1 s.0 in
    let w = (versions_are_written bytes m n fits).1 t.0 in
    let e = some_is ((a, b), v.0) ((m, n), w.0) (sym v.1 ∙ w.1) in
    (ap (λ (x : VersionRead). x.0.0) e, ap (λ (x : VersionRead). x.0.1) e)

-- ---- the answer

answered_behind : (bytes : List ℕ) (version : VersionRead) (known : Bool) (r : Result ClassTree FormatFault) → IsBytes bytes → version_at bytes ≡ Some version → is_read version ≡ known → AnswersBehind known r version.0.0 version.0.1 version.1 → ClassAnswers bytes r
answered_behind bytes version false r fits head known answers =
    subst (ClassAnswers bytes) (sym answers) ((versions_are_written bytes version.0.0 version.0.1 fits).0 (version.1, head), known)
answered_behind bytes version true (Ok tree) fits head known answers =
    (trees_are_spelled bytes tree fits).0 (tree_of_read bytes version head known ∙ answers)
answered_behind bytes version true (Err NotClass) fits head known answers = (
  has_no_tree bytes fits (tree_of_read bytes version head known ∙ answers),
  has_a_read_version bytes version fits head known,
)
answered_behind bytes version true (Err (Version minor major)) fits head known answers = absurd answers
answered_behind bytes version true (Err Memory) fits head known answers = tt

answered : (bytes : List ℕ) (read : Read (ℕ × ℕ)) (r : Result ClassTree FormatFault) → IsBytes bytes → version_at bytes ≡ read → AnswersVersion r read → ClassAnswers bytes r
answered bytes None r fits head answers = subst (ClassAnswers bytes) (sym answers) (has_no_tree bytes fits (tree_of_none bytes head), has_no_version bytes fits head)
answered bytes (Some version) r fits head answers = answered_behind bytes version (is_read version) r fits head refl answers

pub class_answered : (bytes : List ℕ) (r : Result ClassTree FormatFault) → IsBytes bytes → AnswersVersion r (version_at bytes) → ClassAnswers bytes r
class_answered bytes r fits answers = answered bytes (version_at bytes) r fits refl answers

-- ---- what has an answer has no other

pub tree_answered : (bytes : List ℕ) (r : Result ClassTree FormatFault) → ClassAnswers bytes r → (tree : ClassTree) → Spells bytes tree → IsUnlessMemory (Ok tree) r
tree_answered bytes (Ok other) answers tree s = ap (λ (t : ClassTree). Ok t) (one_is bytes other tree answers s)
tree_answered bytes (Err NotClass) answers tree s = absurd (answers.0 tree s)
tree_answered bytes (Err (Version minor major)) answers tree s = absurd (other_versions_have_no_tree bytes minor major answers tree s)
tree_answered bytes (Err Memory) answers tree s = tt

pub version_answered : (bytes : List ℕ) (r : Result ClassTree FormatFault) → IsBytes bytes → ClassAnswers bytes r → (minor major : ℕ) → IsOtherVersion bytes minor major → IsUnlessMemory (Err (Version minor major)) r
version_answered bytes (Ok tree) fits answers minor major other = absurd (other_versions_have_no_tree bytes minor major other tree answers)
version_answered bytes (Err NotClass) fits answers minor major other = absurd (answers.1 minor major other)
version_answered bytes (Err (Version m n)) fits answers minor major other =
    let e = one_version bytes m n minor major fits answers other in
    ap (λ (x : ℕ). Err (Version x n)) e.0 ∙ ap (λ (x : ℕ). Err (Version minor x)) e.1
version_answered bytes (Err Memory) fits answers minor major other = tt

pub none_answered : (bytes : List ℕ) (r : Result ClassTree FormatFault) → ClassAnswers bytes r → HasNoTree bytes → HasNoOtherVersion bytes → IsUnlessMemory (Err NotClass) r
none_answered bytes (Ok tree) answers none known = absurd (none tree answers)
none_answered bytes (Err NotClass) answers none known = refl
none_answered bytes (Err (Version minor major)) answers none known = absurd (known minor major answers)
none_answered bytes (Err Memory) answers none known = tt
