-- What the definitions are worth.
use Rattle.std.specs.Prelude.{◌≡◌, true, ℕ, ◌<◌, List, [], ◌∷◌, ◌++◌, length, Option, Some, None, Ok}
use Rattle.std.specs.List.{AllByRecursion}
use Rattle.jsa_names.specs.Paths.{path_of}
use Rattle.jsa_ops.specs.Instruction.{Instruction}
use Rattle.jsa_ops.specs.Spelling.{text_of}
use Rattle.jsa_ops.specs.Reading.{decoded}
use Rattle.class_tree.specs.declared.constant_pool.PoolEntry.{PoolEntry}
use Rattle.class_tree.specs.declared.tree.ClassTree.{ClassTree}
use Rattle.class_tree.specs.WellFormed.{class_name}
use Rattle.asm_text.specs.declared.statement.Constant.{Constant}
use Rattle.asm_text.specs.declared.statement.MemberKind.{MemberKind}
use Rattle.asm_text.specs.declared.statement.MemberName.{MemberName}
use Rattle.asm_text.specs.declared.statement.Operation.{Operation}
use Rattle.asm_text.specs.declared.statement.CatchLine.{CatchLine}
use Rattle.asm_text.specs.declared.statement.FrameLine.{FrameLine}
use Rattle.asm_text.specs.declared.statement.Statement.{Statement}
use Rattle.asm_text.specs.declared.statement.Statement.TheVariants as statement
use Rattle.asm_text.specs.Operations.{operation_of}
use Rattle.pool_builder.specs.Laws.{IsBuilt, Builds}
use Rattle.class_asm.specs.declared.code_draft.MethodDraft.{MethodDraft}
use Rattle.class_asm.specs.declared.code_draft.CodeDraft.{CodeDraft}
use Rattle.asm_text.specs.declared.statement.CodeLine.{CodeLine}
use Rattle.class_asm.specs.Keys.{has_ascending_keys}
use Rattle.class_asm.specs.Needs.{constant_needed, member_needed}
use Rattle.class_asm.specs.Labels.{Label, place_of, labels_of, size}
use Rattle.class_asm.specs.Code.{resolved}
use Rattle.class_asm.specs.Drafts.{code_begun, label_passed, operation_added, handler_added, frame_added}
use Rattle.class_asm.specs.Assembly.{assembled}

-- ---- labels

-- An operation takes as many bytes as are counted for it where the places of labels are.
abbrev pub SizesStand : Type 0
SizesStand = (labels : List Label) (place : ℕ) (o : Operation) (pool after : List PoolEntry) (i : Instruction) → resolved labels place o pool ≡ Some (i, after) → length (text_of place i) ≡ size place o

-- The labels of a code are those that it passed, and then those of the lines that follow, each with the place where the
-- code behind it begins.
pub record Stands (code : CodeDraft) (rest : List (Option Statement)) : Type 0 where
  pub front : List Label
  pub labels : code.labels ≡ labels_of (front, length code.bytes) rest
  pub passed : code.passed ≡ length front
  pub few : length code.bytes < 65536

-- A label that a code passes has the place at which the code so far ends, and stays so.
pub record LabelStands (name : List ℕ) (code after : CodeDraft) (rest : List (Option Statement)) : Type 0 where
  pub here : place_of code.labels name ≡ Some (length code.bytes)
  pub still : Stands after rest

-- So it is from the first line of a code to its last.
pub record LabelsStand : Type 0 where
  pub begin : (line : CodeLine) (m : MethodDraft) (code : CodeDraft) (rest : List (Option Statement)) → code_begun line (labels_of ([], 0) rest) m ≡ Some code → Stands code rest
  pub label : (name : List ℕ) (code after : CodeDraft) (rest : List (Option Statement)) → Stands code (Some (statement.Label name) ∷ rest) → label_passed name code ≡ Some after → LabelStands name code after rest
  pub operation : (o : Operation) (code after : CodeDraft) (rest : List (Option Statement)) → Stands code (Some (statement.Operation o) ∷ rest) → operation_added o code ≡ Some after → Stands after rest
  pub handler : (line : CatchLine) (code after : CodeDraft) (rest : List (Option Statement)) → Stands code (Some (statement.Catch line) ∷ rest) → handler_added line code ≡ Some after → Stands after rest
  pub frame : (line : FrameLine) (code after : CodeDraft) (rest : List (Option Statement)) → Stands code (Some (statement.Frame line) ∷ rest) → frame_added line code ≡ Some after → Stands after rest
  pub blank : (code : CodeDraft) (rest : List (Option Statement)) → Stands code (Some statement.Blank ∷ rest) → Stands code rest

-- ---- instructions

-- What a line adds to a code is the spelling of the line's instruction. It decodes to it where the keys of a lookupswitch
-- ascend (JVMS 4.9.1), whatever comes behind it, and the next place is the end of what was added.
pub record Decodes (o : Operation) (code after : CodeDraft) : Type 0 where
  pub instruction : Instruction
  pub pool : List PoolEntry
  pub means : resolved code.labels (length code.bytes) o code.method.class.pool ≡ Some (instruction, pool)
  pub spelled : after.bytes ≡ code.bytes ++ text_of (length code.bytes) instruction
  pub decodes : has_ascending_keys instruction ≡ true → (behind : List ℕ) → decoded (after.bytes ++ behind) (length code.bytes) ≡ Ok (instruction, length after.bytes)

-- So it is of each line, in a pool whose count fits two bytes, as those of a text do (`PoolsAreBuilt`).
abbrev pub LinesDecode : Type 0
LinesDecode = (word : List ℕ) (operands : List (List ℕ)) (o : Operation) (code after : CodeDraft) → operation_of word operands ≡ Some o → length code.method.class.pool < 65536 → operation_added o code ≡ Some after → Decodes o code after

-- ---- constant pools

-- What the constants and the members of lines need leaves a pool that keeps.
pub record NeedsAreBuilt : Type 0 where
  pub constant : (k : Constant) → Builds (constant_needed k)
  pub member : (kind : MemberKind) (m : MemberName) → Builds (member_needed kind m)

-- Each tree of a text has a pool with each entry once, and the parts of an entry before it.
abbrev pub PoolsAreBuilt : Type 0
PoolsAreBuilt = (text : List ℕ) (trees : List ClassTree) → assembled text ≡ Ok trees → AllByRecursion (λ t. IsBuilt t.pool) trees

-- ---- names

-- a class has a name that has a path in each folder
abbrev pub HasPath : List ℕ → Option (List ℕ) → Type 0
HasPath folder None = ⊥
HasPath folder (Some name) = (path : List ℕ) × (path_of folder name ≡ Some path)

-- Each tree of a text has a name, and its file a path in each folder.
abbrev pub ClassesHavePaths : Type 0
ClassesHavePaths = (text folder : List ℕ) (trees : List ClassTree) → assembled text ≡ Ok trees → AllByRecursion (λ t. HasPath folder (class_name t.pool t.this)) trees
