-- Classes, methods and code as far as their lines were read.
use Rattle.std.specs.Prelude.{ℕ, ◌+◌, ◌*◌, ◌^◌, List, [], ◌∷◌, ◌++◌, length, position, Bool, ◌&&◌, ◌==◌, nat_lt, codes, Option, Some, None, if◌then◌else◌}
use Rattle.std.specs.Option.{option_map}
use Rattle.jsa_base.specs.Reading.{◌>>=◌, when}
use Rattle.jsa_base.specs.Spelling.{u2}
use Rattle.class_tree.specs.declared.constant_pool.PoolEntry.{PoolEntry}
use Rattle.class_tree.specs.declared.constant_pool.PoolEntry.TheVariants.{Unusable}
use Rattle.class_tree.specs.declared.tree.CodeTree.{CodeTree}
use Rattle.class_tree.specs.declared.tree.ClassTree.{ClassTree}
use Rattle.asm_text.specs.declared.statement.Constant.{Constant}
use Rattle.asm_text.specs.declared.statement.ClassLine.{ClassLine}
use Rattle.asm_text.specs.declared.statement.FieldLine.{FieldLine}
use Rattle.asm_text.specs.declared.statement.MethodLine.{MethodLine}
use Rattle.asm_text.specs.declared.statement.CodeLine.{CodeLine}
use Rattle.asm_text.specs.declared.statement.CatchLine.{CatchLine}
use Rattle.asm_text.specs.declared.statement.FrameLine.{FrameLine}
use Rattle.asm_text.specs.declared.statement.Operation.{Operation}
use Rattle.pool_builder.specs.Needs.{utf8_needed, class_needed}
use Rattle.class_asm.specs.Needs.{constant_needed}
use Rattle.class_asm.specs.declared.class_draft.ClassDraft.{ClassDraft}
use Rattle.class_asm.specs.declared.code_draft.MethodDraft.{MethodDraft}
use Rattle.class_asm.specs.declared.code_draft.CodeDraft.{CodeDraft}
use Rattle.class_asm.specs.declared.code_draft.FrameTable.{FrameTable}
use Rattle.class_asm.specs.Labels.{Label, is_named}
use Rattle.class_asm.specs.Code.{emitted}
use Rattle.class_asm.specs.Frames.{short_place, delta, frame_text}

-- one more fits a count of two bytes
abbrev pub has_room : {A : Type 0} → List A → Bool
has_room xs = nat_lt (length xs) 65535

-- ---- classes (JVMS 4.1)

-- 0, where no class is named
abbrev pub optional_class_needed : Option (List ℕ) → List PoolEntry → Option (ℕ × List PoolEntry)
optional_class_needed (Some name) pool = class_needed name pool
optional_class_needed None pool = Some (0, pool)

unfoldable pub classes_needed : List (List ℕ) → List PoolEntry → Option (List ℕ × List PoolEntry)
classes_needed [] pool = Some ([], pool)
classes_needed (name ∷ names) pool = do
  first ← class_needed name pool
  others ← classes_needed names first.1
  Some (first.0 ∷ others.0, others.1)

-- a class of version 52 with these names: its own, that of its superclass, those of its interfaces
abbrev pub class_named : ClassLine → List PoolEntry → ℕ × ℕ × List ℕ → ClassDraft
class_named line pool names = record { major = 52; flags = line.flags; pool = pool; this = names.0; sup = names.1; interfaces = names.2; fields = []; methods = [] }

abbrev pub class_in : ClassLine → List PoolEntry → Option ClassDraft
class_in line pool = do
  few ← when (nat_lt (length line.interfaces) 65536)
  this ← class_needed line.name pool
  sup ← optional_class_needed line.sup this.1
  interfaces ← classes_needed line.interfaces sup.1
  Some (class_named line interfaces.1 (this.0, sup.0, interfaces.0))

unfoldable pub class_begun : ClassLine → Option ClassDraft
class_begun line = class_in line (Unusable ∷ [])

abbrev pub tree_of : ClassDraft → ClassTree
tree_of class = record { major = class.major; flags = class.flags; pool = class.pool; this = class.this; sup = class.sup; interfaces = class.interfaces; fields = class.fields; methods = class.methods }

-- ---- fields (JVMS 4.5)

-- The name of the attribute, then the constant (JVMS 4.7.2).
unfoldable pub value_needed : Option Constant → List PoolEntry → Option (ℕ × List PoolEntry)
value_needed None pool = Some (0, pool)
value_needed (Some value) pool = do
  name ← utf8_needed (codes "ConstantValue") pool
  constant_needed value name.1

unfoldable pub field_added : FieldLine → ClassDraft → Option ClassDraft
field_added line class = do
  few ← when (has_room class.fields)
  name ← utf8_needed line.name class.pool
  desc ← utf8_needed line.desc name.1
  value ← value_needed line.value desc.1
  Some (record class { pool = value.1; fields = class.fields ++ record { flags = line.flags; name = name.0; desc = desc.0; value = value.0 } ∷ [] })

-- ---- methods (JVMS 4.6)

abbrev pub method_named : MethodLine → ClassDraft → ℕ × ℕ → MethodDraft
method_named line class names = record { class = class; flags = line.flags; name = names.0; desc = names.1 }

unfoldable pub method_begun : MethodLine → ClassDraft → Option MethodDraft
method_begun line class = do
  few ← when (has_room class.methods)
  name ← utf8_needed line.name class.pool
  desc ← utf8_needed line.desc name.1
  Some (method_named line (record class { pool = desc.1 }) (name.0, desc.0))

abbrev pub method_closed : MethodDraft → Option CodeTree → ClassDraft
method_closed m code = record (m.class) { methods = m.class.methods ++ record { flags = m.flags; name = m.name; desc = m.desc; code = code } ∷ [] }

abbrev pub with_pool : MethodDraft → List PoolEntry → MethodDraft
with_pool m pool = record m { class = record (m.class) { pool = pool } }

-- ---- code (JVMS 4.7.3)

-- The name of the attribute, then the code, whose labels are these.
unfoldable pub code_begun : CodeLine → List Label → MethodDraft → Option CodeDraft
code_begun line labels m = do
  name ← utf8_needed (codes "Code") m.class.pool
  Some (record { method = with_pool m name.1; stack = line.stack; locals = line.locals; bytes = []; handlers = []; frames = None; labels = labels; passed = 0 })

-- A label stands once in a code: it is the first of its name among the labels, of which so many stand before it.
unfoldable pub label_passed : List ℕ → CodeDraft → Option CodeDraft
label_passed name code = do
  index ← position (is_named name) code.labels
  if index == code.passed then Some (record code { passed = code.passed + 1 }) else None

-- A code has at most 65,535 bytes.
unfoldable pub operation_added : Operation → CodeDraft → Option CodeDraft
operation_added o code = do
  text ← emitted code.labels (length code.bytes) o code.method.class.pool
  few ← when (nat_lt (length (code.bytes ++ text.0)) 65536)
  Some (record code { method = with_pool code.method text.1; bytes = code.bytes ++ text.0 })

unfoldable pub handler_added : CatchLine → CodeDraft → Option CodeDraft
handler_added line code = do
  few ← when (has_room code.handlers)
  start ← short_place code.labels line.from
  end ← short_place code.labels line.to
  handler ← short_place code.labels line.handler
  class ← optional_class_needed line.class code.method.class.pool
  Some (record code { method = with_pool code.method class.1; handlers = code.handlers ++ record { start = start; end = end; handler = handler; catch = class.0 } ∷ [] })

-- ---- frames (JVMS 4.7.4)

-- The name of the attribute stands before its content, where the first frame is.
unfoldable pub table_begun : Option FrameTable → List PoolEntry → Option (FrameTable × List PoolEntry)
table_begun (Some table) pool = Some (table, pool)
table_begun None pool = utf8_needed (codes "StackMapTable") pool >>= λ name. Some (record { count = 0; last = None; text = [] }, name.1)

-- the table with a frame behind the others, whose number stands in two bytes
unfoldable pub table_grown : FrameLine → List Label → FrameTable → List PoolEntry → Option (FrameTable × List PoolEntry)
table_grown line labels table pool = do
  few ← when (nat_lt table.count 65535)
  place ← short_place labels line.label
  offset ← delta table.last place
  text ← frame_text labels offset line.locals line.stack pool
  Some (record { count = table.count + 1; last = Some place; text = table.text ++ text.0 }, text.1)

unfoldable pub frame_added : FrameLine → CodeDraft → Option CodeDraft
frame_added line code = do
  table ← table_begun code.frames code.method.class.pool
  grown ← table_grown line code.labels table.0 table.1
  Some (record code { method = with_pool code.method grown.1; frames = Some grown.0 })

-- ---- the end of a code

-- the content of a StackMapTable: the number of frames, and the frames
abbrev pub table_content : FrameTable → List ℕ
table_content table = u2 table.count ++ table.text

-- how many bytes the StackMapTable takes, its name and its length among them
abbrev pub table_size : Option FrameTable → ℕ
table_size None = 0
table_size (Some table) = 8 + length table.text

-- The length of a Code attribute stands in four bytes.
abbrev pub is_short : CodeDraft → Bool
is_short code = nat_lt (12 + length code.bytes + 8 * length code.handlers + table_size code.frames) (2 ^ 32)

-- A code has an instruction.
abbrev pub may_end : CodeDraft → Bool
may_end code = nat_lt 0 (length code.bytes) && is_short code

abbrev pub code_tree : CodeDraft → Option (List ℕ) → CodeTree
code_tree code content = record { stack = code.stack; locals = code.locals; bytes = code.bytes; handlers = code.handlers; «map» = content }

abbrev pub code_closed : CodeDraft → ClassDraft
code_closed code = method_closed code.method (Some (code_tree code (option_map table_content code.frames)))

unfoldable pub code_ended : CodeDraft → Option ClassDraft
code_ended code = do
  ok ← when (may_end code)
  Some (code_closed code)
