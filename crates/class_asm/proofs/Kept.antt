-- Every line of a text leaves the pool of its class built as it should be.
use Rattle.std.proofs.Common.{◌≡◌, ℕ, ◌+◌, position, Bool, true, false, cond, Option, Some, None, List, [], ◌∷◌, ◌++◌, length, refl, ◌∙◌}
use Rattle.std.specs.Prelude.{nat_lt, codes, ◌&&◌, ◌==◌, ⊤}
use Rattle.jsa_base.specs.Reading.{◌>>=◌}
use Rattle.jsa_base.specs.Spelling.{u1, u2}
use Rattle.jsa_ops.specs.Instruction.{Instruction}
use Rattle.class_tree.specs.declared.constant_pool.PoolEntry.{PoolEntry}
use Rattle.asm_text.specs.declared.statement.Constant.{Constant}
use Rattle.asm_text.specs.declared.statement.FieldLine.{FieldLine}
use Rattle.asm_text.specs.declared.statement.MethodLine.{MethodLine}
use Rattle.asm_text.specs.declared.statement.CodeLine.{CodeLine}
use Rattle.asm_text.specs.declared.statement.CatchLine.{CatchLine}
use Rattle.asm_text.specs.declared.statement.FrameLine.{FrameLine}
use Rattle.asm_text.specs.declared.statement.FrameType.{FrameType}
use Rattle.asm_text.specs.declared.statement.FrameType.TheVariants as frame
use Rattle.asm_text.specs.declared.statement.Operation.{Operation}
use Rattle.asm_text.specs.declared.statement.Operation.TheVariants as operation
use Rattle.asm_text.specs.declared.statement.MemberKind.TheVariants as kinds
use Rattle.pool_builder.specs.Needs.{utf8_needed, class_needed}
use Rattle.pool_builder.specs.Laws.{Keeps}
use Rattle.pool_builder.proofs.Keeping.{keeps_same, keeps_then}
use Rattle.class_asm.specs.Needs.{constant_needed, member_needed}
use Rattle.class_asm.specs.declared.class_draft.ClassDraft.{ClassDraft}
use Rattle.class_asm.specs.declared.code_draft.MethodDraft.{MethodDraft}
use Rattle.class_asm.specs.declared.code_draft.CodeDraft.{CodeDraft}
use Rattle.class_asm.specs.declared.code_draft.FrameTable.{FrameTable}
use Rattle.class_asm.specs.Labels.{Label, is_named, is_near}
use Rattle.class_asm.specs.Code.{resolved, emitted, of_index, alone}
use Rattle.class_asm.specs.Frames.{short_place, type_text, types_text, counted_types, frame_text, delta}
use Rattle.class_asm.specs.Drafts.{optional_class_needed, classes_needed, value_needed, field_added, method_begun, code_begun, label_passed, operation_added, handler_added, table_begun, table_grown, frame_added, code_ended}
use Rattle.class_asm.proofs.Keeping.{AllIn, bind_all, when_all, some_all, KeepsIn, from, utf8_keeps, class_keeps, constant_keeps, member_keeps}

-- ---- needs

pub optional_keeps : (name : Option (List ℕ)) (pool : List PoolEntry) → KeepsIn pool (optional_class_needed name pool)
optional_keeps (Some name) pool = class_keeps name pool
optional_keeps None pool = some_all (0, pool) (λ x. Keeps pool x.1) (keeps_same pool)

pub classes_keep : (names : List (List ℕ)) (pool : List PoolEntry) → KeepsIn pool (classes_needed names pool)
unfolding classes_needed
classes_keep [] pool = some_all ([], pool) (λ x. Keeps pool x.1) (keeps_same pool)
classes_keep (name ∷ names) pool =
    bind_all (class_needed name pool) (λ first. classes_needed names first.1 >>= λ others. Some (first.0 ∷ others.0, others.1)) (λ x. Keeps pool x.1) (λ x. Keeps pool x.1) (class_keeps name pool)
    (λ first k. bind_all (classes_needed names first.1) (λ others. Some (first.0 ∷ others.0, others.1)) (λ x. Keeps pool x.1) (λ x. Keeps pool x.1) (from pool first.1 _ k (classes_keep names first.1))
    (λ others l. some_all (first.0 ∷ others.0, others.1) (λ x. Keeps pool x.1) l))

value_keeps : (value : Option Constant) (pool : List PoolEntry) → KeepsIn pool (value_needed value pool)
unfolding value_needed
value_keeps None pool = some_all (0, pool) (λ x. Keeps pool x.1) (keeps_same pool)
value_keeps (Some value) pool =
    bind_all (utf8_needed (codes "ConstantValue") pool) (λ name. constant_needed value name.1) (λ x. Keeps pool x.1) (λ x. Keeps pool x.1) (utf8_keeps (codes "ConstantValue") pool)
    (λ name k. from pool name.1 _ k (constant_keeps value name.1))

-- ---- frames

type_keeps : (labels : List Label) (t : FrameType) (pool : List PoolEntry) → KeepsIn pool (type_text labels t pool)
unfolding type_text
type_keeps labels frame.Top pool = some_all (u1 0, pool) (λ x. Keeps pool x.1) (keeps_same pool)
type_keeps labels frame.Integer pool = some_all (u1 1, pool) (λ x. Keeps pool x.1) (keeps_same pool)
type_keeps labels frame.Float pool = some_all (u1 2, pool) (λ x. Keeps pool x.1) (keeps_same pool)
type_keeps labels frame.Double pool = some_all (u1 3, pool) (λ x. Keeps pool x.1) (keeps_same pool)
type_keeps labels frame.Long pool = some_all (u1 4, pool) (λ x. Keeps pool x.1) (keeps_same pool)
type_keeps labels frame.Null pool = some_all (u1 5, pool) (λ x. Keeps pool x.1) (keeps_same pool)
type_keeps labels frame.UninitializedThis pool = some_all (u1 6, pool) (λ x. Keeps pool x.1) (keeps_same pool)
type_keeps labels (frame.Object name) pool =
    bind_all (class_needed name pool) (λ class. Some (u1 7 ++ u2 class.0, class.1)) (λ x. Keeps pool x.1) (λ x. Keeps pool x.1) (class_keeps name pool)
    (λ class k. some_all (u1 7 ++ u2 class.0, class.1) (λ x. Keeps pool x.1) k)
type_keeps labels (frame.Uninitialized label) pool =
    bind_all (short_place labels label) (λ p. Some (u1 8 ++ u2 p, pool)) (λ p. ⊤) (λ x. Keeps pool x.1) (λ p e. tt)
    (λ p k. some_all (u1 8 ++ u2 p, pool) (λ x. Keeps pool x.1) (keeps_same pool))

types_keep : (labels : List Label) (types : List FrameType) (pool : List PoolEntry) → KeepsIn pool (types_text labels types pool)
unfolding types_text
types_keep labels [] pool = some_all ([], pool) (λ x. Keeps pool x.1) (keeps_same pool)
types_keep labels (t ∷ types) pool =
    bind_all (type_text labels t pool) (λ first. types_text labels types first.1 >>= λ others. Some (first.0 ++ others.0, others.1)) (λ x. Keeps pool x.1) (λ x. Keeps pool x.1) (type_keeps labels t pool)
    (λ first k. bind_all (types_text labels types first.1) (λ others. Some (first.0 ++ others.0, others.1)) (λ x. Keeps pool x.1) (λ x. Keeps pool x.1) (from pool first.1 _ k (types_keep labels types first.1))
    (λ others l. some_all (first.0 ++ others.0, others.1) (λ x. Keeps pool x.1) l))

counted_keeps : (labels : List Label) (types : List FrameType) (pool : List PoolEntry) → KeepsIn pool (counted_types labels types pool)
unfolding counted_types
counted_keeps labels types pool = of (nat_lt 65535 (length types)) where
  of : (many : Bool) → KeepsIn pool (cond many None (types_text labels types pool >>= λ text. Some (u2 (length types) ++ text.0, text.1)))
  of true = λ y e. absurd cc
  of false = bind_all (types_text labels types pool) (λ text. Some (u2 (length types) ++ text.0, text.1)) (λ x. Keeps pool x.1) (λ x. Keeps pool x.1) (types_keep labels types pool)
      (λ text k. some_all (u2 (length types) ++ text.0, text.1) (λ x. Keeps pool x.1) k)

frame_keeps : (labels : List Label) (offset : ℕ) (locals stack : List FrameType) (pool : List PoolEntry) → KeepsIn pool (frame_text labels offset locals stack pool)
unfolding frame_text
frame_keeps labels offset locals stack pool =
    bind_all (counted_types labels locals pool) (λ l. counted_types labels stack l.1 >>= λ s. Some (u1 255 ++ (u2 offset ++ (l.0 ++ s.0)), s.1)) (λ x. Keeps pool x.1) (λ x. Keeps pool x.1) (counted_keeps labels locals pool)
    (λ l k. bind_all (counted_types labels stack l.1) (λ s. Some (u1 255 ++ (u2 offset ++ (l.0 ++ s.0)), s.1)) (λ x. Keeps pool x.1) (λ x. Keeps pool x.1) (from pool l.1 _ k (counted_keeps labels stack l.1))
    (λ s m. some_all (u1 255 ++ (u2 offset ++ (l.0 ++ s.0)), s.1) (λ x. Keeps pool x.1) m))

-- ---- operations

alone_keeps : (pool : List PoolEntry) (made : Option Instruction) → KeepsIn pool (alone pool made)
alone_keeps pool (Some i) = some_all (i, pool) (λ x. Keeps pool x.1) (keeps_same pool)
alone_keeps pool None = λ y e. absurd cc

of_index_keeps : (make : ℕ → Instruction) (pool : List PoolEntry) (need : Option (ℕ × List PoolEntry)) → KeepsIn pool need → KeepsIn pool (of_index make need)
of_index_keeps make pool need k = bind_all need (λ i. Some (make i.0, i.1)) (λ x. Keeps pool x.1) (λ x. Keeps pool x.1) k (λ i l. some_all (make i.0, i.1) (λ x. Keeps pool x.1) l)

one_of : (passes : Bool) (pool : List PoolEntry) (x : Instruction × List PoolEntry) → Keeps pool x.1 → KeepsIn pool (cond passes None (Some x))
one_of true pool x k = λ y e. absurd cc
one_of false pool x k = some_all x (λ y. Keeps pool y.1) k

resolved_keeps : (labels : List Label) (at : ℕ) (o : Operation) (pool : List PoolEntry) → KeepsIn pool (resolved labels at o pool)
unfolding resolved
resolved_keeps labels at (operation.Plain op) pool = some_all _ (λ x. Keeps pool x.1) (keeps_same pool)
resolved_keeps labels at (operation.Byte op n) pool = some_all _ (λ x. Keeps pool x.1) (keeps_same pool)
resolved_keeps labels at (operation.Short op n) pool = some_all _ (λ x. Keeps pool x.1) (keeps_same pool)
resolved_keeps labels at (operation.Load op k) pool =
    bind_all (constant_needed k pool) _ (λ x. Keeps pool x.1) (λ x. Keeps pool x.1) (constant_keeps k pool) (λ i l. one_of (is_near op && nat_lt 255 i.0) pool _ l)
resolved_keeps labels at (operation.Local op n) pool = some_all _ (λ x. Keeps pool x.1) (keeps_same pool)
resolved_keeps labels at (operation.Iinc op n by) pool = some_all _ (λ x. Keeps pool x.1) (keeps_same pool)
resolved_keeps labels at (operation.Branch op label) pool = alone_keeps pool _
resolved_keeps labels at (operation.Member op kind m) pool = of_index_keeps _ pool (member_needed kind m pool) (member_keeps kind m pool)
resolved_keeps labels at (operation.Interface op m slots) pool = of_index_keeps _ pool (member_needed kinds.InterfaceMethod m pool) (member_keeps kinds.InterfaceMethod m pool)
resolved_keeps labels at (operation.ClassOf op name) pool = of_index_keeps _ pool (class_needed name pool) (class_keeps name pool)
resolved_keeps labels at (operation.NewArray op code) pool = some_all _ (λ x. Keeps pool x.1) (keeps_same pool)
resolved_keeps labels at (operation.MultiArray op name dimensions) pool = of_index_keeps _ pool (class_needed name pool) (class_keeps name pool)
resolved_keeps labels at (operation.TableSwitch op low other targets) pool = alone_keeps pool _
resolved_keeps labels at (operation.LookupSwitch op other cases) pool = alone_keeps pool _

emitted_keeps : (labels : List Label) (at : ℕ) (o : Operation) (pool : List PoolEntry) → KeepsIn pool (emitted labels at o pool)
emitted_keeps labels at o pool = bind_all (resolved labels at o pool) _ (λ x. Keeps pool x.1) (λ x. Keeps pool x.1) (resolved_keeps labels at o pool) (λ i k. some_all _ (λ x. Keeps pool x.1) k)

-- ---- classes

-- The class stays, and its pool keeps.
pub record Goes (before after : ClassDraft) : Type 0 where
  pub pool : Keeps before.pool after.pool
  pub this : after.this ≡ before.this

goes_then : (a b c : ClassDraft) → Goes a b → Goes b c → Goes a c
goes_then a b c f g = record { pool = keeps_then a.pool b.pool c.pool f.pool g.pool; this = g.this ∙ f.this }

pub field_goes : (line : FieldLine) (class : ClassDraft) → AllIn (field_added line class) (Goes class)
unfolding field_added
field_goes line class =
    when_all _ _ (Goes class) (bind_all (utf8_needed line.name class.pool) _ (λ x. Keeps class.pool x.1) (Goes class) (utf8_keeps line.name class.pool)
    (λ n k. bind_all (utf8_needed line.desc n.1) _ (λ x. Keeps class.pool x.1) (Goes class) (from class.pool n.1 _ k (utf8_keeps line.desc n.1))
    (λ d l. bind_all (value_needed line.value d.1) _ (λ x. Keeps class.pool x.1) (Goes class) (from class.pool d.1 _ l (value_keeps line.value d.1))
    (λ v m. some_all _ (Goes class) (record { pool = m; this = refl })))))

-- ---- methods and code

pub method_goes : (line : MethodLine) (class : ClassDraft) → AllIn (method_begun line class) (λ m. Goes class m.class)
unfolding method_begun
method_goes line class =
    when_all _ _ (λ m. Goes class m.class) (bind_all (utf8_needed line.name class.pool) _ (λ x. Keeps class.pool x.1) (λ m. Goes class m.class) (utf8_keeps line.name class.pool)
    (λ n k. bind_all (utf8_needed line.desc n.1) _ (λ x. Keeps class.pool x.1) (λ m. Goes class m.class) (from class.pool n.1 _ k (utf8_keeps line.desc n.1))
    (λ d l. some_all _ (λ m. Goes class m.class) (record { pool = l; this = refl }))))

pub code_goes : (line : CodeLine) (labels : List Label) (m : MethodDraft) → AllIn (code_begun line labels m) (λ code. Goes m.class code.method.class)
unfolding code_begun
code_goes line labels m =
    bind_all (utf8_needed (codes "Code") m.class.pool) _ (λ x. Keeps m.class.pool x.1) (λ code. Goes m.class code.method.class) (utf8_keeps (codes "Code") m.class.pool)
    (λ n k. some_all _ (λ code. Goes m.class code.method.class) (record { pool = k; this = refl }))

abbrev CodeGoes : CodeDraft → CodeDraft → Type 0
CodeGoes before after = Goes before.method.class after.method.class

code_stays : (code : CodeDraft) → CodeGoes code code
code_stays code = record { pool = keeps_same code.method.class.pool; this = refl }

passed_goes : (b : Bool) (code : CodeDraft) (n : ℕ) → AllIn (cond b (Some (record code { passed = n })) None) (CodeGoes code)
passed_goes true code n = some_all _ (CodeGoes code) (code_stays code)
passed_goes false code n = λ y e. absurd cc

pub label_goes : (name : List ℕ) (code : CodeDraft) → AllIn (label_passed name code) (CodeGoes code)
unfolding label_passed
label_goes name code =
    bind_all (position (is_named name) code.labels) (λ index. cond (index == code.passed) (Some (record code { passed = code.passed + 1 })) None) (λ index. ⊤) (CodeGoes code) (λ index e. tt)
    (λ index k. passed_goes (index == code.passed) code (code.passed + 1))

pub operation_goes : (o : Operation) (code : CodeDraft) → AllIn (operation_added o code) (CodeGoes code)
unfolding operation_added
operation_goes o code =
    bind_all (emitted code.labels (length code.bytes) o code.method.class.pool) _ (λ x. Keeps code.method.class.pool x.1) (CodeGoes code) (emitted_keeps code.labels (length code.bytes) o code.method.class.pool)
    (λ text k. when_all _ _ (CodeGoes code) (some_all _ (CodeGoes code) (record { pool = k; this = refl })))

any_place : {X : Type 0} (o : Option X) → AllIn o (λ x. ⊤)
any_place o x e = tt

pub handler_goes : (line : CatchLine) (code : CodeDraft) → AllIn (handler_added line code) (CodeGoes code)
unfolding handler_added
handler_goes line code =
    when_all _ _ (CodeGoes code) (bind_all (short_place code.labels line.from) _ (λ x. ⊤) (CodeGoes code) (any_place (short_place code.labels line.from))
    (λ start s. bind_all (short_place code.labels line.to) _ (λ x. ⊤) (CodeGoes code) (any_place (short_place code.labels line.to))
    (λ end t. bind_all (short_place code.labels line.handler) _ (λ x. ⊤) (CodeGoes code) (any_place (short_place code.labels line.handler))
    (λ handler u. bind_all (optional_class_needed line.class code.method.class.pool) _ (λ x. Keeps code.method.class.pool x.1) (CodeGoes code) (optional_keeps line.class code.method.class.pool)
    (λ class k. some_all _ (CodeGoes code) (record { pool = k; this = refl }))))))

table_keeps : (frames : Option FrameTable) (pool : List PoolEntry) → KeepsIn pool (table_begun frames pool)
unfolding table_begun
table_keeps (Some table) pool = some_all (table, pool) (λ x. Keeps pool x.1) (keeps_same pool)
table_keeps None pool = bind_all (utf8_needed (codes "StackMapTable") pool) _ (λ x. Keeps pool x.1) (λ x. Keeps pool x.1) (utf8_keeps (codes "StackMapTable") pool) (λ name k. some_all _ (λ x. Keeps pool x.1) k)

grown_keeps : (line : FrameLine) (labels : List Label) (table : FrameTable) (pool : List PoolEntry) → KeepsIn pool (table_grown line labels table pool)
unfolding table_grown
grown_keeps line labels table pool =
    when_all _ _ (λ x. Keeps pool x.1) (bind_all (short_place labels line.label) _ (λ x. ⊤) (λ x. Keeps pool x.1) (any_place (short_place labels line.label))
    (λ at p. bind_all (delta table.last at) _ (λ x. ⊤) (λ x. Keeps pool x.1) (any_place (delta table.last at))
    (λ offset d. bind_all (frame_text labels offset line.locals line.stack pool) _ (λ x. Keeps pool x.1) (λ x. Keeps pool x.1) (frame_keeps labels offset line.locals line.stack pool)
    (λ text k. some_all _ (λ x. Keeps pool x.1) k))))

pub frame_goes : (line : FrameLine) (code : CodeDraft) → AllIn (frame_added line code) (CodeGoes code)
unfolding frame_added
frame_goes line code =
    bind_all (table_begun code.frames code.method.class.pool) _ (λ x. Keeps code.method.class.pool x.1) (CodeGoes code) (table_keeps code.frames code.method.class.pool)
    (λ table k. bind_all (table_grown line code.labels table.0 table.1) _ (λ x. Keeps code.method.class.pool x.1) (CodeGoes code) (from code.method.class.pool table.1 _ k (grown_keeps line code.labels table.0 table.1))
    (λ grown l. some_all _ (CodeGoes code) (record { pool = l; this = refl })))

pub end_goes : (code : CodeDraft) → AllIn (code_ended code) (λ class. Goes code.method.class class)
unfolding code_ended
end_goes code = when_all _ _ (λ class. Goes code.method.class class) (some_all _ (λ class. Goes code.method.class class) (record { pool = keeps_same code.method.class.pool; this = refl }))
