-- Labels stand where the code behind them begins.
use Rattle.std.proofs.Common.{◌≡◌, ℕ, suc, ◌+◌, ◌<◌, Bool, true, false, cond, Option, Some, None, List, [], ◌∷◌, ◌++◌, length, position, refl, sym, ap, subst, ◌∙◌, arith, append_assoc, length-append}
use Rattle.std.specs.Prelude.{nat_lt, not, ◌||◌, ◌==◌, codes, ⊤}
use Rattle.std.specs.List.{list_any, position_or_len}
use Rattle.std.proofs.lemmas.List.{append-nil}
use Rattle.std.proofs.lemmas.Slice.Eq.{bytes_eq-Decides}
use Rattle.std.proofs.lemmas.Bool.{ltb-true}
use Rattle.std.proofs.lemmas.Bool.Decides.{nat_tests}
use Rattle.jsa_base.specs.Reading.{◌>>=◌, when}
use Rattle.jsa_base.proofs.Codecs.{bind_some, some_is}
use Rattle.jsa_ops.specs.Instruction.{Instruction}
use Rattle.jsa_ops.specs.Spelling.{text_of}
use Rattle.class_tree.specs.declared.constant_pool.PoolEntry.{PoolEntry}
use Rattle.asm_text.specs.declared.statement.CodeLine.{CodeLine}
use Rattle.asm_text.specs.declared.statement.CatchLine.{CatchLine}
use Rattle.asm_text.specs.declared.statement.FrameLine.{FrameLine}
use Rattle.asm_text.specs.declared.statement.Operation.{Operation}
use Rattle.asm_text.specs.declared.statement.Statement.{Statement}
use Rattle.asm_text.specs.declared.statement.Statement.TheVariants as statement
use Rattle.pool_builder.specs.Needs.{utf8_needed}
use Rattle.class_asm.specs.declared.code_draft.MethodDraft.{MethodDraft}
use Rattle.class_asm.specs.declared.code_draft.CodeDraft.{CodeDraft}
use Rattle.class_asm.specs.Labels.{Label, is_named, place_of, with_label, labels_of, size, behind}
use Rattle.class_asm.specs.Code.{resolved, written}
use Rattle.class_asm.specs.Drafts.{optional_class_needed, code_begun, label_passed, operation_added, handler_added, table_begun, table_grown, frame_added, with_pool}
use Rattle.class_asm.specs.Frames.{short_place}
use Rattle.class_asm.specs.Laws.{Stands, LabelStands, LabelsStand}
use Rattle.class_asm.proofs.Sizes.{sizes_stand}
use Rattle.class_asm.proofs.Keeping.{AllIn, bind_all, when_all, some_all}

abbrev some : {A : Type 0} → A → Option A
some x = Some x

-- ---- labels grow at their end

pub record Front (front labels : List Label) : Type 0 where
  pub more : List Label
  pub is : labels ≡ front ++ more

with_more : (front : List Label) (name : List ℕ) (place : ℕ) (labels : List Label) → Front (with_label front name place) labels → Front front labels
unfolding with_label
with_more front name place labels f = of (list_any (is_named name) front) f where
  of : (any : Bool) → Front (cond any front (front ++ record { name = name; place = place } ∷ [])) labels → Front front labels
  of true g = g
  of false g = record { more = record { name = name; place = place } ∷ g.more; is = g.is ∙ append_assoc front (record { name = name; place = place } ∷ []) g.more }

pub grown : (lines : List (Option Statement)) (front : List Label) (place : ℕ) → Front front (labels_of (front, place) lines)
unfolding labels_of
grown [] front place = record { more = []; is = sym (append-nil front) }
grown (Some (statement.Label name) ∷ lines) front place = with_more front name place (labels_of (with_label front name place, place) lines) (grown lines (with_label front name place) place)
grown (Some (statement.Operation o) ∷ lines) front place = grown lines front (behind place (size place o))
grown (Some (statement.Catch line) ∷ lines) front place = grown lines front place
grown (Some (statement.Frame line) ∷ lines) front place = grown lines front place
grown (Some statement.Blank ∷ lines) front place = grown lines front place
grown (Some (statement.Class line) ∷ lines) front place = record { more = []; is = sym (append-nil front) }
grown (Some (statement.Version n) ∷ lines) front place = record { more = []; is = sym (append-nil front) }
grown (Some (statement.Field line) ∷ lines) front place = record { more = []; is = sym (append-nil front) }
grown (Some (statement.Method line) ∷ lines) front place = record { more = []; is = sym (append-nil front) }
grown (Some (statement.Code line) ∷ lines) front place = record { more = []; is = sym (append-nil front) }
grown (Some statement.End ∷ lines) front place = record { more = []; is = sym (append-nil front) }
grown (None ∷ lines) front place = record { more = []; is = sym (append-nil front) }

-- ---- the first label of a name

one_found : (b later : Bool) (place n : ℕ) → (later ≡ true → place < n) → (b || later) ≡ true → cond (not b) (1 + place) 0 < suc n
one_found true later place n below any = omega arith
one_found false later place n below any = omega (arith, below any)

-- a label of the name among the first ones is found among them
found_before : (name : List ℕ) (front more : List Label) → list_any (is_named name) front ≡ true → position_or_len (is_named name) (front ++ more) < length front
found_before name [] more any = absurd cc
found_before name (l ∷ front) more any = one_found (is_named name l) (list_any (is_named name) front) (position_or_len (is_named name) (front ++ more)) (length front) (found_before name front more) any

position_is : (n found : ℕ) (b : Bool) → cond b (Some n) None ≡ some found → n ≡ found
position_is n found true e = some_is n found e
position_is n found false e = absurd cc

not_first : (b later : Bool) (here : ℕ) (found : Option ℕ) (place : ℕ) → (later ≡ false → found ≡ Some place) → (b || later) ≡ false → cond b (some here) found ≡ Some place
not_first true later here found place behind none = absurd cc
not_first false later here found place behind none = behind none

first_here : (name : List ℕ) (place : ℕ) (others front : List Label) → list_any (is_named name) front ≡ false → place_of (front ++ record { name = name; place = place } ∷ others) name ≡ Some place
unfolding place_of
first_here name place others [] h = ap (λ (b : Bool). cond b (some place) (place_of others name)) ((bytes_eq-Decides name name).1 refl)
first_here name place others (l ∷ front) h = not_first (is_named name l) (list_any (is_named name) front) l.place (place_of (front ++ record { name = name; place = place } ∷ others) name) place (first_here name place others front) h

same_number : (a b : ℕ) → (a == b) ≡ true → a ≡ b
same_number a b h = grind (arith, nat_tests)

-- ---- a label

passed_is : (b : Bool) (code after : CodeDraft) → cond b (Some (record code { passed = code.passed + 1 })) None ≡ some after → (b ≡ true) × (record code { passed = code.passed + 1 } ≡ after)
passed_is true code after e = (refl, some_is (record code { passed = code.passed + 1 }) after e)
passed_is false code after e = absurd cc

abbrev mark : List ℕ → CodeDraft → Label
mark name code = record { name = name; place = length code.bytes }

-- the label is found behind those before it, so that none of them has its name
by_known : (name : List ℕ) (code after : CodeDraft) (rest : List (Option Statement)) (s : Stands code (Some (statement.Label name) ∷ rest)) (index : ℕ)
    → position (is_named name) code.labels ≡ Some index → index ≡ length s.front → record code { passed = code.passed + 1 } ≡ after → (known : Bool) → list_any (is_named name) s.front ≡ known → LabelStands name code after rest
unfolding labels_of with_label
by_known name code after rest s index found last is true k =
    let whole : code.labels ≡ labels_of (s.front, length code.bytes) rest = s.labels ∙ ap (λ (b : Bool). labels_of (cond b s.front (s.front ++ mark name code ∷ []), length code.bytes) rest) k in
    let f = grown rest s.front (length code.bytes) in
    let first : position_or_len (is_named name) (s.front ++ f.more) ≡ index = ap (position_or_len (is_named name)) (sym (whole ∙ f.is)) ∙ position_is (position_or_len (is_named name) code.labels) index (nat_lt (position_or_len (is_named name) code.labels) (length code.labels)) found in
    absurd (omega (arith, found_before name s.front f.more k, first, last))
by_known name code after rest s index found last is false k =
    let whole : code.labels ≡ labels_of (s.front ++ mark name code ∷ [], length code.bytes) rest = s.labels ∙ ap (λ (b : Bool). labels_of (cond b s.front (s.front ++ mark name code ∷ []), length code.bytes) rest) k in
    let f = grown rest (s.front ++ mark name code ∷ []) (length code.bytes) in
    let made : CodeDraft = record code { passed = code.passed + 1 } in
    let still : Stands made rest = record {
      front = s.front ++ mark name code ∷ [];
      labels = whole;
      passed = ap (λ (n : ℕ). n + 1) s.passed ∙ sym (length-append s.front (mark name code ∷ []));
      few = s.few;
    } in
    record {
      here = ap (λ (ls : List Label). place_of ls name) (whole ∙ f.is ∙ append_assoc s.front (mark name code ∷ []) f.more) ∙ first_here name (length code.bytes) f.more s.front k;
      still = subst (λ (d : CodeDraft). Stands d rest) is still;
    }

pub label_stands : (name : List ℕ) (code after : CodeDraft) (rest : List (Option Statement)) → Stands code (Some (statement.Label name) ∷ rest) → label_passed name code ≡ Some after → LabelStands name code after rest
unfolding label_passed
label_stands name code after rest s e =
    let at = bind_some (position (is_named name) code.labels) (λ index. cond (index == code.passed) (Some (record code { passed = code.passed + 1 })) None) after e in
    let is = passed_is (at.0 == code.passed) code after at.2 in
    by_known name code after rest s at.0 at.1 (same_number at.0 code.passed is.0 ∙ s.passed) is.1 (list_any (is_named name) s.front) refl

-- ---- an operation

abbrev with_text : CodeDraft → List ℕ × List PoolEntry → CodeDraft
with_text code text = record code { method = with_pool code.method text.1; bytes = code.bytes ++ text.0 }

abbrev if_few : CodeDraft → List ℕ × List PoolEntry → Option CodeDraft
if_few code text = when (nat_lt (length (code.bytes ++ text.0)) 65536) >>= λ few. some (with_text code text)

few_is : (b : Bool) (x y : CodeDraft) → (when b >>= λ ok. some x) ≡ Some y → (b ≡ true) × (x ≡ y)
few_is true x y e = (refl, some_is x y e)
few_is false x y e = absurd cc

-- the instruction that an operation adds to a code
pub record Adds (o : Operation) (code after : CodeDraft) : Type 0 where
  pub instruction : Instruction
  pub pool : List PoolEntry
  pub means : resolved code.labels (length code.bytes) o code.method.class.pool ≡ Some (instruction, pool)
  pub is : with_text code (text_of (length code.bytes) instruction, pool) ≡ after
  pub grows : length (code.bytes ++ text_of (length code.bytes) instruction) ≡ length code.bytes + size (length code.bytes) o
  pub few : length (code.bytes ++ text_of (length code.bytes) instruction) < 65536

pub adds : (o : Operation) (code after : CodeDraft) → operation_added o code ≡ Some after → Adds o code after
unfolding operation_added
adds o code after e =
    let pc = length code.bytes in
    let pool = code.method.class.pool in
    let t = bind_some (written pc (resolved code.labels pc o pool)) (if_few code) after e in
    let i = bind_some (resolved code.labels pc o pool) (λ x. Some (text_of pc x.0, x.1)) t.0 t.1 in
    let text : List ℕ × List PoolEntry = (text_of pc i.0.0, i.0.1) in
    let f = few_is (nat_lt (length (code.bytes ++ text.0)) 65536) (with_text code text) after (ap (if_few code) (some_is {A = List ℕ × List PoolEntry} text t.0 i.2) ∙ t.2) in
    record {
      instruction = i.0.0;
      pool = i.0.1;
      means = i.1;
      is = f.1;
      grows = length-append code.bytes text.0 ∙ ap (λ (n : ℕ). pc + n) (sizes_stand code.labels pc o pool i.0.1 i.0.0 i.1);
      few = ltb-true (length (code.bytes ++ text.0)) 65536 f.0;
    }

pub operation_stands : (o : Operation) (code after : CodeDraft) (rest : List (Option Statement)) → Stands code (Some (statement.Operation o) ∷ rest) → operation_added o code ≡ Some after → Stands after rest
unfolding labels_of
operation_stands o code after rest s e =
    let a = adds o code after e in
    let text = text_of (length code.bytes) a.instruction in
    let capped : behind (length code.bytes) (size (length code.bytes) o) ≡ length (code.bytes ++ text) = omega (arith, a.grows, a.few) in
    let still : Stands (with_text code (text, a.pool)) rest = record { front = s.front; labels = s.labels ∙ ap (λ (n : ℕ). labels_of (s.front, n) rest) capped; passed = s.passed; few = a.few } in
    subst (λ (d : CodeDraft). Stands d rest) a.is still

-- ---- the other lines of a code

begin_stands : (line : CodeLine) (m : MethodDraft) (rest : List (Option Statement)) → AllIn (code_begun line (labels_of ([], 0) rest) m) (λ code. Stands code rest)
unfolding code_begun
begin_stands line m rest =
    bind_all (utf8_needed (codes "Code") m.class.pool) _ (λ x. ⊤) (λ code. Stands code rest) (λ x e. tt)
    (λ n t. some_all _ (λ code. Stands code rest) (record { front = []; labels = refl; passed = refl; few = omega arith }))

handler_stands : (line : CatchLine) (code : CodeDraft) (rest : List (Option Statement)) → Stands code (Some (statement.Catch line) ∷ rest) → AllIn (handler_added line code) (λ after. Stands after rest)
unfolding handler_added labels_of
handler_stands line code rest s =
    when_all _ _ (λ after. Stands after rest) (bind_all (short_place code.labels line.from) _ (λ x. ⊤) (λ after. Stands after rest) (λ x e. tt)
    (λ start a. bind_all (short_place code.labels line.to) _ (λ x. ⊤) (λ after. Stands after rest) (λ x e. tt)
    (λ end b. bind_all (short_place code.labels line.handler) _ (λ x. ⊤) (λ after. Stands after rest) (λ x e. tt)
    (λ handler c. bind_all (optional_class_needed line.class code.method.class.pool) _ (λ x. ⊤) (λ after. Stands after rest) (λ x e. tt)
    (λ class d. some_all _ (λ after. Stands after rest) (record { front = s.front; labels = s.labels; passed = s.passed; few = s.few }))))))

frame_stands : (line : FrameLine) (code : CodeDraft) (rest : List (Option Statement)) → Stands code (Some (statement.Frame line) ∷ rest) → AllIn (frame_added line code) (λ after. Stands after rest)
unfolding frame_added labels_of
frame_stands line code rest s =
    bind_all (table_begun code.frames code.method.class.pool) _ (λ x. ⊤) (λ after. Stands after rest) (λ x e. tt)
    (λ table a. bind_all (table_grown line code.labels table.0 table.1) _ (λ x. ⊤) (λ after. Stands after rest) (λ x e. tt)
    (λ grown b. some_all _ (λ after. Stands after rest) (record { front = s.front; labels = s.labels; passed = s.passed; few = s.few })))

blank_stands : (code : CodeDraft) (rest : List (Option Statement)) → Stands code (Some statement.Blank ∷ rest) → Stands code rest
unfolding labels_of
blank_stands code rest s = record { front = s.front; labels = s.labels; passed = s.passed; few = s.few }

pub labels_stand : LabelsStand
labels_stand = record {
  begin = λ line m code rest e. begin_stands line m rest code e;
  label = label_stands;
  operation = operation_stands;
  handler = λ line code after rest s e. handler_stands line code rest s after e;
  frame = λ line code after rest s e. frame_stands line code rest s after e;
  blank = blank_stands;
}
