-- The trees that a text stands for, or its first line outside the grammar.
use Rattle.std.specs.Prelude.{◌≡◌, ℕ, ◌+◌, List, [], ◌∷◌, ◌++◌, Option, Some, None, Result, Ok, Err, ⊤}
use Rattle.std.specs.Global.{Vec}
use Rattle.jsa_base.specs.Reading.{◌>>=◌}
use Rattle.class_tree.specs.declared.tree.ClassTree.{ClassTree}
use Rattle.asm_text.specs.declared.statement.ClassLine.{ClassLine}
use Rattle.asm_text.specs.declared.statement.FieldLine.{FieldLine}
use Rattle.asm_text.specs.declared.statement.MethodLine.{MethodLine}
use Rattle.asm_text.specs.declared.statement.CodeLine.{CodeLine}
use Rattle.asm_text.specs.declared.statement.CatchLine.{CatchLine}
use Rattle.asm_text.specs.declared.statement.FrameLine.{FrameLine}
use Rattle.asm_text.specs.declared.statement.Operation.{Operation}
use Rattle.asm_text.specs.declared.statement.Statement.{Statement}
use Rattle.asm_text.specs.declared.statement.Statement.TheVariants as statement
use Rattle.asm_text.specs.Grammar.{statements}
use Rattle.asm_text.specs.declared.fault.LineFault.{LineFault}
use Rattle.asm_text.specs.declared.fault.LineFault.TheVariants.{Outside, Memory}
use Rattle.class_asm.specs.declared.fault.AsmFault.{AsmFault}
use Rattle.class_asm.specs.declared.fault.AsmFault.TheVariants as fault
use Rattle.class_asm.specs.declared.class_draft.ClassDraft.{ClassDraft}
use Rattle.class_asm.specs.declared.code_draft.MethodDraft.{MethodDraft}
use Rattle.class_asm.specs.declared.code_draft.CodeDraft.{CodeDraft}
use Rattle.class_asm.specs.declared.place.Place.{Place}
use Rattle.class_asm.specs.declared.place.Place.TheVariants as place
use Rattle.class_asm.specs.Labels.{labels_of}
use Rattle.class_asm.specs.Drafts.{class_begun, tree_of, field_added, method_begun, method_closed, code_begun, label_passed, operation_added, handler_added, frame_added, code_ended}

-- ---- what each place allows

-- The trees when the text ends here, or another class begins. A code has to end first.
abbrev pub finished : List ClassTree → Place → Option (List ClassTree)
finished done place.Start = Some done
finished done (place.Header class) = Some (done ++ tree_of class ∷ [])
finished done (place.Members class) = Some (done ++ tree_of class ∷ [])
finished done (place.Method m) = Some (done ++ tree_of (method_closed m None) ∷ [])
finished done (place.Code code) = None

-- the class to which a member is added
abbrev pub in_class : Place → Option ClassDraft
in_class place.Start = None
in_class (place.Header class) = Some class
in_class (place.Members class) = Some class
in_class (place.Method m) = Some (method_closed m None)
in_class (place.Code code) = None

-- right behind its class line
abbrev pub in_header : Place → Option ClassDraft
in_header (place.Header class) = Some class
in_header place.Start = None
in_header (place.Members class) = None
in_header (place.Method m) = None
in_header (place.Code code) = None

-- right behind its method line
abbrev pub in_method : Place → Option MethodDraft
in_method (place.Method m) = Some m
in_method place.Start = None
in_method (place.Header class) = None
in_method (place.Members class) = None
in_method (place.Code code) = None

abbrev pub in_code : Place → Option CodeDraft
in_code (place.Code code) = Some code
in_code place.Start = None
in_code (place.Header class) = None
in_code (place.Members class) = None
in_code (place.Method m) = None

-- ---- what each line does

abbrev pub after_class : ClassLine → Place → List ClassTree → Option (Place × List ClassTree)
after_class line here done = do
  trees ← finished done here
  class ← class_begun line
  Some (place.Header class, trees)

abbrev pub after_version : ℕ → Place → Option Place
after_version major here = do
  class ← in_header here
  Some (place.Members (record class { major = major }))

abbrev pub after_field : FieldLine → Place → Option Place
after_field line here = do
  class ← in_class here
  after ← field_added line class
  Some (place.Members after)

abbrev pub after_method : MethodLine → Place → Option Place
after_method line here = do
  class ← in_class here
  m ← method_begun line class
  Some (place.Method m)

-- the labels of a code are those of the lines that follow
abbrev pub after_code : List (Option Statement) → CodeLine → Place → Option Place
after_code rest line here = do
  m ← in_method here
  code ← code_begun line (labels_of ([], 0) rest) m
  Some (place.Code code)

abbrev pub after_label : List ℕ → Place → Option Place
after_label name here = do
  code ← in_code here
  after ← label_passed name code
  Some (place.Code after)

abbrev pub after_operation : Operation → Place → Option Place
after_operation o here = do
  code ← in_code here
  after ← operation_added o code
  Some (place.Code after)

abbrev pub after_catch : CatchLine → Place → Option Place
after_catch line here = do
  code ← in_code here
  after ← handler_added line code
  Some (place.Code after)

abbrev pub after_frame : FrameLine → Place → Option Place
after_frame line here = do
  code ← in_code here
  after ← frame_added line code
  Some (place.Code after)

abbrev pub after_end : Place → Option Place
after_end here = do
  code ← in_code here
  class ← code_ended code
  Some (place.Members class)

abbrev pub with_trees : List ClassTree → Option Place → Option (Place × List ClassTree)
with_trees done here = here >>= λ p. Some (p, done)

-- Where the text is behind a statement, with the trees so far, and the lines that follow.
abbrev pub next : List (Option Statement) → Statement → Place → List ClassTree → Option (Place × List ClassTree)
next rest statement.Blank here done = Some (here, done)
next rest (statement.Class line) here done = after_class line here done
next rest (statement.Version major) here done = with_trees done (after_version major here)
next rest (statement.Field line) here done = with_trees done (after_field line here)
next rest (statement.Method line) here done = with_trees done (after_method line here)
next rest (statement.Code line) here done = with_trees done (after_code rest line here)
next rest (statement.Label name) here done = with_trees done (after_label name here)
next rest (statement.Operation o) here done = with_trees done (after_operation o here)
next rest (statement.Catch line) here done = with_trees done (after_catch line here)
next rest (statement.Frame line) here done = with_trees done (after_frame line here)
next rest statement.End here done = with_trees done (after_end here)

unfoldable pub advance : List (Option Statement) → Option Statement → Place → List ClassTree → Option (Place × List ClassTree)
advance rest (Some line) here done = next rest line here done
advance rest None here done = None

-- ---- lines, one after the other

abbrev pub or_line : {A B : Type 0} → Option A → ℕ → (A → Result B ℕ) → Result B ℕ
or_line (Some x) number f = f x
or_line None number f = Err number

-- The trees of lines that are numbered from here on, or the number of the first that is outside the grammar: where an end
-- is missing, of the line after the last.
unfoldable pub run : ℕ → Place → List ClassTree → List (Option Statement) → Result (List ClassTree) ℕ
run number here done [] = or_line (finished done here) number (λ trees. Ok trees)
run number here done (line ∷ rest) = or_line (advance rest line here done) number (λ after. run (number + 1) after.0 after.1 rest)

-- The trees that a text stands for, or the number of its first line outside the grammar, counted from 1.
unfoldable pub assembled : List ℕ → Result (List ClassTree) ℕ
assembled text = run 1 place.Start [] (statements text)

-- the fault of a line with this number
abbrev pub numbered : ℕ → LineFault → AsmFault
numbered number Outside = fault.Line number
numbered number Memory = fault.Memory

-- What is answered is what is defined, unless memory ran out.
abbrev pub Answers : Result (Vec ClassTree) AsmFault → Result (List ClassTree) ℕ → Type 0
Answers (Ok trees) defined = defined ≡ Ok trees.items
Answers (Err (fault.Line number)) defined = defined ≡ Err number
Answers (Err fault.Memory) defined = ⊤
