-- The run of a class, by its program.
use Rattle.std.proofs.Common.{◌≡◌, ◌≢◌, ℕ, List, Bool, true, false, Option, Some, None, Ok, Err, refl, sym, ap, subst, ◌∙◌, inl, inr}
use Rattle.std.specs.Prelude.{find}
use Rattle.std.specs.Option.{option_map}
use Rattle.jsa_base.specs.Reading.{◌>>=◌, when}
use Rattle.jsa_base.proofs.Codecs.{bind_some, some_is}
use Rattle.class_tree.specs.declared.tree.CodeTree.{CodeTree}
use Rattle.class_tree.specs.declared.tree.MethodTree.{MethodTree}
use Rattle.class_tree.specs.declared.tree.ClassTree.{ClassTree}
use Rattle.class_tree.proofs.TreesSpelled as trees
use Rattle.first_form.specs.declared.fault.FormFault.TheVariants.{NotFirstForm}
use Rattle.first_form.specs.declared.program.Instruction.{Instruction}
use Rattle.first_form.specs.declared.program.Program.{Program}
use Rattle.first_form.specs.declared.machine.End.TheVariants.{Stuck}
use Rattle.first_form.specs.declared.class_run.RunEnd.{RunEnd}
use Rattle.first_form.specs.declared.class_run.RunEnd.TheVariants as ended
use Rattle.first_form.specs.Form.{has_form, is_main}
use Rattle.first_form.specs.Program.{instructions_in, is_tested, program_in, program_of}
use Rattle.first_form.specs.FirstForm.{IsFirstForm, IsOther, HasProgram}
use Rattle.first_form.specs.Machine.{state_after, start}
use Rattle.first_form.specs.Runs.{Run, run_of_program, run_of, HasRun, HasNoRun, FileHasRun, FileHasNoRun, RunAnswers, OneRun}
use Rattle.first_form.proofs.Exits.{never_stuck}

-- ---- the program of a tree is tested

abbrev program_by : ClassTree → CodeTree → List Instruction → Program
program_by t code instructions = record { max_stack = code.stack; max_locals = code.locals; instructions = instructions }

when_tested : (b : Bool) (p program : Program) → (when b >>= λ tested. Some p) ≡ Some program → (b ≡ true) × (p ≡ program)
when_tested true p program e = (refl, some_is p program e)
when_tested false p program e = absurd cc

tested_in : (t : ClassTree) (code : CodeTree) (program : Program) → program_in t code ≡ Some program → is_tested program ≡ true
unfolding program_in
tested_in t code program h =
    let a = bind_some (instructions_in t _ code.bytes) (λ (instructions : List Instruction). when (is_tested (program_by t code instructions)) >>= λ tested. Some (program_by t code instructions)) program h in
    let b = when_tested (is_tested (program_by t code a.0)) (program_by t code a.0) program a.2 in
    subst (λ (p : Program). is_tested p ≡ true) b.1 b.0

tested_of : (t : ClassTree) (program : Program) → program_of t ≡ Some program → is_tested program ≡ true
unfolding program_of
tested_of t program h =
    let a = bind_some (when (has_form t)) (λ formed. find (is_main t.pool) t.methods >>= λ (main : MethodTree). main.code >>= program_in t) program h in
    let b = bind_some (find (is_main t.pool) t.methods) (λ (main : MethodTree). main.code >>= program_in t) program a.2 in
    let c = bind_some b.0.code (program_in t) program b.2 in
    tested_in t c.0 program c.2

pub never_stuck_of : (n : ℕ) (tree : ClassTree) (program : Program) → program_of tree ≡ Some program → (state_after program n start).end ≢ Some Stuck
never_stuck_of n tree program h = never_stuck n program (tested_of tree program h)

-- ---- the run of a tree is that of its program

pub run_there : (tree : ClassTree) (program : Program) → program_of tree ≡ Some program → run_of tree ≡ Some (run_of_program program)
unfolding run_of
run_there tree program h = ap (option_map run_of_program) h

no_run_there : (tree : ClassTree) → program_of tree ≡ None → run_of tree ≡ None
unfolding run_of
no_run_there tree h = ap (option_map run_of_program) h

program_by_run : (o : Option Program) (run : Run) → option_map run_of_program o ≡ Some run → (program : Program) × (o ≡ Some program)
program_by_run (Some program) run h = (program, refl)
program_by_run None run h = absurd cc

program_there : (tree : ClassTree) (run : Run) → run_of tree ≡ Some run → (program : Program) × (program_of tree ≡ Some program)
unfolding run_of
program_there tree run h = program_by_run (program_of tree) run h

-- ---- what a run answers

-- An answer of the run of one kind is that of the run of another.
pub runs_as : (P Q : Run → Type 0) (A B : Type 0) (turns : ℕ) (before after : Option (List ℕ)) (end : RunEnd) → ((run : Run) → P run → Q run) → (A → B) → RunAnswers P A turns before after end → RunAnswers Q B turns before after end
runs_as P Q A B turns before after ended.Returned f g h = record { run = h.run; of = f h.run h.of; returns = h.returns; out = h.out }
runs_as P Q A B turns before after ended.Stopped f g h = record { run = h.run; of = f h.run h.of; returns = h.returns; out = h.out }
runs_as P Q A B turns before after ended.Unsupported f g h = (g h.0, h.1)
runs_as P Q A B turns before after ended.Write f g h = record { run = h.run; of = f h.run h.of; out = h.out }
runs_as P Q A B turns before after ended.Memory f g (inl h) = inl h
runs_as P Q A B turns before after ended.Memory f g (inr h) = inr (record { run = h.run; of = f h.run h.of; out = h.out })

abbrev OfProgram : Program → Run → Type 0
OfProgram program run = run ≡ run_of_program program

pub tree_ran : (tree : ClassTree) (program : Program) (turns : ℕ) (before after : Option (List ℕ)) (end : RunEnd) → HasProgram tree (Ok program) → RunAnswers (OfProgram program) ⊥ turns before after end → RunAnswers (HasRun tree) (HasNoRun tree) turns before after end
tree_ran tree program turns before after end has h =
    runs_as (OfProgram program) (HasRun tree) ⊥ (HasNoRun tree) turns before after end (λ run e. (has.0, run_there tree program has.1 ∙ ap (λ (r : Run). Some r) (sym e))) (λ none. absurd none) h

pub tree_has_none : (tree : ClassTree) → HasProgram tree (Err NotFirstForm) → HasNoRun tree
tree_has_none tree none = λ formed. no_run_there tree (none formed)

pub file_ran : (bytes : List ℕ) (program : Program) (turns : ℕ) (before after : Option (List ℕ)) (end : RunEnd) → IsFirstForm bytes program → RunAnswers (OfProgram program) ⊥ turns before after end → RunAnswers (FileHasRun bytes) (FileHasNoRun bytes) turns before after end
file_ran bytes program turns before after end is h =
    let has : (run : Run) → run ≡ run_of_program program → FileHasRun bytes run = λ run e. record { tree = is.tree; spelled = is.spelled; run_is = run_there is.tree program is.form ∙ ap (λ (r : Run). Some r) (sym e) } in
    runs_as (OfProgram program) (FileHasRun bytes) ⊥ (FileHasNoRun bytes) turns before after end has (λ none. absurd none) h

pub file_has_none : (bytes : List ℕ) → IsOther bytes → FileHasNoRun bytes
file_has_none bytes other = λ run has.
    let p = program_there has.tree run has.run_is in
    other p.0 (record { tree = has.tree; spelled = has.spelled; form = p.1 })

pub one_is : OneRun
one_is bytes p q a b = some_is p q (sym a.run_is ∙ ap run_of (trees.one_is bytes a.tree b.tree a.spelled b.spelled) ∙ b.run_is)
