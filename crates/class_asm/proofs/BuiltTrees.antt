-- Each tree of a text has a pool that is built as it should be.
use Rattle.std.proofs.Common.{◌≡◌, ℕ, ◌+◌, Option, Some, None, List, [], ◌∷◌, ◌++◌, refl, subst}
use Rattle.std.specs.Prelude.{⊤, Result, Ok}
use Rattle.std.specs.List.{AllByRecursion}
use Rattle.jsa_base.specs.Reading.{◌>>=◌}
use Rattle.class_tree.specs.declared.constant_pool.PoolEntry.{PoolEntry}
use Rattle.class_tree.specs.declared.constant_pool.PoolEntry.TheVariants as entries
use Rattle.class_tree.specs.declared.tree.ClassTree.{ClassTree}
use Rattle.asm_text.specs.declared.statement.ClassLine.{ClassLine}
use Rattle.asm_text.specs.declared.statement.Statement.{Statement}
use Rattle.asm_text.specs.declared.statement.Statement.TheVariants as statement
use Rattle.asm_text.specs.Grammar.{statements}
use Rattle.pool_builder.specs.Needs.{class_needed}
use Rattle.pool_builder.specs.Laws.{IsBuilt, Keeps}
use Rattle.pool_builder.proofs.Keeping.{keeps_same, pools_are_built}
use Rattle.class_asm.specs.declared.class_draft.ClassDraft.{ClassDraft}
use Rattle.class_asm.specs.declared.code_draft.MethodDraft.{MethodDraft}
use Rattle.class_tree.specs.declared.tree.CodeTree.{CodeTree}
use Rattle.class_asm.specs.declared.place.Place.{Place}
use Rattle.class_asm.specs.declared.place.Place.TheVariants as place
use Rattle.class_asm.specs.Labels.{labels_of}
use Rattle.class_asm.specs.Drafts.{optional_class_needed, classes_needed, class_begun, tree_of, field_added, method_begun, method_closed, code_begun, label_passed, operation_added, handler_added, frame_added, code_ended}
use Rattle.class_asm.specs.Assembly.{finished, in_class, in_header, in_method, in_code, after_class, next, advance, run, or_line, assembled, with_trees, after_version, after_field, after_method, after_code, after_label, after_operation, after_catch, after_frame, after_end}
use Rattle.class_asm.specs.Laws.{PoolsAreBuilt}
use Rattle.class_asm.proofs.Keeping.{AllIn, bind_all, when_all, some_all, from, class_keeps}
use Rattle.class_asm.proofs.Kept.{Goes, optional_keeps, classes_keep, field_goes, method_goes, code_goes, label_goes, operation_goes, handler_goes, frame_goes, end_goes}

abbrev ok : {A : Type 0} → A → Result A ℕ
ok x = Ok x

-- ---- steps

closed_goes : (m : MethodDraft) (code : Option CodeTree) → Goes m.class (method_closed m code)
closed_goes m code = record { pool = keeps_same m.class.pool; this = refl }

ok_of : {A B : Type 0} (o : Option A) (n : ℕ) (f : A → Result B ℕ) (y : B) → or_line o n f ≡ Ok y → (x : A) × (o ≡ Some x) × (f x ≡ Ok y)
ok_of (Some x) n f y e = (x, refl, e)
ok_of None n f y e = absurd cc

ok_is : {A : Type 0} (x y : A) → ok x ≡ ok y → x ≡ y
ok_is x y e = cc

-- ---- what holds of the class at hand, where lines of its body keep it

-- A property of classes that a class line gives, and that the lines behind it keep.
pub record Lasts (Begins : ClassLine → Type 0) (Holds : ClassDraft → Type 0) : Type 0 where
  pub begin : (line : ClassLine) → Begins line → AllIn (class_begun line) Holds
  pub goes : (before after : ClassDraft) → Goes before after → Holds before → Holds after

abbrev pub HoldsAt : (ClassDraft → Type 0) → Place → Type 0
HoldsAt Holds place.Start = ⊤
HoldsAt Holds (place.Header class) = Holds class
HoldsAt Holds (place.Members class) = Holds class
HoldsAt Holds (place.Method m) = Holds m.class
HoldsAt Holds (place.Code code) = Holds code.method.class

-- A class line of the text begins so.
abbrev pub BeginsSo : (ClassLine → Type 0) → Statement → Type 0
BeginsSo Begins (statement.Class line) = Begins line
BeginsSo Begins _ = ⊤

abbrev pub LineBeginsSo : (ClassLine → Type 0) → Option Statement → Type 0
LineBeginsSo Begins (Some line) = BeginsSo Begins line
LineBeginsSo Begins None = ⊤

module _ (Begins : ClassLine → Type 0) (Holds : ClassDraft → Type 0) (Tree : ClassTree → Type 0) (lasts : Lasts Begins Holds) (tree : (class : ClassDraft) → Holds class → Tree (tree_of class)) where
  abbrev pub AllTrees : List ClassTree → Type 0
  AllTrees = AllByRecursion Tree

  appended : (done : List ClassTree) (t : ClassTree) → AllTrees done → Tree t → AllTrees (done ++ t ∷ [])
  appended [] t all h = (h, tt)
  appended (x ∷ done) t all h = (all.0, appended done t all.1 h)

  finished_all : (done : List ClassTree) (here : Place) → AllTrees done → HoldsAt Holds here → AllIn (finished done here) AllTrees
  finished_all done place.Start all h = some_all done AllTrees all
  finished_all done (place.Header class) all h = some_all _ AllTrees (appended done (tree_of class) all (tree class h))
  finished_all done (place.Members class) all h = some_all _ AllTrees (appended done (tree_of class) all (tree class h))
  finished_all done (place.Method m) all h = some_all _ AllTrees (appended done (tree_of (method_closed m None)) all (tree (method_closed m None) (lasts.goes m.class (method_closed m None) (closed_goes m None) h)))
  finished_all done (place.Code code) all h = λ y e. absurd cc

  class_all : (here : Place) → HoldsAt Holds here → AllIn (in_class here) Holds
  class_all place.Start h = λ y e. absurd cc
  class_all (place.Header class) h = some_all class Holds h
  class_all (place.Members class) h = some_all class Holds h
  class_all (place.Method m) h = some_all (method_closed m None) Holds (lasts.goes m.class (method_closed m None) (closed_goes m None) h)
  class_all (place.Code code) h = λ y e. absurd cc

  header_all : (here : Place) → HoldsAt Holds here → AllIn (in_header here) Holds
  header_all place.Start h = λ y e. absurd cc
  header_all (place.Header class) h = some_all class Holds h
  header_all (place.Members class) h = λ y e. absurd cc
  header_all (place.Method m) h = λ y e. absurd cc
  header_all (place.Code code) h = λ y e. absurd cc

  method_all : (here : Place) → HoldsAt Holds here → AllIn (in_method here) (λ m. Holds m.class)
  method_all place.Start h = λ y e. absurd cc
  method_all (place.Header class) h = λ y e. absurd cc
  method_all (place.Members class) h = λ y e. absurd cc
  method_all (place.Method m) h = some_all m (λ m. Holds m.class) h
  method_all (place.Code code) h = λ y e. absurd cc

  code_all : (here : Place) → HoldsAt Holds here → AllIn (in_code here) (λ code. Holds code.method.class)
  code_all place.Start h = λ y e. absurd cc
  code_all (place.Header class) h = λ y e. absurd cc
  code_all (place.Members class) h = λ y e. absurd cc
  code_all (place.Method m) h = λ y e. absurd cc
  code_all (place.Code code) h = some_all code (λ code. Holds code.method.class) h

  abbrev So : Place × List ClassTree → Type 0
  So x = HoldsAt Holds x.0 × AllTrees x.1

  with_all : (done : List ClassTree) (o : Option Place) → AllTrees done → AllIn o (HoldsAt Holds) → AllIn (with_trees done o) So
  with_all done o all h = bind_all o (λ p. Some (p, done)) (HoldsAt Holds) So h (λ p k. some_all (p, done) So (k, all))

  class_line_all : (line : ClassLine) (here : Place) (done : List ClassTree) → Begins line → AllTrees done → HoldsAt Holds here → AllIn (after_class line here done) So
  class_line_all line here done b all h =
      bind_all (finished done here) (λ trees. class_begun line >>= λ class. Some (place.Header class, trees)) AllTrees So (finished_all done here all h)
      (λ trees t. bind_all (class_begun line) (λ class. Some (place.Header class, trees)) Holds So (lasts.begin line b)
      (λ class k. some_all (place.Header class, trees) So (k, t)))

  next_all : (rest : List (Option Statement)) (line : Statement) (here : Place) (done : List ClassTree) → BeginsSo Begins line → AllTrees done → HoldsAt Holds here → AllIn (next rest line here done) So
  next_all rest statement.Blank here done b all h = some_all (here, done) So (h, all)
  next_all rest (statement.Class line) here done b all h = class_line_all line here done b all h
  next_all rest (statement.Version major) here done b all h =
      with_all done (after_version major here) all (bind_all (in_header here) _ Holds (HoldsAt Holds) (header_all here h)
      (λ class k. some_all _ (HoldsAt Holds) (lasts.goes class (record class { major = major }) (record { pool = keeps_same class.pool; this = refl }) k)))
  next_all rest (statement.Field line) here done b all h =
      with_all done (after_field line here) all (bind_all (in_class here) _ Holds (HoldsAt Holds) (class_all here h)
      (λ class k. bind_all (field_added line class) _ (Goes class) (HoldsAt Holds) (field_goes line class)
      (λ after g. some_all _ (HoldsAt Holds) (lasts.goes class after g k))))
  next_all rest (statement.Method line) here done b all h =
      with_all done (after_method line here) all (bind_all (in_class here) _ Holds (HoldsAt Holds) (class_all here h)
      (λ class k. bind_all (method_begun line class) _ (λ m. Goes class m.class) (HoldsAt Holds) (method_goes line class)
      (λ m g. some_all _ (HoldsAt Holds) (lasts.goes class m.class g k))))
  next_all rest (statement.Code line) here done b all h =
      with_all done (after_code rest line here) all (bind_all (in_method here) _ (λ m. Holds m.class) (HoldsAt Holds) (method_all here h)
      (λ m k. bind_all (code_begun line (labels_of ([], 0) rest) m) _ (λ code. Goes m.class code.method.class) (HoldsAt Holds) (code_goes line (labels_of ([], 0) rest) m)
      (λ code g. some_all _ (HoldsAt Holds) (lasts.goes m.class code.method.class g k))))
  next_all rest (statement.Label name) here done b all h =
      with_all done (after_label name here) all (bind_all (in_code here) _ (λ code. Holds code.method.class) (HoldsAt Holds) (code_all here h)
      (λ code k. bind_all (label_passed name code) _ (λ after. Goes code.method.class after.method.class) (HoldsAt Holds) (label_goes name code)
      (λ after g. some_all _ (HoldsAt Holds) (lasts.goes code.method.class after.method.class g k))))
  next_all rest (statement.Operation o) here done b all h =
      with_all done (after_operation o here) all (bind_all (in_code here) _ (λ code. Holds code.method.class) (HoldsAt Holds) (code_all here h)
      (λ code k. bind_all (operation_added o code) _ (λ after. Goes code.method.class after.method.class) (HoldsAt Holds) (operation_goes o code)
      (λ after g. some_all _ (HoldsAt Holds) (lasts.goes code.method.class after.method.class g k))))
  next_all rest (statement.Catch line) here done b all h =
      with_all done (after_catch line here) all (bind_all (in_code here) _ (λ code. Holds code.method.class) (HoldsAt Holds) (code_all here h)
      (λ code k. bind_all (handler_added line code) _ (λ after. Goes code.method.class after.method.class) (HoldsAt Holds) (handler_goes line code)
      (λ after g. some_all _ (HoldsAt Holds) (lasts.goes code.method.class after.method.class g k))))
  next_all rest (statement.Frame line) here done b all h =
      with_all done (after_frame line here) all (bind_all (in_code here) _ (λ code. Holds code.method.class) (HoldsAt Holds) (code_all here h)
      (λ code k. bind_all (frame_added line code) _ (λ after. Goes code.method.class after.method.class) (HoldsAt Holds) (frame_goes line code)
      (λ after g. some_all _ (HoldsAt Holds) (lasts.goes code.method.class after.method.class g k))))
  next_all rest statement.End here done b all h =
      with_all done (after_end here) all (bind_all (in_code here) _ (λ code. Holds code.method.class) (HoldsAt Holds) (code_all here h)
      (λ code k. bind_all (code_ended code) _ (Goes code.method.class) (HoldsAt Holds) (end_goes code)
      (λ class g. some_all _ (HoldsAt Holds) (lasts.goes code.method.class class g k))))

  advance_all : (rest : List (Option Statement)) (line : Option Statement) (here : Place) (done : List ClassTree) → LineBeginsSo Begins line → AllTrees done → HoldsAt Holds here → AllIn (advance rest line here done) So
  unfolding advance
  advance_all rest (Some line) here done b all h = next_all rest line here done b all h
  advance_all rest None here done b all h = λ y e. absurd cc

  pub run_all : (lines : List (Option Statement)) (number : ℕ) (here : Place) (done trees : List ClassTree) → AllByRecursion (LineBeginsSo Begins) lines → AllTrees done → HoldsAt Holds here → run number here done lines ≡ Ok trees → AllTrees trees
  unfolding run
  run_all [] number here done trees b all h e =
      let x = ok_of (finished done here) number (λ ts. ok ts) trees e in
      subst AllTrees (ok_is x.0 trees x.2) (finished_all done here all h x.0 x.1)
  run_all (line ∷ lines) number here done trees b all h e =
      let x = ok_of (advance lines line here done) number (λ after. run (number + 1) after.0 after.1 lines) trees e in
      let p = advance_all lines line here done b.0 all h x.0 x.1 in
      run_all lines (number + 1) x.0.0 x.0.1 trees b.1 p.1 p.0 x.2

-- ---- pools

abbrev Any : ClassLine → Type 0
Any line = ⊤

abbrev HasPool : ClassDraft → Type 0
HasPool class = IsBuilt class.pool

any_line : (lines : List (Option Statement)) → AllByRecursion (LineBeginsSo Any) lines
any_line [] = tt
any_line (None ∷ lines) = (tt, any_line lines)
any_line (Some (statement.Class line) ∷ lines) = (tt, any_line lines)
any_line (Some statement.Blank ∷ lines) = (tt, any_line lines)
any_line (Some (statement.Version n) ∷ lines) = (tt, any_line lines)
any_line (Some (statement.Field line) ∷ lines) = (tt, any_line lines)
any_line (Some (statement.Method line) ∷ lines) = (tt, any_line lines)
any_line (Some (statement.Code line) ∷ lines) = (tt, any_line lines)
any_line (Some (statement.Label name) ∷ lines) = (tt, any_line lines)
any_line (Some (statement.Operation o) ∷ lines) = (tt, any_line lines)
any_line (Some (statement.Catch line) ∷ lines) = (tt, any_line lines)
any_line (Some (statement.Frame line) ∷ lines) = (tt, any_line lines)
any_line (Some statement.End ∷ lines) = (tt, any_line lines)

abbrev pub first_pool : List PoolEntry
first_pool = entries.Unusable ∷ []

-- a class begins with what its name needs
pub begun_all : (line : ClassLine) (Q : ℕ × List PoolEntry → Type 0) (P : ClassDraft → Type 0) → AllIn (class_needed line.name first_pool) Q → ((this : ℕ × List PoolEntry) (class : ClassDraft) → Q this → class.this ≡ this.0 → Keeps this.1 class.pool → P class) → AllIn (class_begun line) P
unfolding class_begun
begun_all line Q P q p =
    when_all _ _ P (bind_all (class_needed line.name first_pool) _ Q P q
    (λ this t. bind_all (optional_class_needed line.sup this.1) _ (λ x. Keeps this.1 x.1) P (optional_keeps line.sup this.1)
    (λ sup k. bind_all (classes_needed line.interfaces sup.1) _ (λ x. Keeps this.1 x.1) P (from this.1 sup.1 _ k (classes_keep line.interfaces sup.1))
    (λ interfaces l. some_all _ P (p this _ t refl l)))))

pool_lasts : Lasts Any HasPool
pool_lasts = record {
  begin = λ line b. begun_all line (λ x. Keeps first_pool x.1) HasPool (class_keeps line.name first_pool) (λ this class q is k. k.built (q.built pools_are_built.start));
  goes = λ before after g h. g.pool.built h;
}

pub all_built : PoolsAreBuilt
unfolding assembled
all_built text trees e = run_all Any HasPool (λ t. IsBuilt t.pool) pool_lasts (λ class h. h) (statements text) 1 place.Start [] trees (any_line (statements text)) tt tt e
