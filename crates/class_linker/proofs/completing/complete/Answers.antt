use Rattle.std.proofs.Common.{◌≡◌, ℕ, Some, refl, sym, ◌∙◌, ap, arith}
use Rattle.jsa_base.specs.declared.quantity.Quantity.TheVariants as quantities
use Rattle.class_linker.specs.Kept.{IsKept}
use Rattle.class_linker.specs.Rights.{IsRight, progress_at}
use Rattle.class_linker.proofs.StepGrown.{grows_same}
use Rattle.class_linker.proofs.CompleteKept.{is_ready_of, same_both}
use Rattle.class_linker.proofs.Completed.{Completed, completed, full_told}
use Rattle.class_linker.proofs.completing.complete.Goals as goal

pub load_tree-requires-clause-ready : goal.load_tree-requires-clause-ready
load_tree-requires-clause-ready c =
    let ready = is_ready_of c.args.library.now.readings c.args.library.now.loaded c.args.path.now c.in-Some.top c.requires.kept c.requires.path c.requires.none c.in-Some.ensures.top in
    (ready.reading, ready.tree, ready.is)

all_of : (c : goal.After-pop) → Completed c.args.library.now.readings c.load_tree.new.library.readings c.args.library.now.loaded c.load_tree.new.library.loaded c.args.path.now c.pop.new.self
all_of c = completed c.args.library.now.readings c.load_tree.new.library.readings c.args.library.now.loaded c.load_tree.new.library.loaded c.args.path.now c.pop.new.self c.in-Some.top
    c.requires.kept c.requires.path c.requires.none c.in-Some.ensures.top (omega arith) c.in-Ok.ensures c.pop.ensures

abbrev unchanged : (c : goal.In-Err) → (c.load_tree.new.library.readings ≡ c.args.library.now.readings) × (c.load_tree.new.library.loaded ≡ c.args.library.now.loaded)
unchanged c =
    let ready = is_ready_of c.args.library.now.readings c.args.library.now.loaded c.args.path.now c.in-Some.top c.requires.kept c.requires.path c.requires.none c.in-Some.ensures.top in
    c.in-Err.ensures ready.reading ready.tree ready.is

pub returns-in-Ok-clause-kept : goal.returns-in-Ok-clause-kept
returns-in-Ok-clause-kept c = (all_of c).kept

pub returns-in-Ok-clause-path : goal.returns-in-Ok-clause-path
returns-in-Ok-clause-path c = (all_of c).path

pub returns-in-Ok-clause-next : goal.returns-in-Ok-clause-next
returns-in-Ok-clause-next c = (all_of c).next

pub returns-in-Ok-clause-grows : goal.returns-in-Ok-clause-grows
returns-in-Ok-clause-grows c = (all_of c).grows

pub returns-in-Ok-clause-more : goal.returns-in-Ok-clause-more
returns-in-Ok-clause-more c = (all_of c).more

pub returns-in-Ok-clause-awaits : goal.returns-in-Ok-clause-awaits
returns-in-Ok-clause-awaits c = (all_of c).awaits

pub returns-in-Ok-clause-told : goal.returns-in-Ok-clause-told
returns-in-Ok-clause-told c = (all_of c).told

pub returns-in-Err-clause-kept : goal.returns-in-Err-clause-kept
returns-in-Err-clause-kept c = same_both IsKept _ _ _ _ (unchanged c).0 (unchanged c).1 c.requires.kept

pub returns-in-Err-clause-grows : goal.returns-in-Err-clause-grows
returns-in-Err-clause-grows c = grows_same _ _ (unchanged c).1

pub returns-in-Err-clause-told : goal.returns-in-Err-clause-told
returns-in-Err-clause-told c p reads right path = (tt, same_both (IsRight p) _ _ _ _ (unchanged c).0 (unchanged c).1 right)

pub returns-then-count-eq-MAX_LOADED-clause-told : goal.returns-then-count-eq-MAX_LOADED-clause-told
returns-then-count-eq-MAX_LOADED-clause-told c p reads right path =
    let t = c.args.library.now.loaded in (
      full_told p c.args.library.now.readings t c.args.path.now (progress_at reads c.args.library.now.readings t) c.requires.path c.requires.none refl (omega arith)
          ∙ ap (λ (n : ℕ). Some (quantities.Loaded, n)) (sym c.from.ensures),
      right,
    )
