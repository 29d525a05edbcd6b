use Rattle.std.proofs.Common.{◌<◌, length, ◌∙◌, ap}
use Rattle.std.proofs.lemmas.Option.{slice_get_within}
use Rattle.class_linker.specs.declared.readings.Held.TheVariants.{Tree, Loaded}
use Rattle.class_linker.specs.Kept.{with_held}
use Rattle.class_linker.proofs.CompleteHeld.{length_held, put_again, taken_is}
use Rattle.class_linker.proofs.completing.load_tree.Goals as goal

pub put_back-requires : goal.put_back-requires
put_back-requires c =
    let within : c.args.place < length c.args.library.now.readings = slice_get_within _ _ _ c.requires.ready.2.at in
    rw (c.take.ensures.left, length_held c.args.library.now.readings c.args.place Loaded) within

pub returns-in-Err : goal.returns-in-Err
returns-in-Err c r tree h =
    let rs = c.args.library.now.readings in
    let back = c.in-Err.ensures.err in
    let held = taken_is rs c.args.place r (Tree c.in-Tree.tree) h.at (rw c.in-Tree.is at c.take.ensures.taken) in (
      c.put_back.ensures ∙ ap (λ old. with_held old c.args.place (Tree c.in-Err.tree)) c.take.ensures.left
          ∙ ap (λ t. with_held (with_held rs c.args.place Loaded) c.args.place (Tree t)) back.0 ∙ put_again rs c.args.place r (Tree c.in-Tree.tree) h.at held,
      back.1,
    )
