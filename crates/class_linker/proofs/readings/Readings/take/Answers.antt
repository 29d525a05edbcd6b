use Rattle.std.proofs.Common.{◌<◌, List, length, subst, sym, ap, ◌∙◌, slice_set}
use Rattle.class_linker.specs.declared.readings.Held.{Held}
use Rattle.class_linker.specs.declared.readings.Held.TheVariants.{Loaded}
use Rattle.class_linker.specs.declared.readings.Reading.{Reading}
use Rattle.class_linker.specs.Kept.{held_as, with_held}
use Rattle.class_linker.proofs.ReadingHeld.{set_held}
use Rattle.class_linker.proofs.readings.Readings.take.Goals as goal

pub returns-clause-left : goal.returns-clause-left
returns-clause-left c =
    let rs : List Reading = c.self.inside.list.items in
    let within : c.args.place < length rs = subst (λ (xs : List Reading). c.args.place < length xs) (sym c.self.view_is) c.requires in
    ap (λ (h : Held). slice_set rs c.args.place (held_as h c.index_mut-reading.result.now)) c.replace.ensures.after
    ∙ set_held rs c.args.place c.index_mut-reading.result.now Loaded within c.index_mut-reading.ensures.value
    ∙ ap (λ (xs : List Reading). with_held xs c.args.place Loaded) c.self.view_is
