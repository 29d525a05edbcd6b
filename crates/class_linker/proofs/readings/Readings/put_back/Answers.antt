use Rattle.std.proofs.Common.{◌<◌, List, length, subst, sym, ap, ◌∙◌}
use Rattle.class_linker.specs.declared.readings.Reading.{Reading}
use Rattle.class_linker.specs.Kept.{with_held}
use Rattle.class_linker.proofs.ReadingHeld.{set_held}
use Rattle.class_linker.proofs.readings.Readings.put_back.Goals as goal

pub returns : goal.returns
returns c =
    let rs : List Reading = c.self.inside.list.items in
    let within : c.args.place < length rs = subst (λ (xs : List Reading). c.args.place < length xs) (sym c.self.view_is) c.requires in
    set_held rs c.args.place c.index_mut-reading.result.now c.args.held within c.index_mut-reading.ensures.value
    ∙ ap (λ (xs : List Reading). with_held xs c.args.place c.args.held) c.self.view_is
