use Rattle.std.proofs.Common.{List, subst, ◌∙◌}
use Rattle.class_linker.specs.declared.readings.Reading.{Reading}
use Rattle.class_linker.specs.Kept.{IsPlaceOf}
use Rattle.class_linker.proofs.ReadingPlaces.{found}
use Rattle.class_linker.proofs.readings.Readings.find.Goals as goal

pub returns : goal.returns
returns c =
    subst (λ (rs : List Reading). IsPlaceOf rs c.args.name.now c.place_of.result) c.self.view_is
    (found c.self.inside.list.items c.args.name.now c.place_of.result (c.place_of.ensures ∙ c.self.invariant.known c.args.name.now))
