use Rattle.std.proofs.Common.{◌∙◌, ap, List}
use Rattle.class_asm.specs.Labels.{Label, place_of}
use Rattle.class_asm.proofs.MapLabels.{place_in}
use Rattle.class_asm.proofs.labels.Labels.place.Goals as goal

pub returns : goal.returns
returns c = c.copied.ensures ∙ c.get.ensures.value ∙ place_in c.args.name.now c.self.inside.places.entries ∙ ap (λ (ls : List Label). place_of ls c.args.name.now) c.self.view_is
