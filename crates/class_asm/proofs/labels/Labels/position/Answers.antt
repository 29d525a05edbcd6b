use Rattle.std.proofs.Common.{◌∙◌, ap, position}
use Rattle.class_asm.specs.Labels.{is_named}
use Rattle.class_asm.proofs.MapLabels.{position_in}
use Rattle.class_asm.proofs.labels.Labels.position.Goals as goal

pub returns-clause-value : goal.returns-clause-value
returns-clause-value c = c.get_index_of.ensures.index ∙ position_in c.args.name.now c.self.inside.places.entries ∙ ap (position (is_named c.args.name.now)) c.self.view_is
