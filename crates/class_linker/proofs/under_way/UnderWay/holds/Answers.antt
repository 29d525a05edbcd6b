use Rattle.std.proofs.Common.{List, ap, ◌∙◌}
use Rattle.class_record.specs.Loading.{is_among}
use Rattle.class_linker.specs.declared.under_way.Frame.{Frame}
use Rattle.class_linker.specs.Kept.{names_under}
use Rattle.class_linker.proofs.UnderWayNames.{knows_name}
use Rattle.class_linker.proofs.under_way.UnderWay.holds.Goals as goal

pub returns : goal.returns
returns c =
    c.contains.ensures ∙ knows_name c.self.inside.names c.self.inside.frames.items c.args.name.now c.self.invariant
    ∙ ap (λ (fs : List Frame). is_among c.args.name.now (names_under fs)) c.self.view_is
