use Rattle.std.proofs.Common.{sym, ap, ◌∙◌}
use Rattle.std.specs.Option.{option_copied}
use Rattle.class_tree.proofs.Places.{learned}
use Rattle.class_tree.proofs.text_places.text_place.Goals as goal

pub returns-in-Ok-clause-known : goal.returns-in-Ok-clause-known
returns-in-Ok-clause-known c =
    learned c.args.known.now c.insert.new.self c.args.text c.args.next c.in-Ok.ensures.updates (sym c.get.ensures.value ∙ ap option_copied c.in_default.is)
