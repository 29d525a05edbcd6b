use Rattle.std.proofs.Common.{Some, sym, ap, ◌∙◌}
use Rattle.class_record.specs.Files.{Name}
use Rattle.loaded_classes.specs.Held.{facts_in}
use Rattle.loaded_classes.proofs.Names.{name_at_place, name_is}
use Rattle.loaded_classes.proofs.classes.LoadedClassesClasses.name.Goals as goal

pub returns : goal.returns
returns c =
    name_at_place c.args.self.now.classes c.args.id.0 (facts_in c.class.result.now) c.class.ensures.is
    ∙ ap (λ (n : Name). Some n) (name_is c.class.result.now ∙ sym c.own_name.ensures)
