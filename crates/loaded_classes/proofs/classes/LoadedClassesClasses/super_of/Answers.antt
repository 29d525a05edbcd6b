use Rattle.std.proofs.Common.{Option, sym, subst}
use Rattle.class_record.specs.Files.{Name}
use Rattle.class_tree.specs.ClassNames.{sup_name}
use Rattle.class_record.specs.Calls.{IsClassBefore}
use Rattle.loaded_classes.proofs.FactsKnown.{sup_known}
use Rattle.loaded_classes.proofs.classes.LoadedClassesClasses.super_of.Goals as goal

pub returns : goal.returns
returns c =
    subst (λ (wanted : Option Name). IsClassBefore c.args.self.now.classes c.args.id.0 wanted c.class_with.result)
    (sym (sup_known c.args.self.now.classes c.args.id.0 c.class.result.now c.class.ensures.is))
    (c.class_with.ensures c.args.self.now.classes c.args.id.0 (sup_name c.class.result.now.tree) c.class.ensures.held.sup)
