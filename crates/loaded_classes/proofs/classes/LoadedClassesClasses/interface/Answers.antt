use Rattle.std.proofs.Common.{List, slice_get, sym, subst}
use Rattle.class_record.specs.Files.{Name}
use Rattle.class_tree.specs.ClassNames.{interface_names}
use Rattle.class_record.specs.Calls.{IsClassBefore}
use Rattle.loaded_classes.proofs.FactsKnown.{interfaces_known}
use Rattle.loaded_classes.proofs.classes.LoadedClassesClasses.interface.Goals as goal

pub returns : goal.returns
returns c =
    subst (λ (wanted : List Name). IsClassBefore c.args.self.now.classes c.args.id.0 (slice_get wanted c.args.k) c.class_at.result)
    (sym (interfaces_known c.args.self.now.classes c.args.id.0 c.class.result.now c.class.ensures.is))
    (c.class_at.ensures c.args.self.now.classes c.args.id.0 (interface_names c.class.result.now.tree) c.class.ensures.held.interfaces)
