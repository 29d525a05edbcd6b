use Rattle.std.proofs.Common.{slice_get, sym, subst}
use Rattle.class_record.specs.Files.{Name}
use Rattle.class_tree.specs.ClassNames.{own_name}
use Rattle.class_record.specs.Ancestors.{newest, superinterfaces_in}
use Rattle.class_record.specs.Calls.{IsClassBefore}
use Rattle.loaded_classes.proofs.FactsKnown.{name_known}
use Rattle.loaded_classes.proofs.classes.LoadedClassesClasses.superinterface.Goals as goal

pub returns : goal.returns
returns c =
    subst (λ (name : Name). IsClassBefore c.args.self.now.classes c.args.id.0 (slice_get (superinterfaces_in (newest c.args.self.now.classes) name) c.args.k) c.class_at.result)
    (sym (name_known c.args.self.now.classes c.args.id.0 c.class.result.now c.class.ensures.is))
    (c.class_at.ensures c.args.self.now.classes c.args.id.0 (superinterfaces_in (newest c.args.self.now.classes) (own_name c.class.result.now.tree)) c.class.ensures.held.superinterfaces)
