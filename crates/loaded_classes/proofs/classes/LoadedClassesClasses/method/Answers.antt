use Rattle.std.proofs.Common.{List, map, slice_get, sym, ap, ◌∙◌}
use Rattle.std.specs.Option.{option_map}
use Rattle.class_tree.specs.declared.tree.MethodTree.{MethodTree}
use Rattle.class_record.specs.declared.record.MethodRecord.{MethodRecord}
use Rattle.class_record.specs.Facts.{method_told}
use Rattle.class_record.specs.Records.{method_record}
use Rattle.loaded_classes.proofs.FactsKnown.{methods_known}
use Rattle.loaded_classes.proofs.classes.LoadedClassesClasses.method.Goals as goal

pub returns-clause-method : goal.returns-clause-method
returns-clause-method c =
    c.method_at.ensures.method
    ∙ ap (λ (ms : List MethodTree). option_map method_told (slice_get (map (method_record c.class.result.now.tree.pool) ms) c.args.k)) c.as_slice.ensures
    ∙ ap (λ (ms : List MethodRecord). option_map method_told (slice_get ms c.args.k)) (sym (methods_known c.args.self.now.classes c.args.id.0 c.class.result.now c.class.ensures.is))
