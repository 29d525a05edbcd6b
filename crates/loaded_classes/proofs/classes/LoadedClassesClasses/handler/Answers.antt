use Rattle.std.proofs.Common.{List, map, slice_get, sym, ap, ◌∙◌}
use Rattle.class_tree.specs.declared.tree.MethodTree.{MethodTree}
use Rattle.class_record.specs.declared.record.MethodRecord.{MethodRecord}
use Rattle.class_record.specs.Facts.{handlers_in}
use Rattle.class_record.specs.Records.{method_record}
use Rattle.loaded_classes.proofs.FactsKnown.{methods_known}
use Rattle.loaded_classes.proofs.classes.LoadedClassesClasses.handler.Goals as goal

pub returns : goal.returns
returns c =
    c.handler_at.ensures c.class.result.now.tree.pool
    ∙ ap (λ (ms : List MethodTree). slice_get (handlers_in (slice_get (map (method_record c.class.result.now.tree.pool) ms) c.args.m)) c.args.k) c.as_slice-methods.ensures
    ∙ ap (λ (ms : List MethodRecord). slice_get (handlers_in (slice_get ms c.args.m)) c.args.k) (sym (methods_known c.args.self.now.classes c.args.id.0 c.class.result.now c.class.ensures.is))
