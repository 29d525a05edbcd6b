use Rattle.std.proofs.Common.{List, slice_get, sym, ap, ◌∙◌}
use Rattle.class_record.specs.declared.record.PoolName.{PoolName}
use Rattle.class_record.specs.Facts.{entry_or_unusable}
use Rattle.loaded_classes.proofs.FactsKnown.{pool_known}
use Rattle.loaded_classes.proofs.classes.LoadedClassesClasses.pool.Goals as goal

pub returns : goal.returns
returns c =
    c.pool_at.ensures
    ∙ ap (λ (names : List PoolName). entry_or_unusable (slice_get names c.args.k)) (sym (pool_known c.args.self.now.classes c.args.id.0 c.class.result.now c.class.ensures.is))
