use Rattle.std.proofs.Common.{◌≡◌, length, subst}
use Rattle.class_record.specs.Facts.{pool_of}
use Rattle.loaded_classes.specs.Table.{ClassTable, row_at}
use Rattle.loaded_classes.proofs.Kept.{rows_fit}
use Rattle.loaded_classes.proofs.table.LoadedClasses.word.Goals as goal

pub returns-clause-rows : goal.returns-clause-rows
returns-clause-rows c =
    subst (λ (t : ClassTable). length (row_at t.words c.args.id.0) ≡ length (pool_of t.classes c.args.id.0)) c.self.view_is
    (rows_fit c.self.inside.classes.items c.self.inside.linked.items c.self.inside.words.items c.self.inside.places c.self.invariant c.args.id.0)
