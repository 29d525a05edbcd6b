use Rattle.std.proofs.Common.{subst}
use Rattle.class_record.specs.Facts.{names_of}
use Rattle.class_record.specs.Laws.{AreDistinct}
use Rattle.class_record.proofs.Newest.{built_distinct}
use Rattle.loaded_classes.specs.Table.{ClassTable}
use Rattle.loaded_classes.specs.Held.{facts_list}
use Rattle.loaded_classes.proofs.table.LoadedClasses.count_held.Goals as goal

pub returns-clause-distinct : goal.returns-clause-distinct
returns-clause-distinct c =
    subst (λ (t : ClassTable). AreDistinct (names_of t.classes)) c.self.view_is (built_distinct (facts_list c.self.inside.classes.items) c.self.invariant.built)
