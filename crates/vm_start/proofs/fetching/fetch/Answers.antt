use Rattle.class_record.specs.Facts.{names_of}
use Rattle.vm_start.specs.Table.{row_of}
use Rattle.vm_start.proofs.StepTests.{fetch_stops, fetch_behind}
use Rattle.vm_start.proofs.fetching.fetch.Goals as goal

pub returns-in-Err-clause-told : goal.returns-in-Err-clause-told
returns-in-Err-clause-told g c =
    fetch_stops (g.C.Classes.world c.args.classes.now) (row_of c.args.row.now) c.as_bytes.result.now
    (record { order = names_of (g.C.Classes.classes c.args.classes.now); begun = g.C.Classes.begun c.args.classes.now; reads = g.C.Classes.reads c.args.classes.now })
    c.in-Err.fault c.as_bytes.ensures.value c.in-Err.ensures.told

pub returns-in-Ok-Ok-clause-told : goal.returns-in-Ok-Ok-clause-told
returns-in-Ok-Ok-clause-told g c =
    fetch_behind (g.C.Classes.world c.args.classes.now) _ (row_of c.args.row.now) c.as_bytes.result.now _ _ _ c.in-Ok-Ok.id _ c.as_bytes.ensures.value c.in-Ok-Ok.ensures.world
    (rw c.in-Ok-Ok.field-0-is at c.in-Ok-Ok.ensures.told) c.link_loaded.ensures.told
