use Rattle.std.proofs.Common.{◌≤◌, rules, arith}
use Rattle.vm_start.specs.Table.{row_of}
use Rattle.class_record.specs.Starting.{start}
use Rattle.vm_start.proofs.Leading.{row_within, grown, told_on, told_end, told_stop, told_main}
use Rattle.vm_start.proofs.LinkedClasses.{row_linked, rows_still, rows_end, taken_still}
use Rattle.vm_start.proofs.starting.start_run.Goals as goal

pub returns-in-Err-clause-told : goal.returns-in-Err-clause-told
unfolding start
returns-in-Err-clause-told g c =
    told_stop (g.C.Classes.world c.args.classes.now) _ c.args.main.now c.loop-row.number (row_of c.in-Some.row) _ _ c.in-Err.fault
    c.loop-row.invariant.world c.in-Some.ensures c.loop-row.invariant.told c.in-Err.ensures.told

pub loop-row-smaller : goal.loop-row-smaller
loop-row-smaller g c =
    let within : c.loop-row.number ≤ 38 = row_within c.loop-row.number (row_of c.in-Some.row) c.in-Some.ensures in
    omega arith

pub loop-row-preserved : goal.loop-row-preserved
loop-row-preserved g c = record {
  number = omega arith;
  told =
      told_on (g.C.Classes.world c.args.classes.now) _ c.args.main.now c.loop-row.number (row_of c.in-Some.row) _ _ _
      c.loop-row.invariant.world c.in-Some.ensures c.loop-row.invariant.told (rw c.in-Ok-true.field-0-test at c.in-Ok-true.ensures.told);
  grows = grown (g.C.Classes.classes c.args.classes.now) (g.C.Classes.classes c.loop-row.classes) (g.C.Classes.classes c.fetch.new.classes) c.loop-row.invariant.grows c.in-Ok-true.ensures.grows;
  cause = search rules;
  stays = search rules;
  writes = search rules;
  world = search rules;
  linked =
      row_linked (g.C.Classes.classes c.loop-row.classes) (g.C.Classes.classes c.fetch.new.classes) (g.C.Classes.linked c.loop-row.classes) (g.C.Classes.linked c.fetch.new.classes)
      c.loop-row.number (row_of c.in-Some.row) c.in-Some.ensures c.in-Ok-true.ensures.grows c.in-Ok-true.ensures.still_linked c.loop-row.invariant.linked
      (c.in-Ok-true.ensures.linked c.in-Ok-true.field-0-test);
  still_linked = search rules;
  words = search rules;
  sources =
      taken_still (g.C.Classes.classes c.args.classes.now) (g.C.Classes.classes c.loop-row.classes) (g.C.Classes.archive c.args.classes.now) (g.C.Classes.archive c.loop-row.classes)
      (g.C.Classes.archive c.fetch.new.classes) c.loop-row.invariant.grows c.loop-row.invariant.sources c.in-Ok-true.ensures.sources;
}

pub returns-in-Ok-false-clause-told : goal.returns-in-Ok-false-clause-told
unfolding start
returns-in-Ok-false-clause-told g c =
    told_end (g.C.Classes.world c.args.classes.now) _ c.args.main.now c.loop-row.number (row_of c.in-Some.row) _ _ _
    c.loop-row.invariant.world c.in-Some.ensures c.loop-row.invariant.told (rw c.in-Ok-false.field-0-test at c.in-Ok-false.ensures.told)

pub returns-in-Ok-false-clause-names : goal.returns-in-Ok-false-clause-names
returns-in-Ok-false-clause-names g c = (c.loop-row.invariant.number, row_within c.loop-row.number (row_of c.in-Some.row) c.in-Some.ensures)

pub returns-in-Ok-false-clause-linked : goal.returns-in-Ok-false-clause-linked
returns-in-Ok-false-clause-linked g c =
    rows_still (g.C.Classes.classes c.loop-row.classes) (g.C.Classes.classes c.fetch.new.classes) (g.C.Classes.linked c.loop-row.classes) (g.C.Classes.linked c.fetch.new.classes)
    c.loop-row.number c.in-Ok-false.ensures.grows c.in-Ok-false.ensures.still_linked c.loop-row.invariant.linked

pub returns-clause-linked : goal.returns-clause-linked
returns-clause-linked g c =
    rows_end (g.C.Classes.classes c.loop-row.classes) (g.C.Classes.classes c.load_main.new.classes) (g.C.Classes.linked c.loop-row.classes) (g.C.Classes.linked c.load_main.new.classes)
    c.loop-row.number c.load_main.result c.loop-row.invariant.number c.in_default.ensures c.load_main.ensures.grows c.load_main.ensures.linked c.loop-row.invariant.linked

pub returns-clause-told : goal.returns-clause-told
unfolding start
returns-clause-told g c =
    told_main (g.C.Classes.world c.args.classes.now) _ c.args.main.now c.loop-row.number _ _ _ c.load_main.result
    c.loop-row.invariant.world c.loop-row.invariant.number c.in_default.ensures c.loop-row.invariant.told c.load_main.ensures.told
