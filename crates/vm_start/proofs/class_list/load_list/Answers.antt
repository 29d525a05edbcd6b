use Rattle.class_record.specs.Facts.{names_of}
use Rattle.vm_start.proofs.Lines.{line_written}
use Rattle.vm_start.proofs.class_list.load_list.Goals as goal

pub loop-id-preserved : goal.loop-id-preserved
loop-id-preserved g c =
    line_written c.loop-id.list.items c.push_line.new.list.items (names_of (g.C.Classes.classes c.args.classes.now)) c.loop-id.id c.name.result.now c.name.ensures c.in_ok-push_line.ensures c.loop-id.invariant
