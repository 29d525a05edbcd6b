use Rattle.std.proofs.Common.{ap, subst, sym, refl, Ok, Err}
use Rattle.class_record.specs.Files.{Name}
use Rattle.class_record.specs.Facts.{names_of}
use Rattle.class_linker.specs.Fresh.{world_in}
use Rattle.home_run.specs.declared.end.HomeEnd.{HomeEnd}
use Rattle.home_run.specs.declared.end.HomeEnd.TheVariants as ended
use Rattle.home_run.specs.Steps.{ClassesAnswer, end_of_fault, progress_in}
use Rattle.home_run.proofs.Starting.{no_boot, no_main, fault, ready}
use Rattle.home_run.proofs.running.run_classes.Goals as goal

pub returns-in-Ok-NoBoot-clause-answer : goal.returns-in-Ok-NoBoot-clause-answer
returns-in-Ok-NoBoot-clause-answer g c =
    let old = c.args.classes.now in
    let new = c.start_run.new.classes in
    let w = world_in (g.F.Files.store old.files) old.folders in
    let steps = c.args.request.now.steps in
    let a = progress_in g.F.Files.store old in
    let b = progress_in g.F.Files.store new in
    let out = g.O.Sink.taken c.args.out.now in
    subst (λ (name : Name). ClassesAnswer w name steps a b out out (ended.NoBoot c.in-Ok-NoBoot.number)) c.as_slice.ensures.value
    (no_boot w c.as_slice.result.now steps a b (names_of new.loaded.classes) out (Ok c.in-Ok-NoBoot.field-0) c.in-Ok-NoBoot.ensures.told c.in-Ok-NoBoot.ensures.names c.in-Ok-NoBoot.number (ap Ok c.in-Ok-NoBoot.field-0-is))

pub returns-in-Ok-NoMain-clause-answer : goal.returns-in-Ok-NoMain-clause-answer
returns-in-Ok-NoMain-clause-answer g c =
    let old = c.args.classes.now in
    let new = c.start_run.new.classes in
    let w = world_in (g.F.Files.store old.files) old.folders in
    let steps = c.args.request.now.steps in
    let a = progress_in g.F.Files.store old in
    let b = progress_in g.F.Files.store new in
    let out = g.O.Sink.taken c.args.out.now in
    subst (λ (name : Name). ClassesAnswer w name steps a b out out ended.NoMain) c.as_slice.ensures.value
    (no_main w c.as_slice.result.now steps a b (names_of new.loaded.classes) out (Ok c.in-Ok-NoMain.field-0) c.in-Ok-NoMain.ensures.told c.in-Ok-NoMain.ensures.names (ap Ok c.in-Ok-NoMain.field-0-is))

pub returns-in-Ok-Ready-clause-answer : goal.returns-in-Ok-Ready-clause-answer
returns-in-Ok-Ready-clause-answer g c =
    let old = c.args.classes.now in
    let new = c.start_run.new.classes in
    let w = world_in (g.F.Files.store old.files) old.folders in
    let steps = c.args.request.now.steps in
    let a = progress_in g.F.Files.store old in
    let b = progress_in g.F.Files.store new in
    let before = g.O.Sink.taken c.args.out.now in
    let after = g.O.Sink.taken c.run_main.new.out in
    subst (λ (name : Name). ClassesAnswer w name steps a b before after c.run_main.result) c.as_slice.ensures.value
    (ready w (world_in (g.F.Files.store new.files) new.folders) c.as_slice.result.now steps a b new.loaded.classes before after c.run_main.result
    c.in-Ok-Ready.id (Ok c.in-Ok-Ready.field-0) (ap Ok c.in-Ok-Ready.field-0-is) c.in-Ok-Ready.ensures.told c.in-Ok-Ready.ensures.names c.start_run.ensures.world c.run_main.ensures.answer)

pub returns-in-Err-clause-answer : goal.returns-in-Err-clause-answer
returns-in-Err-clause-answer g c =
    let old = c.args.classes.now in
    let new = c.start_run.new.classes in
    let w = world_in (g.F.Files.store old.files) old.folders in
    let steps = c.args.request.now.steps in
    let a = progress_in g.F.Files.store old in
    let b = progress_in g.F.Files.store new in
    let out = g.O.Sink.taken c.args.out.now in
    subst (λ (end : HomeEnd). ClassesAnswer w c.args.request.now.name.items steps a b out out end) (sym c.end_of_fault.ensures)
    (subst (λ (name : Name). ClassesAnswer w name steps a b out out (end_of_fault c.in-Err.fault)) c.as_slice.ensures.value
    (fault w c.as_slice.result.now steps a b (names_of new.loaded.classes) out (Err c.in-Err.fault) c.in-Err.ensures.told c.in-Err.ensures.names c.in-Err.fault c.in-Err.ensures.limit refl))
