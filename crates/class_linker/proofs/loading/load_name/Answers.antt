use Rattle.class_linker.specs.Rights.{progress_of}
use Rattle.class_linker.proofs.StepStores.{stores_both}
use Rattle.class_linker.proofs.StepGrown.{grows_same}
use Rattle.class_linker.proofs.StepEnds.{begun_ends}
use Rattle.class_linker.proofs.loading.load_name.Goals as goal

pub returns-in-Ok-Present-clause-grows : goal.returns-in-Ok-Present-clause-grows
returns-in-Ok-Present-clause-grows g c = grows_same _ _ c.enter.ensures.loaded

pub returns-in-Ok-Begun-clause-told : goal.returns-in-Ok-Begun-clause-told
returns-in-Ok-Begun-clause-told g c =
    let e = c.in-Ok-Begun.ensures in
    let keeps = rw c.in-Ok-Begun.field-0-is at e.keeps in
    stores_both _ _ _ c.args.paths.now _ _ _ e.files c.run.ensures.files
    (λ p s t u h k. begun_ends p c.args.name.now c.args.from c.new-path.result c.enter.new.path keeps.0
    (progress_of s c.args.library.now.readings c.args.library.now.loaded) (progress_of t c.enter.new.library.readings c.enter.new.library.loaded) (progress_of u c.run.new.library.readings c.run.new.library.loaded)
    c.run.result c.new-path.ensures keeps.1 h k)
    (rw c.in-Ok-Begun.field-0-is at e.told) c.run.ensures.told

pub returns-in-Ok-Fails-clause-grows : goal.returns-in-Ok-Fails-clause-grows
returns-in-Ok-Fails-clause-grows g c = grows_same _ _ c.enter.ensures.loaded

pub returns-clause-grows : goal.returns-clause-grows
returns-clause-grows g c = grows_same _ _ c.enter.ensures.loaded
