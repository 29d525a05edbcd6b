use Rattle.std.proofs.Common.{◌∙◌, Some}
use Rattle.class_record.specs.Worlds.{world_of_files}
use Rattle.class_linker.specs.Rights.{progress_of}
use Rattle.class_linker.specs.Steps.{left_of}
use Rattle.class_linker.proofs.StepOutcomes.{leads_leads, leads_comes, leads_stops}
use Rattle.class_linker.proofs.StepStores.{stores_both, keeps_both}
use Rattle.class_linker.proofs.StepGrown.{grows_both}
use Rattle.class_linker.proofs.loading.run.Goals as goal

pub loop-alloc-preserved : goal.loop-alloc-preserved
loop-alloc-preserved g c =
    let e = c.in-Ok-None.ensures in
    let before = c.loop-alloc.invariant in
    record {
      kept = e.kept;
      path = e.path;
      right = e.right;
      path_right = e.path_right;
      told = stores_both _ _ _ c.args.paths.now _ _ _ before.files e.files
          (λ p s t u h k. leads_leads (world_of_files p) (left_of p c.args.path.now) (left_of p c.loop-alloc.path) (left_of p c.step.new.path)
          (progress_of s c.args.library.now.readings c.args.library.now.loaded) (progress_of t c.loop-alloc.library.readings c.loop-alloc.library.loaded) (progress_of u c.step.new.library.readings c.step.new.library.loaded) h k)
          before.told (rw c.in-Ok-None.field-0-is at e.told);
      awaits = λ name awaited. e.awaits c.in-Ok-None.field-0-is name (before.awaits name awaited);
      grows = grows_both _ _ _ before.grows e.grows;
      faults = e.cause ∙ before.faults;
      stays = λ can. before.stays (e.stays can);
      writes = e.writes ∙ before.writes;
      files = keeps_both _ _ _ before.files e.files;
    }

pub returns-in-Ok-Some-clause-told : goal.returns-in-Ok-Some-clause-told
returns-in-Ok-Some-clause-told g c =
    let e = c.in-Ok-Some.ensures in
    let before = c.loop-alloc.invariant in
    stores_both _ _ _ c.args.paths.now _ _ _ before.files e.files
    (λ p s t u h k. leads_comes (world_of_files p) (left_of p c.args.path.now) (left_of p c.loop-alloc.path) (Some c.in-Ok-Some.fault)
    (progress_of s c.args.library.now.readings c.args.library.now.loaded) (progress_of t c.loop-alloc.library.readings c.loop-alloc.library.loaded) (progress_of u c.step.new.library.readings c.step.new.library.loaded) h k)
    before.told (rw c.in-Ok-Some.field-0-is at e.told)

pub returns-in-Err-clause-told : goal.returns-in-Err-clause-told
returns-in-Err-clause-told g c =
    let e = c.in-Err.ensures in
    let before = c.loop-alloc.invariant in
    stores_both _ _ _ c.args.paths.now _ _ _ before.files e.files
    (λ p s t u h k. leads_stops (world_of_files p) (left_of p c.args.path.now) (left_of p c.loop-alloc.path) c.in-Err.fault
    (progress_of s c.args.library.now.readings c.args.library.now.loaded) (progress_of t c.loop-alloc.library.readings c.loop-alloc.library.loaded) h k)
    before.told e.told
