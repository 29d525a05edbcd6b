use Rattle.std.proofs.Common.{sym, subst}
use Rattle.class_linker.specs.Rights.{IsPathOf, AreSeen, progress_at}
use Rattle.class_linker.proofs.StepTold.{goes_on, below_path, below_seen}
use Rattle.class_linker.proofs.StepWork.{finished_less, awaits_advanced}
use Rattle.class_linker.proofs.loading.finish.Goals as goal

pub returns-in-Ok-clause-told : goal.returns-in-Ok-clause-told
returns-in-Ok-clause-told c p reads right path_right =
    let t = c.args.library.now.loaded in
    let u = c.complete.new.library.loaded in
    let mid = c.complete.new.path in
    let done = c.in-Ok.ensures.told p reads right path_right in
    let path : IsPathOf p u mid = subst (IsPathOf p u) (sym c.in-Ok.ensures.pops) (below_path p t u c.complete.ensures.grows c.args.path.now path_right) in
    let seen : AreSeen p mid = subst (AreSeen p) (sym c.in-Ok.ensures.pops) (below_seen p t c.args.path.now path_right) in
    let passed = c.pass_base.ensures.told p reads done.1 path seen in
    record {
      goes = goes_on p c.args.path.now mid c.pass_base.new.path (progress_at reads c.args.library.now.readings t) (progress_at reads c.complete.new.library.readings u) c.pass_base.result done.0 passed.0;
      right = done.1;
      path = passed.1;
    }

pub returns-in-Ok-clause-falls : goal.returns-in-Ok-clause-falls
returns-in-Ok-clause-falls c h =
    finished_less c.args.library.now.loaded c.complete.new.library.loaded c.args.path.now c.complete.new.path c.pass_base.new.path c.requires.none c.in-Ok.ensures.pops (c.pass_base.ensures.advances h) c.in-Ok.ensures.more

pub returns-in-Ok-clause-awaits : goal.returns-in-Ok-clause-awaits
returns-in-Ok-clause-awaits c h name awaited =
    awaits_advanced c.complete.new.library.loaded c.complete.new.path c.pass_base.new.path (c.pass_base.ensures.advances h) name (c.in-Ok.ensures.awaits name awaited)

pub returns-in-Err-clause-told : goal.returns-in-Err-clause-told
returns-in-Err-clause-told c p reads right path_right =
    let done = c.in-Err.ensures.told p reads right path_right in
    record { goes = done.0; right = done.1; path = tt }
