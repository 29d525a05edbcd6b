use Rattle.std.proofs.Common.{[]}
use Rattle.class_linker.proofs.StepStores.{same_stores, same_files, ok_paths}
use Rattle.class_linker.proofs.loading.step.Goals as goal

pub returns-in-None-clause-told : goal.returns-in-None-clause-told
returns-in-None-clause-told g c =
    same_stores _ c.args.paths.now _ _ _ (λ p s right path. (c.finish.ensures.told p s.reads right path).goes) c.requires.right c.requires.path_right

pub returns-in-None-clause-right : goal.returns-in-None-clause-right
returns-in-None-clause-right g c =
    same_files _ c.args.paths.now _ _ _ (λ p right path. (c.finish.ensures.told p [] right path).right) c.requires.right c.requires.path_right

pub returns-in-None-clause-path_right : goal.returns-in-None-clause-path_right
returns-in-None-clause-path_right g c =
    ok_paths _ c.args.paths.now _ _ c.finish.new.library.loaded c.finish.new.path c.finish.result (λ p right path. (c.finish.ensures.told p [] right path).path) c.requires.right c.requires.path_right
