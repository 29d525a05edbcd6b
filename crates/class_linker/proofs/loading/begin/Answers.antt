use Rattle.class_linker.specs.Rights.{progress_of}
use Rattle.class_linker.proofs.StepTold.{present_told, goes_begun, goes_stops}
use Rattle.class_linker.proofs.StepStores.{stores_told, files_told}
use Rattle.class_linker.proofs.loading.begin.Goals as goal

pub returns-in-Ok-Present-clause-told : goal.returns-in-Ok-Present-clause-told
returns-in-Ok-Present-clause-told g c =
    let asked = rw (← c.as_slice-name.ensures) at c.requires.next in
    let e = c.in-Ok-Present.ensures in
    stores_told _ _ c.args.paths.now _ _ _ _ e.files
    (λ p s t h path right. (present_told p c.as_slice-name.result.now c.args.next.now.loader c.args.path.now c.enter.new.path c.pass_base.new.path c.args.library.now.loaded c.enter.new.library.loaded
    (progress_of s c.args.library.now.readings c.args.library.now.loaded) (progress_of t c.enter.new.library.readings c.enter.new.library.loaded) c.pass_base.result c.requires.some asked
    (rw c.in-Ok-Present.field-0-is at e.keeps).0 e.loaded path h (λ path seen. c.pass_base.ensures.told p t.reads right path seen)).0)
    (rw c.in-Ok-Present.field-0-is at e.told) c.requires.path_right e.right

pub returns-in-Ok-Present-clause-path_right : goal.returns-in-Ok-Present-clause-path_right
returns-in-Ok-Present-clause-path_right g c =
    let asked = rw (← c.as_slice-name.ensures) at c.requires.next in
    let e = c.in-Ok-Present.ensures in
    files_told _ _ c.args.paths.now _ _ _ _ e.files
    (λ p s t h path right. (present_told p c.as_slice-name.result.now c.args.next.now.loader c.args.path.now c.enter.new.path c.pass_base.new.path c.args.library.now.loaded c.enter.new.library.loaded
    (progress_of s c.args.library.now.readings c.args.library.now.loaded) (progress_of t c.enter.new.library.readings c.enter.new.library.loaded) c.pass_base.result c.requires.some asked
    (rw c.in-Ok-Present.field-0-is at e.keeps).0 e.loaded path h (λ path seen. c.pass_base.ensures.told p t.reads right path seen)).1)
    (rw c.in-Ok-Present.field-0-is at e.told) c.requires.path_right e.right

pub returns-in-Ok-Begun-clause-told : goal.returns-in-Ok-Begun-clause-told
returns-in-Ok-Begun-clause-told g c =
    let asked = rw (← c.as_slice-name.ensures) at c.requires.next in
    let e = c.in-Ok-Begun.ensures in
    let keeps = rw c.in-Ok-Begun.field-0-is at e.keeps in
    stores_told _ _ c.args.paths.now _ _ _ _ e.files
    (λ p s t h path right. goes_begun p c.as_slice-name.result.now c.args.next.now.loader c.args.path.now c.enter.new.path
    (progress_of s c.args.library.now.readings c.args.library.now.loaded) (progress_of t c.enter.new.library.readings c.enter.new.library.loaded) keeps.0 keeps.1 c.requires.some asked h)
    (rw c.in-Ok-Begun.field-0-is at e.told) c.requires.path_right e.right

pub returns-in-Err-clause-told : goal.returns-in-Err-clause-told
returns-in-Err-clause-told g c =
    let asked = rw (← c.as_slice-name.ensures) at c.requires.next in
    let e = c.in-Err.ensures in
    stores_told _ _ c.args.paths.now _ _ _ _ e.files
    (λ p s t h path right. goes_stops p c.as_slice-name.result.now c.args.next.now.loader c.args.path.now c.enter.new.path
    (progress_of s c.args.library.now.readings c.args.library.now.loaded) (progress_of t c.enter.new.library.readings c.enter.new.library.loaded) c.in-Err.fault c.requires.some asked h)
    e.told c.requires.path_right e.right
