-- A name that is loaded, and one whose class file was read.
use Rattle.std.proofs.Common.{◌∙◌, ap, if◌then◌else◌, Bool}
use Rattle.class_record.specs.declared.fault.JavaFault.TheVariants.{NoClassDefFoundError}
use Rattle.class_linker.specs.declared.entering.Entered.TheVariants.{Present, Fails}
use Rattle.class_linker.specs.Entries.{entry}
use Rattle.class_linker.proofs.EnterBefore.{was_read, place_within, held_within, keeps_loaded, loaded_told, read_keeps, read_path, read_told, read_path_told}
use Rattle.class_linker.proofs.entering.enter.Goals as goal

pub returns-in-Some-clause-told : goal.returns-in-Some-clause-told
returns-in-Some-clause-told g c =
    loaded_told c.args.library.now.readings c.args.library.now.loaded c.args.path.now c.args.from c.args.name.now (g.F.Files.store c.args.files.now) c.args.paths.now c.in-Some.id.0 c.loader.result c.present.result
    c.requires.right c.requires.kept c.requires.path c.in-Some.ensures c.loader.ensures (c.present.ensures ∙ ap (λ (b : Bool). if b then Present else Fails NoClassDefFoundError) c.sees.ensures)

pub returns-in-Some-clause-keeps : goal.returns-in-Some-clause-keeps
returns-in-Some-clause-keeps g c =
    keeps_loaded c.args.name.now c.args.library.now.loaded c.args.path.now c.in-Some.id.0 c.sees.result c.present.result c.in-Some.ensures c.present.ensures

pub enter_read-requires-clause-place : goal.enter_read-requires-clause-place
enter_read-requires-clause-place g c =
    place_within c.args.library.now.readings c.args.library.now.loaded c.args.name.now c.in-Some-find.place
    (was_read c.args.library.now.readings c.args.library.now.loaded c.args.name.now c.in-Some-find.place c.requires.kept c.in_default.ensures c.in-Some-find.ensures)

pub enter_read-requires-clause-held : goal.enter_read-requires-clause-held
enter_read-requires-clause-held g c =
    held_within c.args.library.now.readings c.args.library.now.loaded c.args.name.now c.in-Some-find.place
    (was_read c.args.library.now.readings c.args.library.now.loaded c.args.name.now c.in-Some-find.place c.requires.kept c.in_default.ensures c.in-Some-find.ensures)

pub returns-in_ok-enter_read-in-Some-find-clause-told :
    goal.returns-in_ok-enter_read-in-Some-find-clause-told
returns-in_ok-enter_read-in-Some-find-clause-told g c =
    let w = was_read c.args.library.now.readings c.args.library.now.loaded c.args.name.now c.in-Some-find.place c.requires.kept c.in_default.ensures c.in-Some-find.ensures in
    read_told c.args.library.now.readings c.args.library.now.loaded c.args.from c.args.name.now c.in-Some-find.place c.args.path.now w
    (entry c.in_ok-enter_read-in-Some-find.field-0 c.enter_read.new.path) (c.in_ok-enter_read-in-Some-find.ensures.entry w.reading w.at)
    (g.F.Files.store c.args.files.now) c.args.paths.now c.requires.right

pub returns-in_ok-enter_read-in-Some-find-clause-keeps :
    goal.returns-in_ok-enter_read-in-Some-find-clause-keeps
returns-in_ok-enter_read-in-Some-find-clause-keeps g c =
    let w = was_read c.args.library.now.readings c.args.library.now.loaded c.args.name.now c.in-Some-find.place c.requires.kept c.in_default.ensures c.in-Some-find.ensures in
    read_keeps c.args.library.now.readings c.args.library.now.loaded c.args.from c.args.name.now c.in-Some-find.place c.args.path.now w
    (entry c.in_ok-enter_read-in-Some-find.field-0 c.enter_read.new.path) (c.in_ok-enter_read-in-Some-find.ensures.entry w.reading w.at)

pub returns-in_ok-enter_read-in-Some-find-clause-path :
    goal.returns-in_ok-enter_read-in-Some-find-clause-path
returns-in_ok-enter_read-in-Some-find-clause-path g c =
    let w = was_read c.args.library.now.readings c.args.library.now.loaded c.args.name.now c.in-Some-find.place c.requires.kept c.in_default.ensures c.in-Some-find.ensures in
    read_path c.args.library.now.readings c.args.library.now.loaded c.args.from c.args.name.now c.in-Some-find.place c.args.path.now w
    (entry c.in_ok-enter_read-in-Some-find.field-0 c.enter_read.new.path) (c.in_ok-enter_read-in-Some-find.ensures.entry w.reading w.at)
    c.requires.path c.requires.asked

pub returns-in_ok-enter_read-in-Some-find-clause-path_right :
    goal.returns-in_ok-enter_read-in-Some-find-clause-path_right
returns-in_ok-enter_read-in-Some-find-clause-path_right g c =
    let w = was_read c.args.library.now.readings c.args.library.now.loaded c.args.name.now c.in-Some-find.place c.requires.kept c.in_default.ensures c.in-Some-find.ensures in
    read_path_told c.args.library.now.readings c.args.library.now.loaded c.args.from c.args.name.now c.in-Some-find.place c.args.path.now w
    (entry c.in_ok-enter_read-in-Some-find.field-0 c.enter_read.new.path) (c.in_ok-enter_read-in-Some-find.ensures.entry w.reading w.at)
    (g.F.Files.store c.args.files.now) c.args.paths.now c.requires.right c.requires.asked c.requires.path_right
