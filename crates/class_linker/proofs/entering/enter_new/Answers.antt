-- What was read just now is held at its place.
use Rattle.class_linker.proofs.EnterPaths.{entry_added}
use Rattle.class_linker.proofs.entering.enter_new.Goals as goal

pub returns-clause-entry : goal.returns-clause-entry
returns-clause-entry c =
    entry_added c.args.library.now.readings c.keep.new.library.readings c.args.from c.args.name.now c.args.found.loader c.args.found.folder c.args.found.bytes.items c.args.path.now
    c.enter_read.new.path c.in_ok-place.place c.in_ok-place.ensures.ok c.enter_read.result c.enter_read.ensures.entry
