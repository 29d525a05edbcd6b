-- What is told of the search, and of the class file that it finds.
use Rattle.std.proofs.Common.{Some, None}
use Rattle.class_linker.specs.Adds.{read_as}
use Rattle.class_linker.specs.Entries.{entry}
use Rattle.class_linker.proofs.EnterPaths.{keeps_read, kept_may, path_new}
use Rattle.class_linker.proofs.EnterStores.{searched, none_told, err_told, right_found, found_told, found_path}
use Rattle.class_linker.proofs.entering.enter_found.Goals as goal

pub returns-in_err-enter_new-in-Ok-Some-clause-right :
    goal.returns-in_err-enter_new-in-Ok-Some-clause-right
returns-in_err-enter_new-in-Ok-Some-clause-right g c =
    let e = c.in-Ok-Some.ensures in
    let s =
    searched (g.F.Files.store c.args.files.now) (g.F.Files.store c.find.new.files) c.args.paths.now c.args.from c.args.name.now c.in-Ok-Some.field-0 (Some c.in-Ok-Some.found) c.in-Ok-Some.field-0-is e.answer e.size e.store in
    right_found c.args.from c.args.name.now c.in-Ok-Some.found c.args.library.now.readings c.enter_new.new.library.readings c.args.library.now.loaded c.enter_new.new.library.loaded c.enter_new.ensures.loaded
    (g.F.Files.store c.args.files.now) (g.F.Files.store c.find.new.files) c.args.paths.now s c.enter_new.ensures.may_add c.requires.right

pub returns-in-Ok-None-clause-told : goal.returns-in-Ok-None-clause-told
returns-in-Ok-None-clause-told g c =
    let e = c.in-Ok-None.ensures in
    let s =
    searched (g.F.Files.store c.args.files.now) (g.F.Files.store c.find.new.files) c.args.paths.now c.args.from c.args.name.now c.in-Ok-None.field-0 None c.in-Ok-None.field-0-is e.answer e.size e.store in
    none_told (g.F.Files.store c.args.files.now) (g.F.Files.store c.find.new.files) c.args.paths.now c.args.from c.args.name.now c.args.library.now.readings c.args.library.now.loaded c.args.path.now s

pub returns-in_ok-enter_new-in-Ok-Some-clause-told :
    goal.returns-in_ok-enter_new-in-Ok-Some-clause-told
returns-in_ok-enter_new-in-Ok-Some-clause-told g c =
    let e = c.in-Ok-Some.ensures in
    let s =
    searched (g.F.Files.store c.args.files.now) (g.F.Files.store c.find.new.files) c.args.paths.now c.args.from c.args.name.now c.in-Ok-Some.field-0 (Some c.in-Ok-Some.found) c.in-Ok-Some.field-0-is e.answer e.size e.store in
    found_told c.args.from c.args.name.now c.in-Ok-Some.found c.args.library.now.readings c.enter_new.new.library.readings c.args.library.now.loaded c.enter_new.new.library.loaded c.enter_new.ensures.loaded
    c.args.path.now (entry c.in_ok-enter_new-in-Ok-Some.field-0 c.enter_new.new.path) c.in_ok-enter_new-in-Ok-Some.ensures.entry
    (g.F.Files.store c.args.files.now) (g.F.Files.store c.find.new.files) c.args.paths.now s c.requires.path c.requires.unread

pub returns-in_ok-enter_new-in-Ok-Some-clause-keeps :
    goal.returns-in_ok-enter_new-in-Ok-Some-clause-keeps
returns-in_ok-enter_new-in-Ok-Some-clause-keeps g c =
    let a = c.in_ok-enter_new-in-Ok-Some.ensures.entry in
    keeps_read c.args.library.now.readings c.args.library.now.loaded c.args.from c.args.name.now a.place
    (read_as c.args.name.now c.in-Ok-Some.found.loader c.in-Ok-Some.found.folder a.adds.held) c.args.path.now a.adds.short
    (entry c.in_ok-enter_new-in-Ok-Some.field-0 c.enter_new.new.path) a.entry_is

pub returns-in_ok-enter_new-in-Ok-Some-clause-path :
    goal.returns-in_ok-enter_new-in-Ok-Some-clause-path
returns-in_ok-enter_new-in-Ok-Some-clause-path g c =
    let f = c.in-Ok-Some.found in
    path_new c.args.library.now.readings c.enter_new.new.library.readings c.args.library.now.loaded c.enter_new.new.library.loaded c.enter_new.ensures.loaded c.args.from c.args.name.now
    f.loader f.folder f.bytes.items c.args.path.now (entry c.in_ok-enter_new-in-Ok-Some.field-0 c.enter_new.new.path) c.in_ok-enter_new-in-Ok-Some.ensures.entry
    c.requires.path c.requires.asked c.requires.is_new

pub returns-in_ok-enter_new-in-Ok-Some-clause-right :
    goal.returns-in_ok-enter_new-in-Ok-Some-clause-right
returns-in_ok-enter_new-in-Ok-Some-clause-right g c =
    let e = c.in-Ok-Some.ensures in
    let s =
    searched (g.F.Files.store c.args.files.now) (g.F.Files.store c.find.new.files) c.args.paths.now c.args.from c.args.name.now c.in-Ok-Some.field-0 (Some c.in-Ok-Some.found) c.in-Ok-Some.field-0-is e.answer e.size e.store in
    right_found c.args.from c.args.name.now c.in-Ok-Some.found c.args.library.now.readings c.enter_new.new.library.readings c.args.library.now.loaded c.enter_new.new.library.loaded c.enter_new.ensures.loaded
    (g.F.Files.store c.args.files.now) (g.F.Files.store c.find.new.files) c.args.paths.now s c.enter_new.ensures.may_add c.requires.right

pub returns-in_ok-enter_new-in-Ok-Some-clause-path_right :
    goal.returns-in_ok-enter_new-in-Ok-Some-clause-path_right
returns-in_ok-enter_new-in-Ok-Some-clause-path_right g c =
    let e = c.in-Ok-Some.ensures in
    let s =
    searched (g.F.Files.store c.args.files.now) (g.F.Files.store c.find.new.files) c.args.paths.now c.args.from c.args.name.now c.in-Ok-Some.field-0 (Some c.in-Ok-Some.found) c.in-Ok-Some.field-0-is e.answer e.size e.store in
    found_path c.args.from c.args.name.now c.in-Ok-Some.found c.args.library.now.readings c.enter_new.new.library.readings c.args.library.now.loaded c.enter_new.new.library.loaded c.enter_new.ensures.loaded
    c.args.path.now (entry c.in_ok-enter_new-in-Ok-Some.field-0 c.enter_new.new.path) c.in_ok-enter_new-in-Ok-Some.ensures.entry
    (g.F.Files.store c.args.files.now) (g.F.Files.store c.find.new.files) c.args.paths.now s c.requires.asked c.requires.path_right

pub returns-in-Err-clause-told : goal.returns-in-Err-clause-told
returns-in-Err-clause-told g c =
    let e = c.in-Err.ensures in
    err_told (g.F.Files.store c.args.files.now) (g.F.Files.store c.find.new.files) c.args.paths.now c.args.from c.args.name.now c.args.library.now.readings c.args.library.now.loaded c.args.path.now
    c.in-Err.fault c.classes_fault.result (record { told = e.answer; small = e.size; store = e.store }) c.classes_fault.ensures c.requires.path c.requires.unread

pub returns-in_err-enter_new-in-Ok-Some-clause-kept :
    goal.returns-in_err-enter_new-in-Ok-Some-clause-kept
returns-in_err-enter_new-in-Ok-Some-clause-kept g c =
    let f = c.in-Ok-Some.found in
    kept_may c.args.library.now.readings c.enter_new.new.library.readings c.args.library.now.loaded c.enter_new.new.library.loaded c.args.name.now f.loader f.folder f.bytes.items
    c.enter_new.ensures.loaded c.enter_new.ensures.may_add c.requires.kept

pub returns-in_ok-enter_new-in-Ok-Some-clause-kept :
    goal.returns-in_ok-enter_new-in-Ok-Some-clause-kept
returns-in_ok-enter_new-in-Ok-Some-clause-kept g c =
    let f = c.in-Ok-Some.found in
    kept_may c.args.library.now.readings c.enter_new.new.library.readings c.args.library.now.loaded c.enter_new.new.library.loaded c.args.name.now f.loader f.folder f.bytes.items
    c.enter_new.ensures.loaded c.enter_new.ensures.may_add c.requires.kept
