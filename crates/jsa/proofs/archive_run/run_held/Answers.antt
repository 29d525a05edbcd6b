use Rattle.std.proofs.Common.{◌≡◌, ◌∙◌, sym, ap, refl, inl, Some, None}
use Rattle.jsa_files.specs.Told.{contents_told, reads_told}
use Rattle.command_words.specs.Requests.{run_view}
use Rattle.plain_classes.specs.Records.{class_in}
use Rattle.jsa.proofs.Archives.{from_archive, from_file}
use Rattle.jsa.proofs.archive_run.run_held.Goals as goal

pub returns-in-Some-clause-answer : goal.returns-in-Some-clause-answer
returns-in-Some-clause-answer g c = λ bytes now mapped.
    let store = g.F.Files.store c.args.files.now in
    let held : Some c.in-Some.bytes.now ≡ class_in c.args.classes.now c.as_bytes.result.now = c.in-Some.ensures in
    from_archive (contents_told store) (reads_told store) (reads_told store) (run_view c.args.request.now) bytes now c.args.classes.now c.in-Some.bytes.now (g.O.Sink.taken c.args.out.now) (g.O.Sink.taken c.run_bytes.new.out) c.run_bytes.result
    mapped (ap (class_in c.args.classes.now) (sym c.as_bytes.ensures.value) ∙ sym held) c.run_bytes.ensures.answer refl

pub returns-in-None-clause-answer : goal.returns-in-None-clause-answer
returns-in-None-clause-answer g c = λ bytes now mapped.
    let store = g.F.Files.store c.args.files.now in
    let none : None ≡ class_in c.args.classes.now c.as_bytes.result.now = c.in-None.ensures in
    from_file (contents_told store) (reads_told store) (reads_told (g.F.Files.store c.run_path.new.files)) (run_view c.args.request.now) bytes now (g.O.Sink.taken c.args.out.now) (g.O.Sink.taken c.run_path.new.out) c.run_path.result
    (inl (record { classes = c.args.classes.now; mapped = mapped; other = ap (class_in c.args.classes.now) (sym c.as_bytes.ensures.value) ∙ sym none })) c.run_path.ensures.answer c.run_path.ensures.reads
