use Rattle.std.proofs.Common.{◌≡◌, ap, subst, ℕ}
use Rattle.jsa_files.specs.Told.{contents_told}
use Rattle.command_words.specs.Requests.{dump_view}
use Rattle.jsa.specs.Dumps.{Prepared, names_listed, DumpAnswers}
use Rattle.jsa.specs.Steps.{texts_of, subject_at}
use Rattle.jsa.proofs.Dumping.{prepared_then}
use Rattle.jsa.proofs.dump.dump_names.Goals as goal

pub returns-in-Ok-clause-answer : goal.returns-in-Ok-clause-answer
returns-in-Ok-clause-answer g c = λ l is.
    let old = contents_told (g.F.Files.store c.args.files.now) in
    let mid = contents_told (g.F.Files.store c.folder_manifest.new.files) in
    let new = contents_told (g.F.Files.store c.dump_named.new.files) in
    let before = g.O.Sink.taken c.args.out.now in
    let after = g.O.Sink.taken c.dump_named.new.out in
    let d = dump_view c.args.request.now in
    let subject = subject_at (texts_of c.args.names.now) c.dump_named.result.place in
    let failed = g.F.Files.write_faults c.dump_named.new.files in
    let answer = subst (λ (n : ℕ). (p : Prepared mid d) → names_listed p ≡ texts_of c.args.names.now → p.now ≡ c.in-Ok.now → DumpAnswers mid new (n, failed) d before after subject c.dump_named.result.ended) c.in-Ok.ensures.writes c.dump_named.ensures.answer in
    prepared_then old mid new (g.F.Files.write_faults c.args.files.now, failed) d before after subject l c.as_str.result.now (texts_of c.args.names.now) c.in-Ok.now c.dump_named.result.ended
    (ap contents_told c.in-Ok.ensures.store) c.as_str.ensures.value is c.in-Ok.ensures.answer answer
