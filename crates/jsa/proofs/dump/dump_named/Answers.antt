use Rattle.std.proofs.Common.{◌≡◌, ◌∙◌, sym, subst, ℕ, List}
use Rattle.plain_classes.specs.declared.class.PlainClass.{PlainClass}
use Rattle.jsa_files.specs.Told.{contents_told}
use Rattle.command_words.specs.Requests.{dump_view}
use Rattle.jsa.specs.Dumps.{Gathered, HasClasses, DumpAnswers}
use Rattle.jsa.specs.Steps.{texts_of, StopsAt}
use Rattle.jsa.proofs.Dumping.{gathered_then, stops, not_read, no_read_fault, not_missing, found_no_missing}
use Rattle.jsa.proofs.dump.dump_named.Goals as goal

pub returns-in-Ok-clause-answer : goal.returns-in-Ok-clause-answer
returns-in-Ok-clause-answer g c = λ p is is'.
    let old = contents_told (g.F.Files.store c.args.files.now) in
    let mid = contents_told (g.F.Files.store c.gather.new.files) in
    let new = contents_told (g.F.Files.store c.dump_classes.new.files) in
    let d = dump_view c.args.request.now in
    let before = g.O.Sink.taken c.args.out.now in
    let after = g.O.Sink.taken c.dump_classes.new.out in
    let has = subst (λ (l : List PlainClass). HasClasses old c.as_str.result.now (texts_of c.args.names.now) l) (sym c.as_slice.ensures) c.in-Ok.ensures.gathers in
    let failed = g.F.Files.write_faults c.dump_classes.new.files in
    let answer = subst (λ (n : ℕ). (x : Gathered mid d) → x.classes ≡ c.as_slice.result.now → x.prepared.now ≡ c.args.now.now → (name : List ℕ) → DumpAnswers mid new (n, failed) d before after name c.dump_classes.result) c.in-Ok.ensures.writes c.dump_classes.ensures.answer in
    gathered_then old mid new (g.F.Files.write_faults c.args.files.now, failed) d before after _ p c.as_str.result.now (texts_of c.args.names.now) c.as_slice.result.now c.args.now.now c.dump_classes.result c.in-Ok.ensures.contents c.as_str.ensures.value is is' has answer

pub returns-in-Ok-clause-read_fault : goal.returns-in-Ok-clause-read_fault
returns-in-Ok-clause-read_fault g c =
    not_read (g.F.Files.read_faults c.args.files.now) (g.F.Files.read_faults c.dump_classes.new.files) c.dump_classes.result c.dump_classes.ensures.kind (c.dump_classes.ensures.reads ∙ c.in-Ok.ensures.counts)

pub returns-in-Ok-clause-listed : goal.returns-in-Ok-clause-listed
returns-in-Ok-clause-listed g c = not_missing c.dump_classes.result c.dump_classes.ensures.kind

pub returns-in-Ok-clause-read_can_fail : goal.returns-in-Ok-clause-read_can_fail
returns-in-Ok-clause-read_can_fail g c = λ e. no_read_fault c.dump_classes.result (g.F.Files.can_fail c.args.files.now) c.dump_classes.ensures.kind e

pub returns-in-Err-clause-answer : goal.returns-in-Err-clause-answer
returns-in-Err-clause-answer g c = λ p is is'.
    let old = contents_told (g.F.Files.store c.args.files.now) in
    let new = contents_told (g.F.Files.store c.gather.new.files) in
    stops old new (g.F.Files.write_faults c.args.files.now, g.F.Files.write_faults c.gather.new.files) (dump_view c.args.request.now) (g.O.Sink.taken c.args.out.now) p (texts_of c.args.names.now) c.in-Err.end.place c.in-Err.end.ended is
    (subst (λ (f : List ℕ). StopsAt old f (texts_of c.args.names.now) c.in-Err.end.ended c.in-Err.end.place) c.as_str.ensures.value c.in-Err.ensures.gathers) c.in-Err.ensures.contents

pub returns-in-Err-clause-listed : goal.returns-in-Err-clause-listed
returns-in-Err-clause-listed g c = found_no_missing (contents_told (g.F.Files.store c.args.files.now)) c.as_str.result.now (texts_of c.args.names.now) c.in-Err.end.ended c.in-Err.end.place c.in-Err.ensures.gathers
