use Rattle.std.proofs.Common.{Some, inl, inr, refl}
use Rattle.command_words.specs.Grammar.{Run}
use Rattle.command_words.specs.Requests.{run_view}
use Rattle.jsa.specs.Command.{RequestAnswers, CountsFor}
use Rattle.jsa.proofs.Tells.{told, could_front}
use Rattle.jsa.proofs.Archives.{run_memory}
use Rattle.jsa.proofs.command.run_request.Goals as goal

pub returns-clause-answer : goal.returns-clause-answer
returns-clause-answer g c =
    let r = run_view c.args.request.now in
    let old = g.F.Files.store c.args.files.now in
    let new = g.F.Files.store c.run_archived-ended.new.files in
    let before = g.O.Sink.taken c.args.out.now in
    let after = g.O.Sink.taken c.run_archived-ended.new.out in
    let answer = c.run_archived-ended.ensures.answer in
    told (RequestAnswers (Some (Run r)) old new (g.F.Files.write_faults c.args.files.now, g.F.Files.write_faults c.run_archived-ended.new.files) before after) c.run_subject-subject.result.now r.steps (g.E.Sink.taken c.args.err.now) (g.E.Sink.taken c.tell.new.err) (g.E.Sink.faults c.args.err.now) (g.E.Sink.faults c.tell.new.err) (g.E.Sink.can_fail c.args.err.now)
    c.run_archived-ended.result c.tell.result (answer, inr c.run_subject-subject.ensures) (run_memory old new r before after c.run_archived-ended.result answer, inl refl) c.tell.ensures.same c.tell.ensures.line

pub returns-clause-memory : goal.returns-clause-memory
returns-clause-memory g c = λ memory.
    let r = run_view c.args.request.now in
    let old = g.F.Files.store c.args.files.now in
    let new = g.F.Files.store c.run_archived-ended.new.files in
    let before = g.O.Sink.taken c.args.out.now in
    let after = g.O.Sink.taken c.run_archived-ended.new.out in
    could_front (RequestAnswers (Some (Run r)) old new (g.F.Files.write_faults c.args.files.now, g.F.Files.write_faults c.run_archived-ended.new.files) before after)
    (CountsFor (Some (Run r)) (g.F.Files.write_faults c.args.files.now) (g.F.Files.write_faults c.run_archived-ended.new.files) (g.O.Sink.faults c.args.out.now) (g.O.Sink.faults c.run_archived-ended.new.out)) c.run_subject-subject.result.now r.steps
    (g.E.Sink.taken c.args.err.now) (g.E.Sink.taken c.tell.new.err) c.run_archived-ended.result (g.F.Files.read_faults c.args.files.now) (g.F.Files.read_faults c.run_archived-ended.new.files)
    (c.run_archived-ended.ensures.answer, inr c.run_subject-subject.ensures)
    c.run_archived-ended.ensures.read_fault (c.run_archived-ended.ensures.writes, c.run_archived-ended.ensures.write_fault) (c.tell.ensures.memory memory)
