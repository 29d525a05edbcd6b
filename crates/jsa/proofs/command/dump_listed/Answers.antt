use Rattle.std.proofs.Common.{sym, subst, ℕ, List, Some}
use Rattle.jsa_files.specs.Told.{contents_told}
use Rattle.command_words.specs.Grammar.{Dump}
use Rattle.command_words.specs.Requests.{dump_view}
use Rattle.jsa.specs.Dumps.{DumpAnswers}
use Rattle.jsa.specs.Command.{RequestAnswers, CountsFor}
use Rattle.jsa.proofs.Tells.{told, could_front}
use Rattle.jsa.proofs.Dumping.{dump_memory, leaves}
use Rattle.jsa.proofs.command.dump_listed.Goals as goal

pub returns-clause-answer : goal.returns-clause-answer
returns-clause-answer g c = λ l is.
    let d = dump_view c.args.request.now in
    let old = g.F.Files.store c.args.files.now in
    let new = g.F.Files.store c.dump_names-end.new.files in
    let before = g.O.Sink.taken c.args.out.now in
    let after = g.O.Sink.taken c.dump_names-end.new.out in
    let faults : ℕ × ℕ = (g.F.Files.write_faults c.args.files.now, g.F.Files.write_faults c.dump_names-end.new.files) in
    let subject = c.subject_at.result.now in
    let ended = c.dump_names-end.result.ended in
    let answer = subst (λ (s : List ℕ). DumpAnswers (contents_told old) (contents_told new) faults d before after s ended) (sym c.subject_at.ensures) (c.dump_names-end.ensures.answer l is) in
    told (RequestAnswers (Some (Dump d)) old new faults before after) subject 0 (g.E.Sink.taken c.args.err.now) (g.E.Sink.taken c.tell.new.err) (g.E.Sink.faults c.args.err.now) (g.E.Sink.faults c.tell.new.err) (g.E.Sink.can_fail c.args.err.now)
    ended c.tell.result (answer, λ e. absurd (c.dump_names-end.ensures.listed e)) (dump_memory (contents_told old) (contents_told new) faults d before after subject ended answer, λ e. absurd cc) c.tell.ensures.same c.tell.ensures.line

pub returns-clause-leaves : goal.returns-clause-leaves
returns-clause-leaves g c = λ l is.
    let old = contents_told (g.F.Files.store c.args.files.now) in
    let new = contents_told (g.F.Files.store c.dump_names-end.new.files) in
    leaves old new (g.F.Files.write_faults c.args.files.now, g.F.Files.write_faults c.dump_names-end.new.files) (dump_view c.args.request.now) (g.O.Sink.taken c.args.out.now) (g.O.Sink.taken c.dump_names-end.new.out) _ c.dump_names-end.result.ended (c.dump_names-end.ensures.answer l is)

pub returns-clause-memory : goal.returns-clause-memory
returns-clause-memory g c = λ l is memory.
    let d = dump_view c.args.request.now in
    let old = g.F.Files.store c.args.files.now in
    let new = g.F.Files.store c.dump_names-end.new.files in
    let before = g.O.Sink.taken c.args.out.now in
    let after = g.O.Sink.taken c.dump_names-end.new.out in
    let faults : ℕ × ℕ = (g.F.Files.write_faults c.args.files.now, g.F.Files.write_faults c.dump_names-end.new.files) in
    let subject = c.subject_at.result.now in
    let ended = c.dump_names-end.result.ended in
    let answer = subst (λ (s : List ℕ). DumpAnswers (contents_told old) (contents_told new) faults d before after s ended) (sym c.subject_at.ensures) (c.dump_names-end.ensures.answer l is) in
    could_front (RequestAnswers (Some (Dump d)) old new faults before after) (CountsFor (Some (Dump d)) (g.F.Files.write_faults c.args.files.now) (g.F.Files.write_faults c.dump_names-end.new.files) (g.O.Sink.faults c.args.out.now) (g.O.Sink.faults c.dump_names-end.new.out)) subject 0
    (g.E.Sink.taken c.args.err.now) (g.E.Sink.taken c.tell.new.err) ended (g.F.Files.read_faults c.args.files.now) (g.F.Files.read_faults c.dump_names-end.new.files) (answer, λ e. absurd (c.dump_names-end.ensures.listed e))
    c.dump_names-end.ensures.read_fault c.dump_names-end.ensures.write_fault (c.tell.ensures.memory memory)
