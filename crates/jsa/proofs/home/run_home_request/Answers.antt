use Rattle.std.proofs.Common.{ℕ, Some}
use Rattle.command_words.specs.Requests.{home_view}
use Rattle.command_words.specs.Grammar.{HomeRun}
use Rattle.jsa.specs.Command.{RequestAnswers}
use Rattle.jsa.proofs.Tells.{told}
use Rattle.jsa.proofs.HomeRuns.{answers, memory_answers, run_leaves}
use Rattle.jsa.proofs.home.run_home_request.Goals as goal

pub returns-clause-answer : goal.returns-clause-answer
returns-clause-answer g c =
    let r = home_view c.args.request.now in
    let old = g.F.Files.store c.args.files in
    let new = g.F.Files.store c.run_home-end.result.1 in
    let before = g.O.Sink.taken c.args.out.now in
    let after = g.O.Sink.taken c.run_home-end.new.out in
    let counts : ℕ × ℕ = (g.F.Files.write_faults c.args.files, g.F.Files.write_faults c.run_home-end.result.1) in
    let end = c.run_home-end.result.0 in
    let ended = c.end_of_run.result in
    let subject = c.home_subject-subject.result.now in
    let run = c.run_home-end.ensures.answer in
    told (RequestAnswers (Some (HomeRun r)) old new counts before after) subject r.steps (g.E.Sink.taken c.args.err.now) (g.E.Sink.taken c.tell-ended.new.err) (g.E.Sink.faults c.args.err.now) (g.E.Sink.faults c.tell-ended.new.err) (g.E.Sink.can_fail c.args.err.now)
    ended c.tell-ended.result
    (answers end ended c.end_of_run.ensures old new counts r before after subject c.home_subject-subject.ensures run)
    (memory_answers end old new counts r before after subject run)
    c.tell-ended.ensures.same c.tell-ended.ensures.line

pub returns-clause-leaves : goal.returns-clause-leaves
returns-clause-leaves g c =
    run_leaves (g.F.Files.store c.args.files) (g.F.Files.store c.run_home-end.result.1) (g.F.Files.write_faults c.args.files, g.F.Files.write_faults c.run_home-end.result.1) (home_view c.args.request.now) (g.O.Sink.taken c.args.out.now) (g.O.Sink.taken c.run_home-end.new.out)
    c.run_home-end.result.0 c.run_home-end.ensures.answer
