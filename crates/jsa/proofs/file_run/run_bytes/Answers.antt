use Rattle.first_form.specs.declared.class_run.RunEnd.TheVariants as run_ends
use Rattle.jsa.proofs.Ends.{file_of_run}
use Rattle.jsa.proofs.file_run.run_bytes.Goals as goal

pub returns-in-Returned-clause-answer : goal.returns-in-Returned-clause-answer
returns-in-Returned-clause-answer g c = file_of_run c.args.bytes.now c.args.steps (g.O.Sink.taken c.args.out.now) (g.O.Sink.taken c.run_bytes.new.out) run_ends.Returned c.requires c.in-Returned.ensures.answer

pub returns-in-Stopped-clause-answer : goal.returns-in-Stopped-clause-answer
returns-in-Stopped-clause-answer g c = file_of_run c.args.bytes.now c.args.steps (g.O.Sink.taken c.args.out.now) (g.O.Sink.taken c.run_bytes.new.out) run_ends.Stopped c.requires c.in-Stopped.ensures.answer

pub returns-in-Unsupported-clause-answer : goal.returns-in-Unsupported-clause-answer
returns-in-Unsupported-clause-answer g c = file_of_run c.args.bytes.now c.args.steps (g.O.Sink.taken c.args.out.now) (g.O.Sink.taken c.run_bytes.new.out) run_ends.Unsupported c.requires c.in-Unsupported.ensures.answer

pub returns-in-Write-clause-answer : goal.returns-in-Write-clause-answer
returns-in-Write-clause-answer g c = file_of_run c.args.bytes.now c.args.steps (g.O.Sink.taken c.args.out.now) (g.O.Sink.taken c.run_bytes.new.out) run_ends.Write c.requires c.in-Write.ensures.answer

pub returns-in-Memory-clause-answer : goal.returns-in-Memory-clause-answer
returns-in-Memory-clause-answer g c = file_of_run c.args.bytes.now c.args.steps (g.O.Sink.taken c.args.out.now) (g.O.Sink.taken c.run_bytes.new.out) run_ends.Memory c.requires c.in-Memory.ensures.answer
