use Rattle.first_form.proofs.ClassRuns.{tree_ran}
use Rattle.first_form.proofs.class_run.run_tree.Goals as goal

pub returns-in-Ok-clause-answer : goal.returns-in-Ok-clause-answer
returns-in-Ok-clause-answer g c =
    tree_ran c.args.tree.now c.in-Ok.program c.args.turns (g.O.Sink.taken c.args.out.now) (g.O.Sink.taken c.run_program.new.out) c.run_program.result c.in-Ok.ensures.exact c.run_program.ensures.answer
