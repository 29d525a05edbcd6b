use Rattle.class_record.specs.Facts.{name_at}
use Rattle.home_run.proofs.Programs.{main_answers}
use Rattle.home_run.proofs.running.run_main.Goals as goal

pub returns-clause-answer : goal.returns-clause-answer
returns-clause-answer g c =
    let classes = c.args.classes.now in
    main_answers (g.F.Files.store classes.files) classes.folders (name_at classes.loaded.classes c.args.id.0) c.tree.result.now c.args.steps (g.O.Sink.taken c.args.out.now) (g.O.Sink.taken c.run_tree.new.out) c.run_tree.result c.tree.ensures c.run_tree.ensures.answer
