use Rattle.pool_builder.proofs.Places.{updated}
use Rattle.pool_builder.proofs.builder.note.Goals as goal

pub returns-clause-ok : goal.returns-clause-ok
returns-clause-ok c = updated c.args.key c.args.index c.args.places.now c.insert.new.self c.in_ok-insert.ensures.updates
