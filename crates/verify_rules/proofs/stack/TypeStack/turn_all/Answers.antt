use Rattle.verify_rules.proofs.Turning.{turned_seen}
use Rattle.verify_rules.proofs.stack.TypeStack.turn_all.Goals as goal

pub returns : goal.returns
returns c = turned_seen c.args.old c.args.new.now c.self.inside.items c.turn_locals.new.locals c.args.self.now c.turn_locals.result c.self.view_is c.turn_locals.ensures.turned
