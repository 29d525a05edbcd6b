use Rattle.type_verifier.proofs.Deepest.{popped_more}
use Rattle.type_verifier.proofs.operands.drop_items.Goals as goal

pub loop-preserved : goal.loop-preserved
loop-preserved c = popped_more c.pop.result c.loop.counter c.args.stack.now c.loop.stack c.pop.new.self c.loop.invariant c.pop.ensures
