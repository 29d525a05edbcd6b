use Rattle.verify_types.proofs.Building.{popped_on}
use Rattle.verify_types.proofs.frames.pop_all.Goals as goal

pub loop-preserved : goal.loop-preserved
loop-preserved c = popped_on c.args.types.now c.loop.types c.pop-last.new.self c.pop-last.result c.loop.counter c.pop-last.ensures c.loop.invariant
