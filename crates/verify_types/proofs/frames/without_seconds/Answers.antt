use Rattle.verify_types.proofs.Building.{seconds_done}
use Rattle.verify_types.proofs.frames.without_seconds.Goals as goal

pub returns : goal.returns
returns c = seconds_done c.loop-t.kept c.loop-t.is_second c.args.slots.now c.loop-t.t-index _ c.loop-t-test.false c.loop-t.invariant
