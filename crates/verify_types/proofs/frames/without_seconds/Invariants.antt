use Rattle.std.proofs.Common.{◌≡◌, ◌++◌, drop, false}
use Rattle.verify_rules.specs.Frames.{without_seconds}
use Rattle.verify_types.proofs.frames.without_seconds.Given as goal

abbrev pub invariant-loop-t : goal.invariant-loop-t
invariant-loop-t l = l.kept ++ without_seconds l.is_second (drop l.t-index l.slots) ≡ without_seconds false l.slots
