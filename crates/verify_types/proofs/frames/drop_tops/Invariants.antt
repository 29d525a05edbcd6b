use Rattle.std.proofs.Common.{◌≡◌, length}
use Rattle.verify_rules.specs.Frames.{without_tail}
use Rattle.verify_types.proofs.frames.drop_tops.Given as goal

abbrev pub invariant-loop : goal.invariant-loop
invariant-loop l = without_tail l.types ≡ without_tail l.fn.types

abbrev pub decreases-loop : goal.decreases-loop
decreases-loop l = length l.types
