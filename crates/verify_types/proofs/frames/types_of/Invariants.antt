use Rattle.std.proofs.Common.{◌≡◌, drop}
use Rattle.verify_rules.specs.Frames.{types_of}
use Rattle.verify_types.proofs.Building.{behind}
use Rattle.verify_types.proofs.frames.types_of.Given as goal

abbrev pub invariant-loop-t : goal.invariant-loop-t
invariant-loop-t l = behind l.all (types_of l.pool l.places (drop l.t-index l.types)) ≡ types_of l.pool l.places l.types
