use Rattle.std.proofs.Common.{◌≡◌, ◌++◌, drop}
use Rattle.std.specs.List.{flat_map}
use Rattle.verify_rules.specs.Frames.{slots}
use Rattle.verify_types.proofs.frames.all_slots.Given as goal

abbrev pub invariant-loop-t : goal.invariant-loop-t
invariant-loop-t l = l.all ++ flat_map slots (drop l.t-index l.types) ≡ flat_map slots l.types
