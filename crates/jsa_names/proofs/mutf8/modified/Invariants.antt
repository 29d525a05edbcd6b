use Rattle.std.proofs.Common.{◌≡◌}
use Rattle.std.specs.List.{flat_map}
use Rattle.jsa_names.specs.Mutf8.{char_bytes}
use Rattle.jsa_names.proofs.mutf8.modified.Given as goal

abbrev pub invariant-loop-c : goal.invariant-loop-c
invariant-loop-c l = l.out ≡ flat_map char_bytes l.yielded
