use Rattle.std.proofs.Common.{◌≡◌, ◌++◌, length}
use Rattle.std.specs.List.{flat_map}
use Rattle.jsa_base.specs.Spelling.{u2}
use Rattle.class_encoder.proofs.numbers.put_each_index.Given as goal

abbrev pub invariant-loop-rest : goal.invariant-loop-rest
invariant-loop-rest l = l.out.items ++ flat_map u2 l.rest ≡ l.fn.out.items ++ flat_map u2 l.fn.indices

abbrev pub decreases-loop-rest : goal.decreases-loop-rest
decreases-loop-rest l = length l.rest
