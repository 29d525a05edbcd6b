use Rattle.std.proofs.Common.{◌≡◌, ◌+◌, length}
use Rattle.verify_rules.specs.Arrays.{dimensions}
use Rattle.type_verifier.proofs.arrays.dimensions.Given as goal

abbrev pub invariant-loop-rest : goal.invariant-loop-rest
invariant-loop-rest l = (l.count + length l.rest ≡ length l.fn.name) × (l.count + dimensions l.rest ≡ dimensions l.fn.name)

abbrev pub decreases-loop-rest : goal.decreases-loop-rest
decreases-loop-rest l = length l.rest
