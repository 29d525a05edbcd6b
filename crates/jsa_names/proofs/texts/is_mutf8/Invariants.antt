use Rattle.std.proofs.Common.{◌≡◌, length}
use Rattle.jsa_names.specs.Texts.{is_mutf8}
use Rattle.jsa_names.proofs.texts.is_mutf8.Given as goal

abbrev pub invariant-loop-after : goal.invariant-loop-after
invariant-loop-after l = is_mutf8 l.rest ≡ is_mutf8 l.bytes

abbrev pub decreases-loop-after : goal.decreases-loop-after
decreases-loop-after l = length l.rest
