use Rattle.std.proofs.Common.{◌≡◌, length}
use Rattle.verify_rules.specs.Members.{first_flags}
use Rattle.type_verifier.proofs.members.first_flags.Given as goal

abbrev pub invariant-loop-rest : goal.invariant-loop-rest
invariant-loop-rest l = first_flags l.m l.rest ≡ first_flags l.m l.all

abbrev pub decreases-loop-rest : goal.decreases-loop-rest
decreases-loop-rest l = length l.rest
