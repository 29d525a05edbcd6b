use Rattle.std.proofs.Common.{◌≡◌, length}
use Rattle.verify_rules.specs.Members.{from_named}
use Rattle.type_verifier.proofs.members.from_named.Given as goal

abbrev pub invariant-loop-rest : goal.invariant-loop-rest
invariant-loop-rest l = from_named l.name l.rest ≡ from_named l.name l.supers

abbrev pub decreases-loop-rest : goal.decreases-loop-rest
decreases-loop-rest l = length l.rest
