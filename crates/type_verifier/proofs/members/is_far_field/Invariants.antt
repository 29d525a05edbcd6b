use Rattle.std.proofs.Common.{◌≡◌, length}
use Rattle.verify_rules.specs.Members.{is_far_in, field_flags}
use Rattle.type_verifier.proofs.members.is_far_field.Given as goal

abbrev pub invariant-loop-rest : goal.invariant-loop-rest
invariant-loop-rest l = is_far_in l.e (field_flags l.m) l.rest ≡ is_far_in l.e (field_flags l.m) l.supers

abbrev pub decreases-loop-rest : goal.decreases-loop-rest
decreases-loop-rest l = length l.rest
