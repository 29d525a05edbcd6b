use Rattle.std.proofs.Common.{◌≡◌, drop}
use Rattle.std.specs.List.{list_any}
use Rattle.verify_rules.specs.Types.{is_made_at}
use Rattle.type_verifier.proofs.objects.is_any_made_at.Given as goal

abbrev pub invariant-loop-k : goal.invariant-loop-k
invariant-loop-k l = list_any (is_made_at l.place) (drop l.k l.stack) ≡ list_any (is_made_at l.place) l.stack
