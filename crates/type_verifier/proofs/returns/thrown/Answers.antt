use Rattle.verify_rules.specs.Calls.{thrown}
use Rattle.type_verifier.proofs.returns.thrown.Goals as goal

pub returns : goal.returns
unfolding thrown
returns c = rw c.in_ok-throwable.ensures at c.took.ensures
