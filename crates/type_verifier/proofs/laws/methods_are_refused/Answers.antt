use Rattle.type_verifier.proofs.InOrder.{methods_refused}
use Rattle.type_verifier.proofs.laws.methods_are_refused.Goals as goal

pub returns : goal.returns
returns c = methods_refused
