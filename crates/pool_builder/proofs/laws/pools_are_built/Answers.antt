use Rattle.pool_builder.proofs.Keeping.{pools_are_built}
use Rattle.pool_builder.proofs.laws.pools_are_built.Goals as goal

pub returns : goal.returns
returns c = pools_are_built
