use Rattle.pool_builder.proofs.Grown.{needed_grows}
use Rattle.pool_builder.proofs.laws.pools_grow.Goals as goal

pub returns : goal.returns
returns c = needed_grows
