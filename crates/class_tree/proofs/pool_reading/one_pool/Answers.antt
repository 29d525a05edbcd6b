use Rattle.class_tree.proofs.Spelled.{one_is}
use Rattle.class_tree.proofs.pool_reading.one_pool.Goals as goal

pub returns : goal.returns
returns c = one_is
