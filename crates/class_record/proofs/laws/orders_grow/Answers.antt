use Rattle.class_record.proofs.Orders.{orders_grow}
use Rattle.class_record.proofs.laws.orders_grow.Goals as goal

pub returns : goal.returns
returns c = orders_grow
