use Rattle.pool_builder.proofs.Answered.{index_keeps, index_within, index_room}
use Rattle.pool_builder.proofs.builder.PoolBuilder.index.Goals as goal

pub returns-clause-within : goal.returns-clause-within
returns-clause-within c = index_within _ c.args.entry _ _ c.found_or_put.ensures.index

pub returns-clause-room : goal.returns-clause-room
returns-clause-room c = index_room _ c.args.entry _ _ c.found_or_put.ensures.index c.found_or_put.ensures.stays

pub returns-clause-keeps : goal.returns-clause-keeps
returns-clause-keeps c = index_keeps _ c.args.entry _ _ c.requires c.found_or_put.ensures.index c.found_or_put.ensures.stays
