use Rattle.jsa_ops.proofs.Ends.{unread}
use Rattle.jsa_ops.proofs.laws.behind_is_unread.Goals as goal

pub returns : goal.returns
returns c = unread
