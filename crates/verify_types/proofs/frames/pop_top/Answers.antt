use Rattle.std.proofs.Common.{sym}
use Rattle.verify_types.proofs.Building.{top_gone}
use Rattle.verify_types.proofs.frames.pop_top.Goals as goal

pub returns-clause-tail : goal.returns-clause-tail
returns-clause-tail c =
    let top = rw c.as_slice.ensures at (sym c.if-not-ends_in_top.ensures) in
    (top_gone c.args.types.now c.pop-top.new.self c.pop-top.result c.pop-top.ensures top).0
