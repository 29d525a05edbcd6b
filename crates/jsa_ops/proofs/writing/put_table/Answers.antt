use Rattle.std.proofs.Common.{w32, FitsSigned}
use Rattle.std.proofs.lemmas.Int.{to_z-of_z}
use Rattle.jsa_ops.proofs.Joined.{joined}
use Rattle.jsa_ops.proofs.writing.put_table.Goals as goal

pub returns : goal.returns
returns c =
    let fo : FitsSigned w32 c.args.other = c.ranges.other in
    let fl : FitsSigned w32 c.args.low = c.ranges.low in
    let fh : FitsSigned w32 c.args.high = c.ranges.high in
    let h = simp to_z-of_z at c.put_distances.ensures in
    let e = simp to_z-of_z at c.in_ok-put_default.ensures in
    joined c.put_distances.result c.args.out.now.items _ _ _ _ _ e h
