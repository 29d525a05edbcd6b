use Rattle.std.proofs.Common.{◌∙◌, w32, FitsSigned}
use Rattle.std.proofs.lemmas.Int.{to_z-of_z}
use Rattle.jsa_ops.proofs.SwitchPlaces.{passed_by}
use Rattle.jsa_ops.proofs.switches.pair_distance.Goals as goal

pub loop-found-preserved : goal.loop-found-preserved
loop-found-preserved c =
    let key : FitsSigned w32 c.args.key = c.ranges.key in
    let other : FitsSigned w32 c.args.other = c.ranges.other in
    let so_far = simp to_z-of_z at c.loop-found.invariant in
    simp to_z-of_z (passed_by c.args.other c.args.key c.in-Some.found c.in-Some.distance c.loop-found.rest.now c.in-Some.more.now c.in-Some.ensures c.if-found-key.false ∙ so_far)
