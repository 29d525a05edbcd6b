use Rattle.std.proofs.Common.{rules, ◌∙◌, sym, ap, w32, FitsSigned, Some, ◌/◌, ◌≤◌, length, arith}
use Rattle.std.proofs.lemmas.Int.{to_z-of_z}
use Rattle.jsa_ops.proofs.SwitchPlaces.{distance_of_pair, pair_there, no_more_pairs}
use Rattle.jsa_ops.proofs.switches.pair_distance_at.Goals as goal

pub returns-then-bytes-k : goal.returns-then-bytes-k
returns-then-bytes-k c =
    let past : length c.args.bytes.now / 8 ≤ c.args.k = omega (arith, c.if-bytes-k.true) in
    sym (no_more_pairs c.args.bytes.now c.args.k past)

pub returns-in-Some : goal.returns-in-Some
returns-in-Some c =
    let fits : FitsSigned w32 c.in-Some.distance = search rules in
    ap Some (to_z-of_z w32 c.in-Some.distance fits) ∙ ap distance_of_pair c.in-Some.ensures ∙ pair_there c.args.bytes.now c.args.k

pub returns-in-None : goal.returns-in-None
returns-in-None c = ap distance_of_pair c.in-None.ensures ∙ pair_there c.args.bytes.now c.args.k
