use Rattle.std.proofs.Common.{rules, w32, FitsSigned}
use Rattle.std.proofs.lemmas.Int.{to_z-of_z}
use Rattle.verify_rules.specs.Asking.{each}
use Rattle.verify_rules.specs.Flow.{target_fits, pair_distances}
use Rattle.type_verifier.proofs.Asked.{did_exit}
use Rattle.type_verifier.proofs.Switches.{pairs_more, pairs_done, one_on, one_stop, all_done}
use Rattle.type_verifier.proofs.flow.pair_distances_fit.Goals as goal

pub returns-in_err-target_fits : goal.returns-in_err-target_fits
returns-in_err-target_fits c =
    let check = target_fits c.args.declared.now c.args.place c.args.f.now in
    let fits : FitsSigned w32 c.in-Some.distance = search rules in
    did_exit (each check (pair_distances c.args.pairs.now)) c.args.asks.now c.target_fits.new.asks c.from_residual.result c.in_err-target_fits.field-0.0 tt c.from_residual.ensures.1
    (one_stop check (each check (pair_distances c.args.pairs.now)) c.args.asks.now c.loop-distance.asks (Unit {0}) (Unit {0}) (pair_distances c.loop-distance.rest.now) (pair_distances c.in-Some.more.now) c.in-Some.distance _ c.target_fits.new.asks c.in_err-target_fits.field-0.0
    (pairs_more c.loop-distance.rest.now c.in-Some.more.now c.in-Some.distance c.in-Some.ensures) (to_z-of_z w32 c.in-Some.distance fits) c.loop-distance.invariant c.in_err-target_fits.ensures)

pub loop-distance-preserved : goal.loop-distance-preserved
loop-distance-preserved c =
    let check = target_fits c.args.declared.now c.args.place c.args.f.now in
    let fits : FitsSigned w32 c.in-Some.distance = search rules in
    one_on check (each check (pair_distances c.args.pairs.now)) c.args.asks.now c.loop-distance.asks (pair_distances c.loop-distance.rest.now) (pair_distances c.in-Some.more.now) c.in-Some.distance _ c.target_fits.new.asks c.in_ok-target_fits.field-0
    (pairs_more c.loop-distance.rest.now c.in-Some.more.now c.in-Some.distance c.in-Some.ensures) (to_z-of_z w32 c.in-Some.distance fits) c.loop-distance.invariant c.in_ok-target_fits.ensures

pub returns : goal.returns
returns c =
    let check = target_fits c.args.declared.now c.args.place c.args.f.now in
    let u : Unit {0} = tt in
    all_done check (each check (pair_distances c.args.pairs.now)) c.args.asks.now c.loop-distance.asks (pair_distances c.loop-distance.rest.now) u (pairs_done c.loop-distance.rest.now c.in_default.ensures) c.loop-distance.invariant
