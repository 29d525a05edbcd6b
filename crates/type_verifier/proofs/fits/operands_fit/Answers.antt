use Rattle.std.proofs.Common.{◌≡◌, ◌+◌, ◌-◌, arith}
use Rattle.std.specs.Prelude.{Ok, Err}
use Rattle.type_verifier.proofs.Asked.{did_exit}
use Rattle.type_verifier.proofs.FitLoops.{operands_on, operands_fail}
use Rattle.verify_rules.specs.Fits.{operands_fit}
use Rattle.type_verifier.proofs.fits.operands_fit.Goals as goal

pub loop-k-preserved : goal.loop-k-preserved
loop-k-preserved c =
    let e : c.loop-k.k - 1 + 1 ≡ c.loop-k.k = omega arith in
    operands_on c.args.from.now c.args.to.now (c.loop-k.k - 1) c.item.result.now c.item-in-loop-k.result.now c.item.ensures c.item-in-loop-k.ensures c.args.asks.now c.loop-k.asks c.assign.new.asks (Ok tt)
    (rw (← e) at c.loop-k.invariant) c.in_ok-assign.ensures

pub returns-in_err-assign : goal.returns-in_err-assign
returns-in_err-assign c =
    let e : c.loop-k.k - 1 + 1 ≡ c.loop-k.k = omega arith in
    let stop = c.in_err-assign.field-0.0 in
    let on = operands_on c.args.from.now c.args.to.now (c.loop-k.k - 1) c.item.result.now c.item-in-loop-k.result.now c.item.ensures c.item-in-loop-k.ensures c.args.asks.now c.loop-k.asks c.assign.new.asks (Err stop)
    (rw (← e) at c.loop-k.invariant) c.in_err-assign.ensures in
    did_exit (operands_fit c.args.from.now c.args.to.now) c.args.asks.now c.assign.new.asks c.from_residual.result stop tt c.from_residual.ensures.1
    (operands_fail (Unit {0}) (c.loop-k.k - 1) c.args.from.now c.args.to.now c.args.asks.now c.assign.new.asks stop c.requires (omega arith) on)
