use Rattle.std.proofs.Common.{arith, get_or}
use Rattle.class_tree.specs.declared.tree.Handler.{Handler}
use Rattle.verify_rules.specs.Asking.{each}
use Rattle.verify_rules.specs.Flow.{handled}
use Rattle.type_verifier.proofs.Asked.{each_on, each_stop, each_end, did_exit}
use Rattle.type_verifier.proofs.Stepping.{item_again}
use Rattle.type_verifier.proofs.flow.all_handled.Goals as goal

pub returns-in_err-handled : goal.returns-in_err-handled
returns-in_err-handled c =
    let check = handled c.args.e.now c.args.declared.now c.args.place c.args.f.now in
    let hs = c.args.handlers.now in
    let i = c.loop-h.h-index in
    let none : Handler = record { start = 0; end = 0; handler = 0; catch = 0 } in
    did_exit (each check hs) c.args.asks.now c.handled.new.asks c.from_residual.result c.in_err-handled.field-0.0 tt c.from_residual.ensures.1
    (each_stop check hs i (each check hs) c.args.asks.now c.loop-h.asks (Unit {0}) (Unit {0}) (get_or hs i none) c.handled.new.asks c.in_err-handled.field-0.0 (item_again hs i none c.loop-h-test.true) c.loop-h-test.true c.loop-h.invariant c.in_err-handled.ensures)

pub loop-h-preserved : goal.loop-h-preserved
loop-h-preserved c =
    let check = handled c.args.e.now c.args.declared.now c.args.place c.args.f.now in
    let hs = c.args.handlers.now in
    let i = c.loop-h.h-index in
    let none : Handler = record { start = 0; end = 0; handler = 0; catch = 0 } in
    each_on check hs i (each check hs) c.args.asks.now c.loop-h.asks (get_or hs i none) c.handled.new.asks c.in_ok-handled.field-0 (item_again hs i none c.loop-h-test.true) c.loop-h-test.true c.loop-h.invariant c.in_ok-handled.ensures

pub returns : goal.returns
returns c =
    let check = handled c.args.e.now c.args.declared.now c.args.place c.args.f.now in
    let hs = c.args.handlers.now in
    let u : Unit {0} = tt in
    each_end check hs c.loop-h.h-index (each check hs) c.args.asks.now c.loop-h.asks u (omega (arith, c.loop-h-test.false)) c.loop-h.invariant
