use Rattle.std.proofs.Common.{length}
use Rattle.verify_rules.specs.Calls.{all_assign, operands}
use Rattle.type_verifier.proofs.Deepest.{assign_on, assign_stop, assign_end, still_all}
use Rattle.type_verifier.proofs.operands.operands_assign.Goals as goal

pub loop-k-init : goal.loop-k-init
loop-k-init c = still_all c.args.wanted.now c.args.stack.now c.args.asks.now

pub returns-in-Err : goal.returns-in-Err
returns-in-Err c =
    assign_stop c.args.wanted.now c.args.stack.now c.loop-k.k c.item-object.result.now c.index-wanted-k.result c.loop-k-test.true c.index-wanted-k.is c.item-object.ensures (Unit {0}) (Unit {0})
    (all_assign (operands (length c.args.wanted.now) c.args.stack.now) c.args.wanted.now) c.args.asks.now c.loop-k.asks c.assign.new.asks c.in-Err.stop c.loop-k.invariant c.in-Err.ensures

pub loop-k-preserved : goal.loop-k-preserved
loop-k-preserved c =
    assign_on c.args.wanted.now c.args.stack.now c.loop-k.k c.item-object.result.now c.index-wanted-k.result c.loop-k-test.true c.index-wanted-k.is c.item-object.ensures
    (all_assign (operands (length c.args.wanted.now) c.args.stack.now) c.args.wanted.now) c.args.asks.now c.loop-k.asks c.assign.new.asks c.in_default.field-0 c.loop-k.invariant c.in_default.ensures

pub returns : goal.returns
returns c =
    assign_end (all_assign (operands (length c.args.wanted.now) c.args.stack.now) c.args.wanted.now) c.args.wanted.now c.args.stack.now c.loop-k.k c.args.asks.now c.loop-k.asks (tt {0}) c.loop-k-test.false c.loop-k.invariant
