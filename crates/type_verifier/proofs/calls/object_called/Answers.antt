use Rattle.std.proofs.Common.{◌-◌, length, ap, ◌∙◌, arith}
use Rattle.std.specs.Option.{option_copied}
use Rattle.type_verifier.proofs.Invoked.{called}
use Rattle.type_verifier.proofs.calls.object_called.Goals as goal

pub returns : goal.returns
returns c =
    called c.args.e.now c.args.class.now c.args.m.now c.args.t.now c.args.stack.now c.as_slice.result.now c.drop_items.new.stack (c.len.result - 1) c.len-2.result _ (option_copied c.get.result)
    (c.as_slice.ensures ∙ c.in_ok-wanted.ensures.types) (omega (arith, c.in_ok-wanted.ensures.count)) (omega (arith, ap length c.as_slice.ensures)) c.get.ensures c.drop_items.ensures c.room.ensures
    c.args.asks.now c.operands_pass.new.asks c.method_test.new.asks c.in_ok-operands_pass.field-0 c.in_ok-method_test.field-0 c.put_result.result c.put_result.new.stack c.in_ok-operands_pass.ensures c.in_ok-method_test.ensures c.put_result.ensures
