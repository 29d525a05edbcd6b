use Rattle.std.proofs.Common.{length, drop, arith}
use Rattle.type_verifier.proofs.Deepest.{took_short, took_by}
use Rattle.type_verifier.proofs.operands.operands_pass.Goals as goal

pub returns-then-len-wanted : goal.returns-then-len-wanted
returns-then-len-wanted c = took_short (Unit {0}) c.args.wanted.now c.args.stack.now c.args.asks.now (drop (length c.args.wanted.now) c.args.stack.now) (omega arith)

pub returns : goal.returns
returns c = took_by c.args.wanted.now c.args.stack.now c.args.asks.now c.operands_assign.new.asks c.operands_assign.result (omega arith) c.operands_assign.ensures
