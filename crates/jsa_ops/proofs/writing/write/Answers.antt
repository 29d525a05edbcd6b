use Rattle.jsa_ops.proofs.Written.{written}
use Rattle.jsa_ops.proofs.writing.write.Goals as goal

pub returns-clause-again : goal.returns-clause-again
returns-clause-again c = written c.args.pc c.opcode_of.result _ c.args.out.now.items c.push.new.self.items _ c.opcode_of.ensures c.in_ok-push.ensures.items c.in_ok-put_operands.ensures
