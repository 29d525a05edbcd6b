use Rattle.std.specs.Option.{option_map}
use Rattle.jsa_ops.specs.Instruction.{Branch}
use Rattle.class_asm.specs.Code.{resolved, distance_to, reach}
use Rattle.class_asm.proofs.Alone.{alone_written}
use Rattle.class_asm.proofs.resolving.emit.Goals as goal

pub returns-in-Branch : goal.returns-in-Branch
unfolding resolved
returns-in-Branch c = rw c.in-Branch.is (alone_written c.args.place c.args.pool.now (option_map (Branch c.in-Branch.op) (distance_to (reach c.in-Branch.op) c.args.labels.now c.args.place c.in-Branch.label)) c.emit_branch.result c.emit_branch.ensures)
