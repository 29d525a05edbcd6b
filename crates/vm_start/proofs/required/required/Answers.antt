use Rattle.std.proofs.Common.{arith}
use Rattle.vm_start.proofs.Numbers.{none_past}
use Rattle.vm_start.proofs.required.required.Goals as goal

pub returns-in-39-to-4294967295 : goal.returns-in-39-to-4294967295
returns-in-39-to-4294967295 c = none_past c.args.number (omega arith)
