use Rattle.std.proofs.Common.{arith}
use Rattle.asm_text.proofs.LineSteps.{line_on, line_stop, line_none}
use Rattle.asm_text.proofs.text.line_length.Goals as goal

pub loop-n-preserved : goal.loop-n-preserved
loop-n-preserved c =
    let e = line_on c.args.text.now c.loop-n.n c.loop-n-test.true c.if-text-n-ne10.true in
    record { within = omega arith; value = omega arith }

pub returns-else-text-n-ne10-clause-value : goal.returns-else-text-n-ne10-clause-value
returns-else-text-n-ne10-clause-value c =
    let e = line_stop c.args.text.now c.loop-n.n c.loop-n-test.true c.if-text-n-ne10.false in
    omega arith

pub returns-after-loop-n-clause-value : goal.returns-after-loop-n-clause-value
returns-after-loop-n-clause-value c =
    let e = line_none c.args.text.now c.loop-n.n c.loop-n-test.false in
    omega arith
