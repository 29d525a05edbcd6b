use Rattle.std.proofs.Common.{map, arith, length-append}
use Rattle.asm_text.specs.Lines.{lines}
use Rattle.asm_text.specs.Grammar.{line_statement, statements}
use Rattle.asm_text.proofs.LineSteps.{one_more, no_more}
use Rattle.asm_text.proofs.text.statements.Goals as goal

pub loop-rest-preserved : goal.loop-rest-preserved
loop-rest-preserved c = rw (c.in_ok-push.ensures.ok, c.in_ok-statement.ensures) (record {
  few = rw length-append (omega (arith, c.split_line.ensures.shorter));
  value = one_more line_statement c.loop-rest.statements c.loop-rest.rest.now c.split_line.result.0.now c.split_line.result.1.now (map line_statement (lines c.args.text.now)) c.loop-rest-test.true c.split_line.ensures.line c.split_line.ensures.rest c.loop-rest.invariant.value;
})

pub returns-clause-read : goal.returns-clause-read
unfolding statements
returns-clause-read c = no_more line_statement c.loop-rest.statements c.loop-rest.rest.now (map line_statement (lines c.args.text.now)) (omega arith) c.loop-rest.invariant.value
