use Rattle.std.proofs.lemmas.Result.{err_from_is_err_and}
use Rattle.asm_text.specs.Operations.{cases_of}
use Rattle.asm_text.proofs.Each.{cases_go, cases_stop, cases_done}
use Rattle.asm_text.proofs.operations.cases_of.Goals as goal

pub returns-in_err-case : goal.returns-in_err-case
returns-in_err-case c =
    let p = err_from_is_err_and c.from_residual.result c.from_residual.ensures.1 in
    rw (p.1, p.2) (cases_stop c.in_err-case.field-0.0 c.loop-rest.cases c.loop-rest.rest.now (cases_of c.args.rest.now) c.loop-rest-test.true c.in_err-case.ensures.value c.loop-rest.invariant)

pub loop-rest-preserved : goal.loop-rest-preserved
loop-rest-preserved c = rw c.in_ok-push.ensures.ok (cases_go c.loop-rest.cases c.loop-rest.rest.now c.in_ok-case.behind.now c.in_ok-case.case (cases_of c.args.rest.now) c.loop-rest-test.true c.in_ok-case.ensures.value c.loop-rest.invariant)

pub returns : goal.returns
returns c = cases_done c.loop-rest.cases c.loop-rest.rest.now (cases_of c.args.rest.now) c.loop-rest-test.false c.loop-rest.invariant
