use Rattle.std.proofs.lemmas.Result.{err_from_is_err_and}
use Rattle.verify_rules.specs.declared.written.WrittenType.TheVariants.{Top}
use Rattle.verify_types.proofs.Building.{types_go_on, types_fail}
use Rattle.verify_types.proofs.frames.types_of.Goals as goal

pub returns-in_err-type_of : goal.returns-in_err-type_of
returns-in_err-type_of c =
    let p = err_from_is_err_and c.from_residual.result c.from_residual.ensures.1 in
    rw (p.1, p.2) (types_fail c.args.pool.now c.args.places.now c.loop-t.all c.args.types.now c.loop-t.t-index Top _ c.loop-t-test.true c.in_err-type_of.field-0.0 c.in_err-type_of.ensures c.loop-t.invariant)

pub loop-t-preserved : goal.loop-t-preserved
loop-t-preserved c =
    rw c.in_ok-push.ensures.ok (types_go_on c.args.pool.now c.args.places.now c.loop-t.all c.args.types.now c.loop-t.t-index Top _ c.loop-t-test.true c.in_ok-type_of.field-0 c.in_ok-type_of.ensures c.loop-t.invariant)
