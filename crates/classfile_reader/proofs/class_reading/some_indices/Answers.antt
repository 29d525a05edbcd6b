use Rattle.std.proofs.lemmas.Result.{err_from_is_err_and}
use Rattle.jsa_base.specs.Reading.{times, u2_at}
use Rattle.classfile_reader.proofs.PartLoops.{ends}
use Rattle.classfile_reader.proofs.class_reading.some_indices.Goals as goal

pub returns-in_err-index : goal.returns-in_err-index
returns-in_err-index c =
    let p = err_from_is_err_and c.from_residual.result c.from_residual.ensures.1 in
    rw (p.1, p.2) (ends u2_at c.in_err-index.field-0.0 c.loop.indices c.args.count c.loop.counter c.loop.cursor (times u2_at c.args.count c.args.cursor.now) c.loop-test.true c.in_err-index.ensures c.loop.invariant)
