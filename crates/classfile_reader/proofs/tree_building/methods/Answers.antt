use Rattle.std.proofs.lemmas.Result.{err_from_is_err_and}
use Rattle.class_tree.specs.Trees.{each, method_of}
use Rattle.classfile_reader.proofs.PartLoops.{each_goes_on, each_ends, each_is_done}
use Rattle.classfile_reader.proofs.tree_building.methods.Goals as goal

pub returns-in_err-method : goal.returns-in_err-method
returns-in_err-method c =
    let p = err_from_is_err_and c.from_residual.result c.from_residual.ensures.1 in
    rw (p.1, p.2) (each_ends (method_of c.args.pool.now) c.in_err-method.field-0.0 c.loop-member.methods c.args.members.now c.loop-member.member-index c.member-item.result (each (method_of c.args.pool.now) c.args.members.now) c.loop-member-test.true c.member-item.is c.in_err-method.ensures c.loop-member.invariant)

pub loop-member-preserved : goal.loop-member-preserved
loop-member-preserved c = rw c.in_ok-push.ensures.ok (each_goes_on (method_of c.args.pool.now) c.loop-member.methods c.args.members.now c.loop-member.member-index c.member-item.result c.in_ok-method.method (each (method_of c.args.pool.now) c.args.members.now) c.loop-member-test.true c.member-item.is c.in_ok-method.ensures c.loop-member.invariant)

pub returns : goal.returns
returns c = each_is_done (method_of c.args.pool.now) c.loop-member.methods c.args.members.now c.loop-member.member-index (each (method_of c.args.pool.now) c.args.members.now) c.loop-member-test.false c.loop-member.invariant
