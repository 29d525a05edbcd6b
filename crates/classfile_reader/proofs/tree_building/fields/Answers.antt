use Rattle.std.proofs.lemmas.Result.{err_from_is_err_and}
use Rattle.class_tree.specs.Trees.{each, field_of}
use Rattle.classfile_reader.proofs.PartLoops.{each_goes_on, each_ends, each_is_done}
use Rattle.classfile_reader.proofs.tree_building.fields.Goals as goal

pub returns-in_err-field : goal.returns-in_err-field
returns-in_err-field c =
    let p = err_from_is_err_and c.from_residual.result c.from_residual.ensures.1 in
    rw (p.1, p.2) (each_ends (field_of c.args.pool.now) c.in_err-field.field-0.0 c.loop-member.fields c.args.members.now c.loop-member.member-index c.member-item.result (each (field_of c.args.pool.now) c.args.members.now) c.loop-member-test.true c.member-item.is c.in_err-field.ensures c.loop-member.invariant)

pub loop-member-preserved : goal.loop-member-preserved
loop-member-preserved c = rw c.in_ok-push.ensures.ok (each_goes_on (field_of c.args.pool.now) c.loop-member.fields c.args.members.now c.loop-member.member-index c.member-item.result c.in_ok-field.field (each (field_of c.args.pool.now) c.args.members.now) c.loop-member-test.true c.member-item.is c.in_ok-field.ensures c.loop-member.invariant)

pub returns : goal.returns
returns c = each_is_done (field_of c.args.pool.now) c.loop-member.fields c.args.members.now c.loop-member.member-index (each (field_of c.args.pool.now) c.args.members.now) c.loop-member-test.false c.loop-member.invariant
