use Rattle.std.specs.Option.{option_map}
use Rattle.std.proofs.lemmas.Result.{err_from_is_err_and}
use Rattle.class_tree.specs.Trees.{content_of}
use Rattle.classfile_reader.proofs.Kept.{found_goes_on, found_ends, found_is_done}
use Rattle.classfile_reader.proofs.tree_building.content_of.Goals as goal

pub returns-in_err-next : goal.returns-in_err-next
returns-in_err-next c =
    let p = err_from_is_err_and c.from_residual.result c.from_residual.ensures.1 in
    rw (p.1, p.2) (found_ends c.args.pool.now c.args.name.now (option_map (λ c. c.now) c.loop-attribute.found) c.args.attributes.now c.loop-attribute.attribute-index c.attribute-item.result (content_of c.args.pool.now c.args.name.now c.args.attributes.now) c.in_err-next.field-0.0 c.loop-attribute-test.true c.attribute-item.is c.in_err-next.ensures c.loop-attribute.invariant)

pub loop-attribute-preserved : goal.loop-attribute-preserved
loop-attribute-preserved c = found_goes_on c.args.pool.now c.args.name.now (option_map (λ c. c.now) c.loop-attribute.found) (option_map (λ c. c.now) c.in_ok-next.next) c.args.attributes.now c.loop-attribute.attribute-index c.attribute-item.result (content_of c.args.pool.now c.args.name.now c.args.attributes.now) c.loop-attribute-test.true c.attribute-item.is c.in_ok-next.ensures c.loop-attribute.invariant

pub returns : goal.returns
returns c = found_is_done c.args.pool.now c.args.name.now (option_map (λ c. c.now) c.loop-attribute.found) c.args.attributes.now c.loop-attribute.attribute-index (content_of c.args.pool.now c.args.name.now c.args.attributes.now) c.loop-attribute-test.false c.loop-attribute.invariant
