use Rattle.std.proofs.Common.{arith}
use Rattle.plain_classes.proofs.Sizes.{fits_next}
use Rattle.plain_classes.proofs.class.classes_size.Goals as goal

pub overflow_add-size : goal.overflow_add-size
overflow_add-size c =
    let e = fits_next c.loop-rest.size c.loop-rest.rest.now c.args.classes.now c.first-item.result c.in-len1-up.len_at_least c.first-item.is c.loop-rest.invariant.0 c.requires.few c.requires.short in
    omega (arith, e, c.class_size-size.ensures)
