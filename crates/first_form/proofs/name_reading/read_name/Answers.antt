use Rattle.std.proofs.lemmas.Result.{err_from_is_err_and}
use Rattle.first_form.proofs.InnerNames.{has_name, has_no_name}
use Rattle.first_form.proofs.name_reading.read_name.Goals as goal

pub returns-in_err-tree : goal.returns-in_err-tree
returns-in_err-tree c =
    let p = err_from_is_err_and c.from_residual.result c.from_residual.ensures.1 in
    rw (p.1, p.2) (has_no_name c.args.bytes.now c.in_err-tree.field-0.0 c.in_err-tree.ensures)

pub returns : goal.returns
returns c = has_name c.args.bytes.now c.in_ok-tree.tree c.name_of.result c.in_ok-tree.ensures c.name_of.ensures
