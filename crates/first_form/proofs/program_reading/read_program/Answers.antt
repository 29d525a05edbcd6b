use Rattle.std.proofs.lemmas.Result.{err_from_is_err_and}
use Rattle.first_form.proofs.Programs.{accepts, refuses}
use Rattle.first_form.proofs.program_reading.read_program.Goals as goal

pub returns-in_err-tree-clause-exact : goal.returns-in_err-tree-clause-exact
returns-in_err-tree-clause-exact c =
    let p = err_from_is_err_and c.from_residual.result c.from_residual.ensures.1 in
    rw (p.1, p.2) (refuses c.args.bytes.now c.in_err-tree.field-0.0 c.in_err-tree.ensures)

pub returns-clause-exact : goal.returns-clause-exact
returns-clause-exact c = accepts c.args.bytes.now c.in_ok-tree.tree c.program_of.result c.in_ok-tree.ensures c.program_of.ensures.exact
