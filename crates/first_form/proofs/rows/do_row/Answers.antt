use Rattle.std.proofs.Common.{rules, w8, w32, FitsSigned}
use Rattle.std.proofs.lemmas.Int.{to_z-of_z}
use Rattle.first_form.proofs.rows.do_row.Goals as goal

pub returns-in-Push : goal.returns-in-Push
returns-in-Push c =
    let fits : FitsSigned w32 c.in-Push.n = search rules in
    let h = c.push.ensures c.args.locals.now in
    rw c.in-Push.is (rw (to_z-of_z w32 c.in-Push.n fits) at h)

pub returns-in-Increment : goal.returns-in-Increment
returns-in-Increment c =
    let fits : FitsSigned w8 c.in-Increment.amount = search rules in
    let h = c.increment.ensures c.args.stack.now in
    rw c.in-Increment.is (rw (to_z-of_z w8 c.in-Increment.amount fits) at h)
