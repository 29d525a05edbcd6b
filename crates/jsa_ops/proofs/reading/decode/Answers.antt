use Rattle.std.proofs.Common.{arith, Err}
use Rattle.std.proofs.lemmas.Result.{err_from_is_err_and}
use Rattle.jsa_base.proofs.Bytes.{each_byte}
use Rattle.jsa_ops.specs.declared.fault.OpFault.TheVariants.{Cut}
use Rattle.jsa_ops.proofs.Placed.{cursor_read, cursor_failed, answer_is, next_is}
use Rattle.jsa_ops.proofs.reading.decode.Goals as goal

pub returns-clause-answers : goal.returns-clause-answers
returns-clause-answers c =
    let bytes = each_byte c.args.code.now (λ i. omega (arith, c.type_inv.code i)) in
    answer_is c.args.code.now c.args.pc _ bytes (cursor_read c.args.code.now c.args.pc _ _ _ _ (rw c.new-cursor.ensures at c.in_ok-instr.ensures) c.left.ensures c.saturating_sub.ensures)

pub returns-clause-cut : goal.returns-clause-cut
returns-clause-cut c =
    let bytes = each_byte c.args.code.now (λ i. omega (arith, c.type_inv.code i)) in
    answer_is c.args.code.now c.args.pc _ bytes (cursor_read c.args.code.now c.args.pc _ _ _ _ (rw c.new-cursor.ensures at c.in_ok-instr.ensures) c.left.ensures c.saturating_sub.ensures) (Err Cut)

pub returns-clause-next : goal.returns-clause-next
returns-clause-next c =
    let bytes = each_byte c.args.code.now (λ i. omega (arith, c.type_inv.code i)) in
    next_is c.args.code.now c.args.pc _ _ bytes (cursor_read c.args.code.now c.args.pc _ _ _ _ (rw c.new-cursor.ensures at c.in_ok-instr.ensures) c.left.ensures c.saturating_sub.ensures)

pub returns-in_err-instr-clause-answers : goal.returns-in_err-instr-clause-answers
returns-in_err-instr-clause-answers c =
    let bytes = each_byte c.args.code.now (λ i. omega (arith, c.type_inv.code i)) in
    let p = err_from_is_err_and c.from_residual.result c.from_residual.ensures.1 in
    let e = cursor_failed c.args.code.now c.args.pc _ (rw c.new-cursor.ensures at c.in_err-instr.ensures) in
    rw (p.1, p.2) (answer_is c.args.code.now c.args.pc _ bytes e)

pub returns-in_err-instr-clause-cut : goal.returns-in_err-instr-clause-cut
returns-in_err-instr-clause-cut c =
    let bytes = each_byte c.args.code.now (λ i. omega (arith, c.type_inv.code i)) in
    let p = err_from_is_err_and c.from_residual.result c.from_residual.ensures.1 in
    let e = cursor_failed c.args.code.now c.args.pc _ (rw c.new-cursor.ensures at c.in_err-instr.ensures) in
    rw (p.1, p.2) (answer_is c.args.code.now c.args.pc _ bytes e (Err Cut))
