use Rattle.jsa_ops.specs.Instruction.{shown}
use Rattle.verify_rules.specs.Places.{Placed}
use Rattle.verify_rules.specs.Flow.{step}
use Rattle.type_verifier.proofs.Asked.{did_exit}
use Rattle.type_verifier.proofs.Stepping.{did_step, stopped_step}
use Rattle.type_verifier.proofs.flow.step.Goals as goal

pub returns-in_err-row : goal.returns-in_err-row
returns-in_err-row c =
    let s : Placed = record { place = c.args.place; instr = shown c.args.instr; next = c.args.next } in
    did_exit (step c.args.e.now c.args.declared.now s c.args.frame.now) c.args.asks.now c.row.new.asks c.from_residual-in_err-row.result c.in_err-row.field-0.0 c.row.new.frame c.from_residual-in_err-row.ensures.1
    (stopped_step (Unit {0}) c.args.e.now c.args.declared.now s c.args.frame.now c.args.asks.now c.row.new.asks (Unit {0}) c.in_err-row.field-0.0 c.row.new.frame c.row.new.frame c.in_err-row.ensures)

pub returns : goal.returns
returns c =
    let s : Placed = record { place = c.args.place; instr = shown c.args.instr; next = c.args.next } in
    did_step (Unit {0}) c.args.e.now c.args.declared.now s c.args.frame.now c.args.asks.now c.row.new.asks c.row.new.frame c.leads_from.new.asks c.in_ok-row.field-0 c.leads_from.result c.in_ok-row.ensures
    (rw (c.as_ref.ensures.value, c.in_ok-before.ensures) at c.leads_from.ensures)
