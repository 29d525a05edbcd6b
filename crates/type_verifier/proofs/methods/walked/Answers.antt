use Rattle.std.proofs.Common.{◌≤◌, length, sym, ◌∙◌, arith}
use Rattle.jsa_ops.specs.Instruction.{shown}
use Rattle.verify_rules.specs.Places.{Placed, instructions}
use Rattle.verify_rules.specs.Methods.{walked}
use Rattle.type_verifier.proofs.Walks.{walk_on, walk_stop, walk_end}
use Rattle.type_verifier.proofs.methods.walked.Goals as goal

pub returns-in-Err-Fault : goal.returns-in-Err-Fault
returns-in-Err-Fault c =
    let e = c.args.e.now in
    let frames = c.args.declared.now in
    let is = instructions c.args.places.now in
    let s : Placed = record { place = c.in-Some.place; instr = shown c.in-Some.instr; next = c.in-Some.next } in
    walk_stop e frames is.placed is.bad c.loop-k.k s c.loop-k.frame (sym c.in-Some.ensures) (Unit {0}) (walked e frames c.args.first is.placed is.bad) c.args.asks.now c.loop-k.asks c.turn.new.asks c.in-Err-Fault.field-0-0 c.turn.new.frame c.loop-k.invariant
    (rw c.in-Err-Fault.field-0-is at c.in-Err-Fault.ensures)

pub loop-k-preserved : goal.loop-k-preserved
loop-k-preserved c =
    let e = c.args.e.now in
    let frames = c.args.declared.now in
    let is = instructions c.args.places.now in
    let s : Placed = record { place = c.in-Some.place; instr = shown c.in-Some.instr; next = c.in-Some.next } in
    walk_on e frames is.placed is.bad c.loop-k.k s c.loop-k.frame (sym c.in-Some.ensures) (walked e frames c.args.first is.placed is.bad) c.args.asks.now c.loop-k.asks c.turn.new.asks c.in-Ok.field-0 c.turn.new.frame c.loop-k.invariant c.in-Ok.ensures

pub returns : goal.returns
returns c =
    let e = c.args.e.now in
    let frames = c.args.declared.now in
    let is = instructions c.args.places.now in
    let end : length is.placed ≤ c.loop-k.k = omega (arith, c.len-k-end.ensures) in
    let r = walk_end e frames is.placed is.bad c.loop-k.k c.loop-k.frame (walked e frames c.args.first is.placed is.bad) c.args.asks.now c.loop-k.asks end c.loop-k.invariant in
    (r.0, c.bad.ensures ∙ r.1)
