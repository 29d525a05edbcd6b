use Rattle.std.proofs.Common.{◌≡◌, ◌<◌, length, length-append, ap, arith, ◌++◌, ◌∷◌, []}
use Rattle.first_form.specs.Program.{instructions_in}
use Rattle.first_form.proofs.Loop.{instructions_go_on}
use Rattle.first_form.proofs.instructions.instructions.Goals as goal

pub loop-preserved : goal.loop-preserved
loop-preserved c =
    let some : 0 < length c.loop.cursor = omega arith in
    let grown : c.push.new.self ≡ c.loop.instructions ++ c.in_ok-next.next ∷ [] = c.in_ok-push.ensures.ok in
    record {
      read = rw grown (instructions_go_on c.args.t.now c.loop.instructions (length c.args.code.now) c.loop.counter c.loop.cursor c.in_ok-next.next c.instruction.new.cursor
          (instructions_in c.args.t.now (length c.args.code.now) c.args.code.now) c.loop-test.true some c.in_ok-next.ensures c.loop.invariant.read);
      few = omega (arith, length-append c.loop.instructions (c.in_ok-next.next ∷ []), ap length grown, c.loop.invariant.few);
    }
