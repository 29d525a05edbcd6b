use Rattle.std.proofs.Common.{sym, ◌∙◌}
use Rattle.asm_text.proofs.Fronts.{cut_on, cut_done}
use Rattle.asm_text.proofs.tokens.tokens.Goals as goal

pub loop-b-preserved : goal.loop-b-preserved
loop-b-preserved c = rw c.in_ok-cutting.ensures (sym (cut_on c.loop-b.cutting c.args.line.now c.loop-b.b-index c.loop-b-test.true) ∙ c.loop-b.invariant)

pub returns : goal.returns
returns c =
    let e = sym (cut_done c.loop-b.cutting c.args.line.now c.loop-b.b-index c.loop-b-test.false) ∙ c.loop-b.invariant in
    rw (← e) c.closed.ensures
