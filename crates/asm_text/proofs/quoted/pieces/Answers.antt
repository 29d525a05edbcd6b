use Rattle.std.proofs.Common.{length, sym, [], ◌∙◌}
use Rattle.std.proofs.lemmas.Result.{err_from_is_err_and}
use Rattle.asm_text.specs.Quoted.{pieces}
use Rattle.asm_text.proofs.Pieces.{ends, goes, stops, no_more}
use Rattle.asm_text.proofs.quoted.pieces.Goals as goal

pub returns-then-closes : goal.returns-then-closes
returns-then-closes c = ends (length c.args.bytes.now) c.loop.counter c.loop.text c.loop.rest.now (pieces (length c.args.bytes.now) [] c.args.bytes.now) c.loop-test.true (sym c.closes.ensures ∙ c.if-closes.true) c.loop.invariant

pub returns-in_err-rest : goal.returns-in_err-rest
returns-in_err-rest c =
    let p = err_from_is_err_and c.from_residual.result c.from_residual.ensures.1 in
    rw (p.1, p.2) (stops c.in_err-rest.field-0.0 (length c.args.bytes.now) c.loop.counter c.loop.text c.loop.rest.now (pieces (length c.args.bytes.now) [] c.args.bytes.now) c.loop-test.true (sym c.closes.ensures ∙ c.if-closes.false) c.in_err-rest.ensures c.loop.invariant)

pub loop-preserved : goal.loop-preserved
loop-preserved c = goes (length c.args.bytes.now) c.loop.counter c.loop.text c.loop.rest.now c.put_piece.new.text c.in_ok-rest.rest.now (pieces (length c.args.bytes.now) [] c.args.bytes.now) c.loop-test.true (sym c.closes.ensures ∙ c.if-closes.false) c.in_ok-rest.ensures c.loop.invariant

pub returns : goal.returns
returns c = no_more (length c.args.bytes.now) c.loop.counter c.loop.text c.loop.rest.now (pieces (length c.args.bytes.now) [] c.args.bytes.now) c.loop-test.false c.loop.invariant
