use Rattle.std.proofs.lemmas.Result.{err_from_is_err_and}
use Rattle.class_tree.specs.Trees.{each}
use Rattle.asm_text.specs.Grammar.{type_of}
use Rattle.asm_text.proofs.Each.{goes, stops, is_done}
use Rattle.asm_text.proofs.grammar.types_of.Goals as goal

pub returns-in_err-made : goal.returns-in_err-made
returns-in_err-made c =
    let p = err_from_is_err_and c.from_residual.result c.from_residual.ensures.1 in
    rw (p.1, p.2) (stops c.in_err-made.field-0.0 type_of c.loop-token.types c.args.tokens.now c.token-item.result c.loop-token.token-index (each type_of c.args.tokens.now) c.loop-token-test.true c.token-item.is (rw c.as_slice.ensures at c.in_err-made.ensures) c.loop-token.invariant)

pub loop-token-preserved : goal.loop-token-preserved
loop-token-preserved c = rw c.in_ok-push.ensures.ok (goes type_of c.loop-token.types c.args.tokens.now c.token-item.result c.in_ok-made.made c.loop-token.token-index (each type_of c.args.tokens.now) c.loop-token-test.true c.token-item.is (rw c.as_slice.ensures at c.in_ok-made.ensures) c.loop-token.invariant)

pub returns : goal.returns
returns c = is_done type_of c.loop-token.types c.args.tokens.now c.loop-token.token-index (each type_of c.args.tokens.now) c.loop-token-test.false c.loop-token.invariant
