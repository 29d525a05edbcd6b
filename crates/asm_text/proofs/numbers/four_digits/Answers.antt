use Rattle.std.proofs.Common.{arith, sym, ◌∙◌}
use Rattle.asm_text.proofs.Numerals.{four_is, four_within}
use Rattle.asm_text.proofs.numbers.four_digits.Goals as goal

pub returns-in_default : goal.returns-in_default
returns-in_default c = c.in_default.ensures ∙ sym (four_is c.args.text.now c.if-text-ne4.false)

pub overflow_cast-result : goal.overflow_cast-result
overflow_cast-result c =
    let l = four_within c.args.text.now c.in-Some.n c.if-text-ne4.false (sym c.in-Some.ensures) in
    omega (arith, l)

pub returns : goal.returns
returns c = c.in-Some.ensures ∙ sym (four_is c.args.text.now c.if-text-ne4.false)
