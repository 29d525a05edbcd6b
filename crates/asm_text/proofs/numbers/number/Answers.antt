use Rattle.std.proofs.Common.{sym, ◌∙◌}
use Rattle.asm_text.proofs.Numerals.{no_number, number_of, utf8_numeral}
use Rattle.asm_text.proofs.numbers.number.Goals as goal

pub returns-then-not-is_numeral : goal.returns-then-not-is_numeral
returns-then-not-is_numeral c = sym (no_number c.args.radix c.args.text.now (sym c.is_numeral.ensures ∙ c.if-not-is_numeral.true))

pub returns-in-Ok : goal.returns-in-Ok
returns-in-Ok c =
    let read = rw c.in-Ok.ensures.cases.0 at c.from_str_radix.ensures.value in
    c.ok.ensures.value ∙ number_of c.args.radix c.args.text.now c.from_str_radix.result c.requires.1 (sym c.is_numeral.ensures ∙ c.if-not-is_numeral.false) read

pub returns-in-Err : goal.returns-in-Err
returns-in-Err c = absurd (c.in-Err.ensures.cases.0 (utf8_numeral c.args.radix c.args.text.now c.requires.1 (sym c.is_numeral.ensures ∙ c.if-not-is_numeral.false)))
