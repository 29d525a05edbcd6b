use Rattle.std.proofs.Common.{sym, ◌∙◌}
use Rattle.command_words.proofs.Numerals.{no_numeral, numeral_of}
use Rattle.command_words.proofs.words.numeral.Goals as goal

pub returns-then-not-is_numeral : goal.returns-then-not-is_numeral
returns-then-not-is_numeral c = sym (no_numeral c.args.radix c.args.most c.args.digits.now (sym c.is_numeral.ensures ∙ c.if-not-is_numeral.true))

pub returns : goal.returns
returns c = c.ok.ensures.value ∙ numeral_of c.args.radix c.args.most c.args.digits.now c.from_str_radix.result c.requires.1 (sym c.is_numeral.ensures ∙ c.if-not-is_numeral.false) c.from_str_radix.ensures.value
