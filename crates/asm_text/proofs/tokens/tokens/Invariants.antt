use Rattle.std.proofs.Common.{◌≡◌, drop}
use Rattle.asm_text.specs.Lines.{cut, uncut}
use Rattle.asm_text.proofs.tokens.tokens.Given as goal

abbrev pub invariant-loop-b : goal.invariant-loop-b
invariant-loop-b l = cut l.cutting (drop l.b-index l.line) ≡ cut uncut l.line
