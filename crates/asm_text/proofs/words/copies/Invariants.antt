use Rattle.std.proofs.Common.{◌≡◌, take}
use Rattle.asm_text.proofs.words.copies.Given as goal

abbrev pub invariant-loop-token : goal.invariant-loop-token
invariant-loop-token l = l.copies ≡ take l.token-index l.tokens
