use Rattle.asm_text.proofs.TokenLaws.{tokens_cut}
use Rattle.asm_text.proofs.laws.tokens_are_cut.Goals as goal

pub returns : goal.returns
returns c = tokens_cut
