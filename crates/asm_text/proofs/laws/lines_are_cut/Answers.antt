use Rattle.asm_text.proofs.TokenLaws.{lines_cut}
use Rattle.asm_text.proofs.laws.lines_are_cut.Goals as goal

pub returns : goal.returns
returns c = lines_cut
