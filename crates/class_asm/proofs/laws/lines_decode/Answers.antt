use Rattle.class_asm.proofs.Decoding.{lines_decode}
use Rattle.class_asm.proofs.laws.lines_decode.Goals as goal

pub returns : goal.returns
returns c = lines_decode
