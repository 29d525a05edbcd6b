use Rattle.class_asm.proofs.Standing.{labels_stand}
use Rattle.class_asm.proofs.laws.labels_stand.Goals as goal

pub returns : goal.returns
returns c = labels_stand
