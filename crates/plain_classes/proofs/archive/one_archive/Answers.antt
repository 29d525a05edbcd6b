use Rattle.plain_classes.proofs.Archives.{one_is}
use Rattle.plain_classes.proofs.archive.one_archive.Goals as goal

pub returns : goal.returns
returns c = one_is
