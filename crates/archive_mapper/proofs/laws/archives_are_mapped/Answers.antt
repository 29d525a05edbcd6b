use Rattle.archive_mapper.proofs.Stages.{are_mapped}
use Rattle.archive_mapper.proofs.laws.archives_are_mapped.Goals as goal

pub returns : goal.returns
returns c = are_mapped
