use Rattle.archive_mapper.proofs.Stages.{as_one}
use Rattle.archive_mapper.proofs.laws.maps_as_one.Goals as goal

pub returns : goal.returns
returns c = as_one
