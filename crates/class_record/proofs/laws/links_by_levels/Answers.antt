use Rattle.class_record.proofs.Links.{links_by_levels}
use Rattle.class_record.proofs.laws.links_by_levels.Goals as goal

pub returns : goal.returns
returns c = links_by_levels
