use Rattle.class_record.proofs.Room.{load_level}
use Rattle.class_record.proofs.laws.loads_by_levels.Goals as goal

pub returns : goal.returns
returns c = load_level
