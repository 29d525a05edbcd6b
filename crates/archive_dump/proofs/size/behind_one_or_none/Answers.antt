use Rattle.archive_dump.proofs.Room.{no_folder}
use Rattle.archive_dump.proofs.size.behind_one_or_none.Goals as goal

pub returns-in-None : goal.returns-in-None
returns-in-None c = no_folder c.args.room c.args.folder.now c.in-None.is
