use Rattle.archive_dump.proofs.Dumps.{are_archives}
use Rattle.archive_dump.proofs.dump.dumps_are_archives.Goals as goal

pub returns : goal.returns
returns c = are_archives
