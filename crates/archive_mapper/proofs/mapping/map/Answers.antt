use Rattle.std.proofs.Common.{sym}
use Rattle.archive_mapper.proofs.Fronts.{front_refused}
use Rattle.archive_mapper.proofs.mapping.map.Goals as goal

pub returns-in-Err : goal.returns-in-Err
returns-in-Err c = front_refused c.args.bytes.now _ c.in-Err.refuse (sym c.in-Err.ensures)
