use Rattle.std.proofs.Common.{sym}
use Rattle.archive_mapper.proofs.Fronts.{header_read}
use Rattle.archive_mapper.proofs.front.front.Goals as goal

pub tested-requires : goal.tested-requires
tested-requires c = (header_read c.args.bytes.now c.in-Ok.header (sym c.in-Ok.ensures)).0
