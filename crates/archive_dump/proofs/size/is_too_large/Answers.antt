use Rattle.std.proofs.Common.{length, ◌+◌, sym}
use Rattle.std.specs.Option.{is_some}
use Rattle.archive_header.specs.ManifestBytes.{manifest_bytes}
use Rattle.archive_dump.proofs.Room.{tells, not_is}
use Rattle.archive_dump.proofs.size.is_too_large.Goals as goal

pub returns : goal.returns
returns c = tells 67108864 (256 + (c.args.ro_size + length (manifest_bytes c.args.folders.now))) c.behind_archive.result c.is_none.result (not_is c.is_none.result (is_some c.behind_archive.result) (sym c.is_none.ensures)) c.behind_archive.ensures
