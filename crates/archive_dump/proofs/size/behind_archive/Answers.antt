use Rattle.std.proofs.Common.{length, ◌+◌, refl, ◌∙◌}
use Rattle.archive_header.specs.ManifestBytes.{manifest_bytes}
use Rattle.archive_dump.proofs.Room.{none_of, some_of}
use Rattle.archive_dump.proofs.size.behind_archive.Goals as goal

pub returns-in_default : goal.returns-in_default
returns-in_default c = none_of c.args.room (256) (c.args.ro_size + length (manifest_bytes c.args.folders.now)) _ c.in_default.ensures (refl)

pub returns : goal.returns
returns c = c.behind_body.ensures ∙ some_of c.args.room (256) (c.args.ro_size + length (manifest_bytes c.args.folders.now)) _ c.in-Some.room c.in-Some.ensures (refl)
