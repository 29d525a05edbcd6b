use Rattle.archive_header.proofs.ManifestCodecs.{bytes_at-length}
use Rattle.archive_header.proofs.manifest_reading.digest.Goals as goal

pub copy_from_slice-requires : goal.copy_from_slice-requires
copy_from_slice-requires c = bytes_at-length 32 c.args.cursor.now c.in-Some.bytes.now c.bytes.new.self c.in-Some.ensures
