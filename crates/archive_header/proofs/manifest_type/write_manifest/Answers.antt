use Rattle.archive_header.proofs.ShortTexts.{short_is}
use Rattle.archive_header.proofs.manifest_type.write_manifest.Goals as goal

pub push_folders-requires-clause-short : goal.push_folders-requires-clause-short
push_folders-requires-clause-short c = rw c.folders.ensures.folders (short_is c.args.manifest.now c.requires)
