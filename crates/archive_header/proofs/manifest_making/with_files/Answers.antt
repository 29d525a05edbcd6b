use Rattle.std.proofs.lemmas.Str.{is_utf8-from_IsUtf8}
use Rattle.archive_header.proofs.manifest_making.with_files.Goals as goal

pub returns-clause-text : goal.returns-clause-text
returns-clause-text c = is_utf8-from_IsUtf8 c.args.path.now c.utf8.path
