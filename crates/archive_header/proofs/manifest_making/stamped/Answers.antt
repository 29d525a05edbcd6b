use Rattle.std.proofs.lemmas.Str.{is_utf8-from_IsUtf8}
use Rattle.archive_header.proofs.manifest_making.stamped.Goals as goal

pub returns-clause-text : goal.returns-clause-text
returns-clause-text c = is_utf8-from_IsUtf8 c.args.name.now c.utf8.name
