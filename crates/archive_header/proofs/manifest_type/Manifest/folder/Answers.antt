use Rattle.archive_header.proofs.Places.{is_listed_in}
use Rattle.archive_header.proofs.manifest_type.Manifest.folder.Goals as goal

pub returns-clause-listed : goal.returns-clause-listed
returns-clause-listed c = is_listed_in c.self.inside.folders c.args.number c.folder_of.result c.self.invariant c.folder_of.ensures
