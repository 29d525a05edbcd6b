use Rattle.archive_header.proofs.Manifests.{one_is}
use Rattle.archive_header.proofs.manifest_type.one_manifest.Goals as goal

pub returns : goal.returns
returns c = one_is
