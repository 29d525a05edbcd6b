use Rattle.jsa_files.proofs.ClassNames.{strips}
use Rattle.jsa_files.proofs.listing.behind.Goals as goal

pub returns : goal.returns
returns c = strips c.strip_prefix.result c.args.front.now c.args.path.now c.strip_prefix.ensures.cases
