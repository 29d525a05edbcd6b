use Rattle.std.proofs.Common.{ℕ, List, ap, subst}
use Rattle.loader_rules.specs.declared.loader.Loader.TheVariants as loaders
use Rattle.loader_rules.specs.Lists.{FolderLists}
use Rattle.loader_rules.specs.Finding.{numbered}
use Rattle.loader_rules.specs.Searching.{Searches, files_at}
use Rattle.loader_rules.proofs.Turns.{then_none, then_found, then_fault}
use Rattle.loader_rules.proofs.finding.find_platform.Goals as goal

pub returns-in-Ok-None-clause-searches : goal.returns-in-Ok-None-clause-searches
returns-in-Ok-None-clause-searches g c =
    then_none (g.F.Files.store c.args.files.now) (g.F.Files.store c.find_boot.new.files) (g.F.Files.store c.find_in.new.files) c.args.tail.now (numbered loaders.Boot 0 c.args.paths.now.boot) (numbered loaders.Platform 1 c.args.paths.now.platform) c.find_in.result
    (rw c.in-Ok-None.field-0-is at c.in-Ok-None.ensures.searches)
    (subst (λ (fs : List (List ℕ)). Searches (g.F.Files.store c.find_boot.new.files) (g.F.Files.store c.find_in.new.files) (files_at c.args.tail.now (numbered loaders.Platform 1 fs)) c.find_in.result) (ap (λ (l : FolderLists). l.platform) c.paths.view_is) c.find_in.ensures.searches)

pub returns-in-Ok-Some-clause-searches : goal.returns-in-Ok-Some-clause-searches
returns-in-Ok-Some-clause-searches g c =
    then_found (g.F.Files.store c.args.files.now) (g.F.Files.store c.find_boot.new.files) c.args.tail.now (numbered loaders.Boot 0 c.args.paths.now.boot) (numbered loaders.Platform 1 c.args.paths.now.platform) c.in-Ok-Some.found
    (rw c.in-Ok-Some.field-0-is at c.in-Ok-Some.ensures.searches)

pub returns-in-Err-clause-searches : goal.returns-in-Err-clause-searches
returns-in-Err-clause-searches g c =
    then_fault (g.F.Files.store c.args.files.now) (g.F.Files.store c.find_boot.new.files) c.args.tail.now (numbered loaders.Boot 0 c.args.paths.now.boot) (numbered loaders.Platform 1 c.args.paths.now.platform) c.in-Err.fault c.in-Err.ensures.searches
