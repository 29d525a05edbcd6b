use Rattle.loader_rules.proofs.Searches.{one_found, one_fault}
use Rattle.loader_rules.proofs.finding.read_at.Goals as goal

pub returns-in-Ok-Some-clause-searches : goal.returns-in-Ok-Some-clause-searches
returns-in-Ok-Some-clause-searches g c =
    one_found (g.F.Files.store c.args.files.now) (g.F.Files.store c.read.new.self) (record { loader = c.args.loader; folder = c.args.folder; bytes = c.in-Ok-Some.bytes }) c.args.path.now
    (rw c.in-Ok-Some.field-0-is at c.in-Ok-Some.ensures.answer) (rw c.in-Ok-Some.field-0-is at c.in-Ok-Some.ensures.store)

pub returns-in-Err-clause-searches : goal.returns-in-Err-clause-searches
returns-in-Err-clause-searches g c = one_fault (g.F.Files.store c.args.files.now) (g.F.Files.store c.read.new.self) (record { loader = c.args.loader; folder = c.args.folder; path = c.args.path.now }) c.in-Err.fault c.in-Err.ensures.answer c.in-Err.ensures.store
