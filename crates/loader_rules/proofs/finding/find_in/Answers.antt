use Rattle.std.proofs.Common.{◌+◌, ◌∙◌, Ok, Err, Some, None}
use Rattle.loader_rules.proofs.Turns.{at_path, turned, turned_found, turned_fault}
use Rattle.loader_rules.proofs.finding.find_in.Goals as goal

pub returns-in-Ok-Some-clause-searches : goal.returns-in-Ok-Some-clause-searches
returns-in-Ok-Some-clause-searches g c =
    turned_found (g.F.Files.store c.args.files.now) (g.F.Files.store c.loop-k.files) (g.F.Files.store c.read_at.new.files) c.args.tail.now c.args.loader c.args.first c.loop-k.k c.args.folders.now c.at.result.now c.at.ensures c.loop-k.invariant.none c.in-Ok-Some.found
    (at_path (g.F.Files.store c.loop-k.files) (g.F.Files.store c.read_at.new.files) c.args.loader (c.args.first + c.loop-k.k) c.at.result.now c.args.tail.now c.deref.result.now (Ok (Some c.in-Ok-Some.found)) (c.deref.ensures ∙ c.in-Ok.ensures) (rw c.in-Ok-Some.field-0-is at c.in-Ok-Some.ensures.searches))

pub returns-in-Err-clause-searches : goal.returns-in-Err-clause-searches
returns-in-Err-clause-searches g c =
    turned_fault (g.F.Files.store c.args.files.now) (g.F.Files.store c.loop-k.files) (g.F.Files.store c.read_at.new.files) c.args.tail.now c.args.loader c.args.first c.loop-k.k c.args.folders.now c.at.result.now c.at.ensures c.loop-k.invariant.none c.in-Err.fault
    (at_path (g.F.Files.store c.loop-k.files) (g.F.Files.store c.read_at.new.files) c.args.loader (c.args.first + c.loop-k.k) c.at.result.now c.args.tail.now c.deref.result.now (Err c.in-Err.fault) (c.deref.ensures ∙ c.in-Ok.ensures) c.in-Err.ensures.searches)

pub loop-k-preserved : goal.loop-k-preserved
loop-k-preserved g c = record {
  none = turned (g.F.Files.store c.args.files.now) (g.F.Files.store c.loop-k.files) (g.F.Files.store c.read_at.new.files) c.args.tail.now c.args.loader c.args.first c.loop-k.k c.args.folders.now c.at.result.now c.at.ensures c.loop-k.invariant.none (Ok None)
      (at_path (g.F.Files.store c.loop-k.files) (g.F.Files.store c.read_at.new.files) c.args.loader (c.args.first + c.loop-k.k) c.at.result.now c.args.tail.now c.deref.result.now (Ok None) (c.deref.ensures ∙ c.in-Ok.ensures) (rw c.in-Ok-None.field-0-is at c.in-Ok-None.ensures.searches));
  quiet = c.in-Ok-None.ensures.cause ∙ c.loop-k.invariant.quiet;
  stays = λ h. c.loop-k.invariant.stays (c.in-Ok-None.ensures.stays h);
  writes = c.in-Ok-None.ensures.writes ∙ c.loop-k.invariant.writes;
}
