use Rattle.std.proofs.Common.{◌≡◌, Ok, None}
use Rattle.loader_rules.specs.Searching.{Searches}
use Rattle.loader_rules.proofs.Turns.{front_at}
use Rattle.loader_rules.proofs.finding.find_in.Given as goal

abbrev pub invariant-loop-k : goal.invariant-loop-k
invariant-loop-k g l = record {
  none : Searches (g.F.Files.store l.fn.files) (g.F.Files.store l.files) (front_at l.tail l.loader l.first l.folders l.k) (Ok None);
  quiet : g.F.Files.read_faults l.files ≡ g.F.Files.read_faults l.fn.files;
  stays : g.F.Files.can_fail l.files → g.F.Files.can_fail l.fn.files;
  writes : g.F.Files.write_faults l.files ≡ g.F.Files.write_faults l.fn.files;
}
