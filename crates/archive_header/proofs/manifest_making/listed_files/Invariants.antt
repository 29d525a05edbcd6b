use Rattle.std.proofs.Common.{◌≡◌, drop}
use Rattle.archive_header.specs.Making.{IfTold}
use Rattle.archive_header.proofs.Listed.{HaveFront, Listed}
use Rattle.archive_header.proofs.manifest_making.listed_files.Given as goal

abbrev pub invariant-loop-k : goal.invariant-loop-k
invariant-loop-k g l = record {
  told : IfTold (g.F.Files.store l.fn.files) (λ c. Listed c l.folder l.listed (drop l.k l.names) l.names);
  front : HaveFront l.listed (drop l.k l.names) l.names;
  store : g.F.Files.store l.files ≡ g.F.Files.store l.fn.files;
  quiet : g.F.Files.read_faults l.files ≡ g.F.Files.read_faults l.fn.files;
  stays : g.F.Files.can_fail l.files → g.F.Files.can_fail l.fn.files;
  writes : g.F.Files.write_faults l.files ≡ g.F.Files.write_faults l.fn.files;
}
