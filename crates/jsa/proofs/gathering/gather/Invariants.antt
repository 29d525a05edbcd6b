use Rattle.std.proofs.Common.{◌≡◌, take}
use Rattle.jsa_files.specs.Told.{contents_told}
use Rattle.jsa.specs.Dumps.{HasClasses}
use Rattle.jsa.specs.Steps.{texts_of}
use Rattle.jsa.proofs.gathering.gather.Given as goal

abbrev pub invariant-loop-place : goal.invariant-loop-place
invariant-loop-place g l = record {
  has : HasClasses (contents_told (g.F.Files.store l.fn.files)) l.folder (take l.place (texts_of l.names)) l.classes;
  contents : contents_told (g.F.Files.store l.files) ≡ contents_told (g.F.Files.store l.fn.files);
  quiet : g.F.Files.read_faults l.files ≡ g.F.Files.read_faults l.fn.files;
  writes : g.F.Files.write_faults l.files ≡ g.F.Files.write_faults l.fn.files;
  stays : g.F.Files.can_fail l.files → g.F.Files.can_fail l.fn.files;
}
