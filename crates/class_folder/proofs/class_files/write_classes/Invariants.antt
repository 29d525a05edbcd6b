use Rattle.std.proofs.Common.{◌≡◌, ℕ, length, Option}
use Rattle.std.specs.Prelude.{Result}
use Rattle.jsa_files.specs.Store.{Contents}
use Rattle.jsa_files.specs.declared.fault.FilesFault.{FilesFault}
use Rattle.jsa_files.specs.Told.{contents_told, reads_told}
use Rattle.class_folder.specs.ClassFiles.{files_of, WritesFiles}
use Rattle.class_folder.proofs.class_files.write_classes.Given as goal

-- Whatever follows with the rest follows with all.
abbrev pub invariant-loop-rest : goal.invariant-loop-rest
invariant-loop-rest g l = record {
  follows : (new : Option Contents) (now : ℕ) (result : Result (Unit {0}) FilesFault) → WritesFiles (contents_told (g.F.Files.store l.files)) new (g.F.Files.write_faults l.files, now) (files_of l.folder l.rest) result
      → WritesFiles (contents_told (g.F.Files.store l.fn.files)) new (g.F.Files.write_faults l.fn.files, now) (files_of l.folder l.trees) result;
  writes : g.F.Files.write_faults l.files ≡ g.F.Files.write_faults l.fn.files;
  reads : reads_told (g.F.Files.store l.files) ≡ reads_told (g.F.Files.store l.fn.files);
  quiet : g.F.Files.read_faults l.files ≡ g.F.Files.read_faults l.fn.files;
  stays : g.F.Files.can_fail l.files → g.F.Files.can_fail l.fn.files;
}

abbrev pub decreases-loop-rest : goal.decreases-loop-rest
decreases-loop-rest g l = length l.rest
