use Rattle.std.proofs.Common.{◌≡◌, ◌≤◌, ◌++◌, drop}
use Rattle.archive_header.specs.Manifests.{paths_of}
use Rattle.archive_header.specs.Making.{IfTold, AreMade}
use Rattle.archive_header.proofs.FoldersMade.{Made}
use Rattle.archive_header.proofs.manifest_making.some_folders.Given as goal
use Rattle.jsa_files.specs.declared.TheConstants.{MAX_NAMES}

abbrev pub invariant-loop-k : goal.invariant-loop-k
invariant-loop-k g l = record {
  told : IfTold (g.F.Files.store l.fn.files) (λ c. Made c l.count l.folders (drop l.k l.paths) l.fn.count l.paths);
  paths : paths_of l.folders ++ drop l.k l.paths ≡ l.paths;
  made : AreMade (paths_of l.folders) l.fn.count l.count l.folders;
  few : l.count ≤ MAX_NAMES;
  store : g.F.Files.store l.files ≡ g.F.Files.store l.fn.files;
  quiet : g.F.Files.read_faults l.files ≡ g.F.Files.read_faults l.fn.files;
  stays : g.F.Files.can_fail l.files → g.F.Files.can_fail l.fn.files;
  writes : g.F.Files.write_faults l.files ≡ g.F.Files.write_faults l.fn.files;
}
