use Rattle.std.proofs.Common.{◌≡◌, List, ℕ}
use Rattle.class_record.specs.Worlds.{world_of_files}
use Rattle.class_linker.specs.Kept.{IsKept, IsPath, GrowsTo}
use Rattle.class_linker.specs.Rights.{ForFiles, IsRight, IsPathOf, progress_of}
use Rattle.class_linker.specs.Steps.{Leads, left_of, IsAwaited, ForStores, KeepsFiles}
use Rattle.class_linker.specs.Work.{work}
use Rattle.class_linker.proofs.loading.run.Given as goal

-- What was to be done comes to what is left.
abbrev pub invariant-loop-alloc : goal.invariant-loop-alloc
invariant-loop-alloc g l =
    let store = g.F.Files.store in
    record {
      kept : IsKept l.library.readings l.library.loaded;
      path : IsPath l.library.readings l.library.loaded l.path;
      right : ForFiles (store l.files) l.paths (λ p. IsRight p l.library.readings l.library.loaded);
      path_right : ForFiles (store l.files) l.paths (λ p. IsPathOf p l.library.loaded l.path);
      told : ForStores (store l.fn.files) (store l.files) l.paths (λ p s t. Leads (world_of_files p) (left_of p l.fn.path) (left_of p l.path)
          (progress_of s l.fn.library.readings l.fn.library.loaded) (progress_of t l.library.readings l.library.loaded));
      awaits : (name : List ℕ) → IsAwaited name l.fn.library.loaded l.fn.path → IsAwaited name l.library.loaded l.path;
      grows : GrowsTo l.fn.library.loaded l.library.loaded;
      faults : g.F.Files.read_faults l.files ≡ g.F.Files.read_faults l.fn.files;
      stays : g.F.Files.can_fail l.files → g.F.Files.can_fail l.fn.files;
      writes : g.F.Files.write_faults l.files ≡ g.F.Files.write_faults l.fn.files;
      files : KeepsFiles (store l.fn.files) (store l.files);
    }

abbrev pub decreases-loop-alloc : goal.decreases-loop-alloc
decreases-loop-alloc g l = work l.library.loaded l.path
