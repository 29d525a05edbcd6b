-- A turn of the loop over the folders of one loader.
use Rattle.std.proofs.Common.{◌≡◌, ℕ, ◌+◌, List, [], ◌∷◌, ◌++◌, map, drop, Option, Some, Ok, Err, slice_get, subst}
use Rattle.jsa_files.specs.declared.fault.FilesFault.{FilesFault}
use Rattle.jsa_files.specs.Listing.{class_names}
use Rattle.jsa_files.specs.Store.{Store, Contents}
use Rattle.archive_header.specs.declared.folders.Folder.{Folder}
use Rattle.archive_header.specs.Manifests.{folder_now, limit_of, limit_from, names_to}
use Rattle.archive_header.specs.Making.{IfTold, Answers, names_from}
use Rattle.archive_header.proofs.Told.{told_both, fault_then}
use Rattle.archive_header.proofs.FoldersMade.{Made, Did, turn_more, turn_fault}

abbrev pub limits : ℕ → List ℕ → Contents → Option FilesFault
limits before path c = limit_of c before path (class_names c path)

abbrev pub Pushed : ℕ → ℕ → List ℕ → List Folder → List Folder → Contents → Type 0
Pushed mid now path folders new c = (new ≡ folders ++ folder_now c path ∷ []) × (now ≡ names_to c mid path)

abbrev pub AreNow : ℕ → ℕ → List (List ℕ) → Contents → List Folder → Type 0
AreNow before now paths c folders = (folders ≡ map (folder_now c) paths) × (now ≡ names_from c before paths)

module _ (before middle : Option Store) (first mid now : ℕ) (folders new : List Folder) (paths : List (List ℕ)) (k : ℕ) (path : List ℕ) (at_k : slice_get paths k ≡ Some path) (same : middle ≡ before) (so_far : IfTold before (λ c. Made c mid folders (drop k paths) first paths)) where
  pub folder_turned : Answers {A = Unit {0}} middle (limits mid path) (λ c _. Pushed mid now path folders new c) (Ok (tt {0})) → IfTold before (λ c. Made c now new (drop (k + 1) paths) first paths)
  folder_turned h =
      told_both before (λ c. Made c mid folders (drop k paths) first paths) (λ c. Did c path mid now folders new) (λ c. Made c now new (drop (k + 1) paths) first paths)
      (λ c p q. turn_more c first mid now folders new paths k path at_k p q) so_far
      (subst (λ (o : Option Store). IfTold o (λ c. Did c path mid now folders new)) same h)

  pub folder_stopped : (end_ : ℕ) (e : FilesFault) → Answers {A = Unit {0}} middle (limits mid path) (λ c _. Pushed mid now path folders new c) (Err e) → Answers before (λ c. limit_from c first paths) (AreNow first end_ paths) (Err e)
  folder_stopped end_ e h =
      fault_then before (limits mid path) (λ c. limit_from c first paths) (λ c (x : Unit {0}). Pushed mid now path folders new c) (AreNow first end_ paths) (λ c. Made c mid folders (drop k paths) first paths)
      (λ c p f q. turn_fault c first mid folders paths k path at_k p f q) so_far e
      (subst (λ (o : Option Store). Answers {A = Unit {0}} o (limits mid path) (λ c _. Pushed mid now path folders new c) (Err e)) same h)
