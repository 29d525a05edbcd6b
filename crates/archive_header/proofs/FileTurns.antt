-- A turn of the loop over the names of a folder.
use Rattle.std.proofs.Common.{◌≡◌, ℕ, ◌+◌, List, ◌++◌, drop, Option, Some, None, Ok, Err, slice_get, subst}
use Rattle.std.specs.List.{filter_map}
use Rattle.std.specs.Option.{option_to_list}
use Rattle.jsa_files.specs.declared.fault.FilesFault.{FilesFault}
use Rattle.jsa_files.specs.Store.{Store, Contents}
use Rattle.archive_header.specs.declared.folders.ListedFile.{ListedFile}
use Rattle.archive_header.specs.Manifests.{listed_at, large_at, first_large}
use Rattle.archive_header.specs.Making.{IfTold, Answers}
use Rattle.archive_header.proofs.Told.{told_both, fault_then}
use Rattle.archive_header.proofs.Listed.{Listed, listed_more, listed_fault}

abbrev pub large : List ℕ → List ℕ → Contents → Option FilesFault
large folder name c = large_at c folder name

abbrev pub Appended : List ℕ → List ℕ → List ListedFile → List ListedFile → Contents → Type 0
Appended folder name files new c = new ≡ files ++ option_to_list (listed_at c folder name)

abbrev pub AreFiles : List ℕ → List (List ℕ) → Contents → List ListedFile → Type 0
AreFiles folder names c files = files ≡ filter_map (listed_at c folder) names

module _ (before middle : Option Store) (folder : List ℕ) (files : List ListedFile) (names : List (List ℕ)) (k : ℕ) (name : List ℕ) (at_k : slice_get names k ≡ Some name) (same : middle ≡ before) (so_far : IfTold before (λ c. Listed c folder files (drop k names) names)) where
  pub file_turned : (new : List ListedFile) → Answers {A = Unit {0}} middle (large folder name) (λ c _. Appended folder name files new c) (Ok (tt {0})) → IfTold before (λ c. Listed c folder new (drop (k + 1) names) names)
  file_turned new h =
      told_both before (λ c. Listed c folder files (drop k names) names) (λ c. (large_at c folder name ≡ None) × Appended folder name files new c) (λ c. Listed c folder new (drop (k + 1) names) names)
      (λ c p q. listed_more c folder files new names k name at_k p q) so_far
      (subst (λ (o : Option Store). IfTold o (λ c. (large_at c folder name ≡ None) × Appended folder name files new c)) same h)

  pub file_stopped : (new : List ListedFile) (e : FilesFault) → Answers {A = Unit {0}} middle (large folder name) (λ c _. Appended folder name files new c) (Err e) → Answers before (λ c. first_large c folder names) (AreFiles folder names) (Err e)
  file_stopped new e h =
      fault_then before (large folder name) (λ c. first_large c folder names) (λ c (x : Unit {0}). Appended folder name files new c) (AreFiles folder names) (λ c. Listed c folder files (drop k names) names)
      (λ c p f q. listed_fault c folder files names k name at_k p f q) so_far e
      (subst (λ (o : Option Store). Answers {A = Unit {0}} o (large folder name) (λ c _. Appended folder name files new c) (Err e)) same h)
