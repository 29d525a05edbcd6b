-- The folders of a manifest, one after the other.
use Rattle.std.proofs.Common.{◌≡◌, ℕ, ◌+◌, true, List, [], ◌∷◌, ◌++◌, length, map, drop, Some, None, slice_get, refl, sym, ap, subst, ◌∙◌, append_assoc, arith}
use Rattle.std.specs.List.{list_all}
use Rattle.std.specs.Option.{option_or}
use Rattle.std.proofs.lemmas.List.{append-nil, length-append, map-append}
use Rattle.std.proofs.lemmas.List.Folds.{list_all-append}
use Rattle.std.proofs.lemmas.Grind.{flat_map-append}
use Rattle.std.proofs.lemmas.Bool.{and_from}
use Rattle.jsa_files.specs.Store.{Contents}
use Rattle.jsa_files.specs.Listing.{class_names}
use Rattle.jsa_files.specs.declared.fault.FilesFault.{FilesFault}
use Rattle.archive_header.specs.declared.folders.ListedFile.{ListedFile}
use Rattle.archive_header.specs.declared.folders.Folder.{Folder}
use Rattle.archive_header.specs.Folders.{is_folder}
use Rattle.archive_header.specs.Manifests.{folder_now, limit_of, limit_from, names_to, is_small, files_of, paths_of}
use Rattle.archive_header.specs.Making.{names_from, AddsFolder, AreMade}
use Rattle.archive_header.proofs.Listed.{dropped}

-- ---- over any store

files_more : (folders : List Folder) (f : Folder) → files_of (folders ++ f ∷ []) ≡ files_of folders ++ f.files
files_more folders f = flat_map-append (λ (g : Folder). g.files) folders (f ∷ []) ∙ ap (λ (fs : List ListedFile). files_of folders ++ fs) (append-nil f.files)

pub made_more : (path : List ℕ) (before mid now : ℕ) (folders new : List Folder) → AreMade (paths_of folders) before mid folders → AddsFolder path mid now folders new → AreMade (paths_of new) before now new
made_more path before mid now folders new m a =
    let f = a.folder in
    let files = files_more folders f in
    let number : length (files_of (folders ++ f ∷ [])) ≡ length (files_of folders) + length f.files = ap length files ∙ length-append (files_of folders) f.files in
    subst (λ (fs : List Folder). AreMade (paths_of fs) before now fs) (sym a.is)
    (record {
      paths_are = refl;
      listed = list_all-append is_folder folders (f ∷ []) ∙ and_from (list_all is_folder folders) (list_all is_folder (f ∷ [])) m.listed (and_from (is_folder f) true a.made.listed refl);
      small = ap (list_all is_small) files ∙ list_all-append is_small (files_of folders) f.files ∙ and_from (list_all is_small (files_of folders)) (list_all is_small f.files) m.small a.made.small;
      number = omega (arith, number, m.number, a.made.number);
    })

pub paths_more : (path : List ℕ) (before now : ℕ) (folders new : List Folder) (paths : List (List ℕ)) (k : ℕ) → slice_get paths k ≡ Some path → AddsFolder path before now folders new
    → paths_of folders ++ drop k paths ≡ paths → paths_of new ++ drop (k + 1) paths ≡ paths
paths_more path before now folders new paths k at a h =
    let one : paths_of new ≡ paths_of folders ++ path ∷ [] = ap paths_of a.is ∙ map-append (λ (g : Folder). g.path) folders (a.folder ∷ []) ∙ ap (λ (p : List ℕ). paths_of folders ++ p ∷ []) a.made.path_is in
    ap (λ (ps : List (List ℕ)). ps ++ drop (k + 1) paths) one ∙ append_assoc (paths_of folders) (path ∷ []) (drop (k + 1) paths) ∙ ap (λ (ps : List (List ℕ)). paths_of folders ++ ps) (sym (dropped paths k path at)) ∙ h

-- ---- over a store that tells

-- what was met, made and counted so far, and what is left
abbrev pub Made : Contents → ℕ → List Folder → List (List ℕ) → ℕ → List (List ℕ) → Type 0
Made c now folders left before paths = (limit_from c now left ≡ limit_from c before paths) × (folders ++ map (folder_now c) left ≡ map (folder_now c) paths) × (names_from c now left ≡ names_from c before paths)

abbrev pub Did : Contents → List ℕ → ℕ → ℕ → List Folder → List Folder → Type 0
Did c path mid now folders new = (limit_of c mid path (class_names c path) ≡ None) × ((new ≡ folders ++ folder_now c path ∷ []) × (now ≡ names_to c mid path))

pub turn_more : (c : Contents) (before mid now : ℕ) (folders new : List Folder) (paths : List (List ℕ)) (k : ℕ) (path : List ℕ) → slice_get paths k ≡ Some path
    → Made c mid folders (drop k paths) before paths → Did c path mid now folders new → Made c now new (drop (k + 1) paths) before paths
turn_more c before mid now folders new paths k path at so_far did =
    let left = dropped paths k path at in
    let rest = drop (k + 1) paths in
    let met : option_or (limit_of c mid path (class_names c path)) (limit_from c (names_to c mid path) rest) ≡ limit_from c before paths = sym (ap (limit_from c mid) left) ∙ so_far.0 in
    let have : folders ++ map (folder_now c) (path ∷ rest) ≡ map (folder_now c) paths = sym (ap (λ ps. folders ++ map (folder_now c) ps) left) ∙ so_far.1 in
    let names : names_from c (names_to c mid path) rest ≡ names_from c before paths = sym (ap (names_from c mid) left) ∙ so_far.2 in (
      ap (λ (n : ℕ). limit_from c n rest) did.1.1 ∙ sym (ap (λ o. option_or o (limit_from c (names_to c mid path) rest)) did.0) ∙ met,
      ap (λ (fs : List Folder). fs ++ map (folder_now c) rest) did.1.0 ∙ append_assoc folders (folder_now c path ∷ []) (map (folder_now c) rest) ∙ have,
      ap (λ (n : ℕ). names_from c n rest) did.1.1 ∙ names,
    )

pub turn_fault : (c : Contents) (before mid : ℕ) (folders : List Folder) (paths : List (List ℕ)) (k : ℕ) (path : List ℕ) → slice_get paths k ≡ Some path
    → Made c mid folders (drop k paths) before paths → (e : FilesFault) → limit_of c mid path (class_names c path) ≡ Some e → limit_from c before paths ≡ Some e
turn_fault c before mid folders paths k path at so_far e h =
    sym so_far.0 ∙ ap (limit_from c mid) (dropped paths k path at) ∙ ap (λ o. option_or o (limit_from c (names_to c mid path) (drop (k + 1) paths))) h
