-- What is left of a room of bytes, part by part.
use Rattle.std.proofs.Common.{◌≡◌, ℕ, ◌+◌, ◌-◌, ◌%◌, ◌≤◌, ◌<◌, Bool, true, false, not, cond, ltb, List, [], ◌∷◌, ◌++◌, length, take, drop, get_or, Option, Some, None, refl, sym, ap, ◌∙◌, arith}
use Rattle.std.specs.List.{flat_map}
use Rattle.std.specs.Option.{is_none}
use Rattle.std.proofs.lemmas.Bool.{ltb-true, ltb-false, lt-ltb, le-ltb}
use Rattle.std.proofs.lemmas.List.{length-append, length-replicate, take_all}
use Rattle.std.proofs.lemmas.List.Concat.{flat_map-cons}
use Rattle.jsa_base.specs.LowFirst.{low_u8, low_text, low_counted}
use Rattle.archive_header.specs.declared.folders.ListedFile.{ListedFile}
use Rattle.archive_header.specs.declared.folders.Folder.{Folder}
use Rattle.archive_header.specs.declared.folders.Folders.{Folders}
use Rattle.archive_header.specs.ManifestBytes.{file_bytes, folder_bytes, one_or_none, all_folders, unpadded, padding, manifest_bytes}
use Rattle.archive_header.proofs.ManifestCodecs.{folders_in_turn}
use Rattle.archive_dump.specs.Room.{left_of}

-- ---- two parts

-- a room as much larger as what goes in
same_left : (l m r t : ℕ) → l + t ≡ r + m → left_of l m ≡ left_of r t
unfolding left_of
same_left l m r t e =
    elim (ltb l m) as (λ b. ltb l m ≡ b → cond b None (Some (l - m)) ≡ left_of r t) [
      | true ↦ λ h. let lt : l < m = ltb-true l m h in rw (lt-ltb r t (omega (arith, lt, e))) refl
      | false ↦ λ h. let le : m ≤ l = ltb-false l m h in let rest : l - m ≡ r - t = omega (arith, le, e) in rw (le-ltb r t (omega (arith, le, e))) (ap (λ (n : ℕ). Some n) rest)
    ] refl

some_left : (a b : ℕ) → ◌≡◌ {A = Option ℕ} (Some a) (Some b) → a ≡ b
some_left a b e = cc

pub sum_is : (room size left : ℕ) → Some left ≡ left_of room size → left + size ≡ room
unfolding left_of
sum_is room size left e =
    elim (ltb room size) as (λ b. ltb room size ≡ b → Some left ≡ cond b None (Some (room - size)) → left + size ≡ room) [
      | true ↦ λ h f. absurd cc
      | false ↦ λ h f. let le : size ≤ room = ltb-false room size h in let is : left ≡ room - size = some_left left (room - size) f in omega (arith, le, is)
    ] refl e

above_is : (room size : ℕ) → None ≡ left_of room size → room < size
unfolding left_of
above_is room size e =
    elim (ltb room size) as (λ b. ltb room size ≡ b → None ≡ cond b None (Some (room - size)) → room < size) [
      | true ↦ λ h f. ltb-true room size h
      | false ↦ λ h f. absurd cc
    ] refl e

pub none_of : (room size more total : ℕ) → None ≡ left_of room size → total ≡ size + more → None ≡ left_of room total
unfolding left_of
none_of room size more total e is = let lt : room < size = above_is room size e in rw (lt-ltb room total (omega (arith, lt, is))) refl

pub some_of : (room size more total left : ℕ) → Some left ≡ left_of room size → total ≡ size + more → left_of left more ≡ left_of room total
some_of room size more total left e is = let s = sum_is room size left e in same_left left more room total (omega (arith, s, is))

pub nothing : (room : ℕ) → Some room ≡ left_of room 0
unfolding left_of
nothing room = let all : room ≡ room - 0 = omega arith in rw (le-ltb room 0 (omega arith)) (ap (λ (n : ℕ). Some n) all)

pub no_folder : (room : ℕ) (o : Option Folder) → o ≡ None → Some room ≡ left_of room (length (flat_map folder_bytes (one_or_none o)))
no_folder room None e = nothing room
no_folder room (Some f) e = absurd cc

pub left_is : (room size left : ℕ) → Some left ≡ left_of room size → room - left ≡ size
left_is room size left e = let s = sum_is room size left e in omega (arith, s)

pub not_is : (a b : Bool) → not a ≡ b → a ≡ not b
not_is true b e = rw (sym e) refl
not_is false b e = rw (sym e) refl

pub tells : (room size : ℕ) (o : Option ℕ) (r : Bool) → r ≡ is_none o → o ≡ left_of room size → r ≡ ltb room size
unfolding left_of
tells room size o r e f =
    elim (ltb room size) as (λ b. o ≡ cond b None (Some (room - size)) → r ≡ b) [
      | true ↦ λ g. e ∙ ap (λ (x : Option ℕ). is_none x) g
      | false ↦ λ g. e ∙ ap (λ (x : Option ℕ). is_none x) g
    ] f

-- ---- the parts of a manifest

pub file_size : (f : ListedFile) (name : List ℕ) (n : ℕ) → name ≡ f.name → n ≡ length f.sha256 → length (file_bytes f) ≡ length (low_text name) + (8 + n)
file_size f name n e g = let named : length name ≡ length f.name = ap length e in omega (arith, named, g, length-append f.name (low_u8 f.size ++ f.sha256))

pub folder_size : (f : Folder) (path : List ℕ) (files : List ListedFile) → path ≡ f.path → files ≡ f.files → length (folder_bytes f) ≡ length (low_text path) + length (low_counted file_bytes files)
folder_size f path files e g = rw (e, g) (length-append (low_text f.path) (low_counted file_bytes f.files))

pub folders_size : (m : Folders) → length (flat_map folder_bytes (all_folders m)) ≡ length (flat_map folder_bytes (one_or_none m.boot)) + length (flat_map folder_bytes (one_or_none m.platform) ++ flat_map folder_bytes m.app)
folders_size m = ap length (folders_in_turn m) ∙ length-append (flat_map folder_bytes (one_or_none m.boot)) (flat_map folder_bytes (one_or_none m.platform) ++ flat_map folder_bytes m.app)

pub others_size : (m : Folders) (app : List Folder) → app ≡ m.app → length (flat_map folder_bytes (one_or_none m.platform) ++ flat_map folder_bytes m.app) ≡ length (flat_map folder_bytes (one_or_none m.platform)) + length (flat_map folder_bytes app)
others_size m app e = rw e (length-append (flat_map folder_bytes (one_or_none m.platform)) (flat_map folder_bytes m.app))

pub manifest_size : (m : Folders) → length (manifest_bytes m) ≡ length (unpadded m) + (8 - length (unpadded m) % 8) % 8
unfolding manifest_bytes
manifest_size m = length-append (unpadded m) (padding (length (unpadded m))) ∙ ap (λ (n : ℕ). length (unpadded m) + n) (length-replicate ((8 - length (unpadded m) % 8) % 8) 0)

-- ---- along a list

pub ends : {A : Type 0} (spell : A → List ℕ) (room : ℕ) (rest : List A) (total : Option ℕ) → length rest < 1 → left_of room (length (flat_map spell rest)) ≡ total → Some room ≡ total
ends spell room [] total short so_far = nothing room ∙ so_far
ends spell room (x ∷ xs) total short so_far = absurd (omega (arith, short))

length-cons : {A : Type 0} (spell : A → List ℕ) (x : A) (xs : List A) → length (flat_map spell (x ∷ xs)) ≡ length (spell x) + length (flat_map spell xs)
length-cons spell x xs = ap length (flat_map-cons spell x xs) ∙ length-append (spell x) (flat_map spell xs)

pub stops : {A : Type 0} (spell : A → List ℕ) (room : ℕ) (rest : List A) (first : A) (total : Option ℕ) → 1 ≤ length rest → first ≡ get_or rest 0 first → None ≡ left_of room (length (spell first)) → left_of room (length (flat_map spell rest)) ≡ total → None ≡ total
stops spell room [] first total long is e so_far = absurd (omega (arith, long))
stops {A} spell room (x ∷ xs) first total long is e so_far =
    none_of room (length (spell x)) (length (flat_map spell xs)) (length (flat_map spell (x ∷ xs))) (e ∙ ap (λ (y : A). left_of room (length (spell y))) is) (length-cons spell x xs) ∙ so_far

pub goes_on : {A : Type 0} (spell : A → List ℕ) (room left : ℕ) (rest : List A) (first : A) (total : Option ℕ) → 1 ≤ length rest → first ≡ get_or rest 0 first → Some left ≡ left_of room (length (spell first)) → left_of room (length (flat_map spell rest)) ≡ total
    → left_of left (length (flat_map spell (take (length rest - 1) (drop 1 rest)))) ≡ total
goes_on spell room left [] first total long is e so_far = absurd (omega (arith, long))
goes_on {A} spell room left (x ∷ xs) first total long is e so_far =
    let whole : take (length (x ∷ xs) - 1) xs ≡ xs = take_all (length (x ∷ xs) - 1) xs (omega arith) in
    ap (λ (ys : List A). left_of left (length (flat_map spell ys))) whole
    ∙ some_of room (length (spell x)) (length (flat_map spell xs)) (length (flat_map spell (x ∷ xs))) left (e ∙ ap (λ (y : A). left_of room (length (spell y))) is) (length-cons spell x xs)
    ∙ so_far
