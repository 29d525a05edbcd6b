-- A text of 2^32 bytes or more makes an archive too large.
use Rattle.std.proofs.Common.{◌≡◌, ℕ, ◌<◌, Bool, true, false, List, [], ◌∷◌, ◌++◌, length, Option, Some, None, refl, sym, ◌∙◌, arith}
use Rattle.std.specs.List.{flat_map, list_all}
use Rattle.std.proofs.lemmas.Bool.{lt-ltb, both_ways, and_parts, and_from}
use Rattle.std.proofs.lemmas.List.{length-append}
use Rattle.std.proofs.lemmas.List.Folds.{list_all-append}
use Rattle.jsa_base.specs.LowFirst.{low_u8, low_text, low_counted}
use Rattle.archive_header.specs.declared.folders.ListedFile.{ListedFile}
use Rattle.archive_header.specs.declared.folders.Folder.{Folder}
use Rattle.archive_header.specs.declared.folders.Folders.{Folders}
use Rattle.archive_header.specs.ManifestBytes.{file_bytes, folder_bytes, one_or_none, all_folders, counts, unpadded, padding, manifest_bytes, has_short_name}
use Rattle.archive_header.specs.ManifestBytes as manifests
use Rattle.plain_classes.specs.declared.class.PlainClass.{PlainClass}
use Rattle.plain_classes.specs.Records.{class_text, classes_text}
use Rattle.plain_classes.specs.Records as records
use Rattle.archive_dump.specs.Dumping.{IsSmall}
use Rattle.archive_dump.proofs.Dumps.{length-archive}

-- items that pass a test wherever they are written in fewer than 2^32 bytes, written in fewer together
all_pass : {A : Type 0} (spell : A → List ℕ) (test : A → Bool) → ((x : A) → length (spell x) < 0x1_0000_0000 → test x ≡ true) → (xs : List A) → length (flat_map spell xs) < 0x1_0000_0000 → list_all test xs ≡ true
all_pass spell test passes [] short = refl
all_pass spell test passes (x ∷ xs) short =
    let sum = length-append (spell x) (flat_map spell xs) in
    and_from (test x) (list_all test xs) (passes x (omega (arith, sum, short))) (all_pass spell test passes xs (omega (arith, sum, short)))

-- ---- the classes

class_is_short : (c : PlainClass) → length (class_text c) < 0x1_0000_0000 → records.has_short_texts c ≡ true
class_is_short c short =
    let sum = length-append (low_text c.name) (low_text c.bytes) in
    and_from _ _ (lt-ltb (length c.name) 0x1_0000_0000 (omega (arith, sum, short))) (lt-ltb (length c.bytes) 0x1_0000_0000 (omega (arith, sum, short)))

classes_are_short : (cs : List PlainClass) → length (classes_text cs) < 0x1_0000_0000 → records.have_short_texts cs ≡ true
classes_are_short cs short = all_pass class_text records.has_short_texts class_is_short cs short

-- ---- the manifest

file_is_short : (f : ListedFile) → length (file_bytes f) < 0x1_0000_0000 → has_short_name f ≡ true
file_is_short f short = lt-ltb (length f.name) 0x1_0000_0000 (omega (arith, length-append (low_text f.name) (low_u8 f.size ++ f.sha256), short))

folder_is_short : (f : Folder) → length (folder_bytes f) < 0x1_0000_0000 → manifests.has_short_texts f ≡ true
folder_is_short f short =
    let sum = length-append (low_text f.path) (low_counted file_bytes f.files) in
    and_from _ _ (lt-ltb (length f.path) 0x1_0000_0000 (omega (arith, sum, short))) (all_pass file_bytes has_short_name file_is_short f.files (omega (arith, sum, short)))

one_is_short : (o : Option Folder) → list_all manifests.has_short_texts (one_or_none o) ≡ true → manifests.has_short_texts_or_none o ≡ true
one_is_short None all = refl
one_is_short (Some f) all = (and_parts (manifests.has_short_texts f) true all).0

folders_are_short : (m : Folders) → list_all manifests.has_short_texts (all_folders m) ≡ true → manifests.have_short_texts m ≡ true
folders_are_short m all =
    let short = manifests.has_short_texts in
    let p = and_parts _ _ (sym (list_all-append short (one_or_none m.boot) (one_or_none m.platform ++ m.app)) ∙ all) in
    let q = and_parts _ _ (sym (list_all-append short (one_or_none m.platform) m.app) ∙ p.1) in
    and_from _ _ (and_from _ _ (one_is_short m.boot p.0) (one_is_short m.platform q.0)) q.1

manifest_is_short : (m : Folders) → length (manifest_bytes m) < 0x1_0000_0000 → manifests.have_short_texts m ≡ true
unfolding manifest_bytes
manifest_is_short m short =
    let folders = flat_map folder_bytes (all_folders m) in
    let within : length folders < 0x1_0000_0000 = omega (arith, length-append (unpadded m) (padding (length (unpadded m))), length-append (counts m) folders, short) in
    folders_are_short m (all_pass folder_bytes manifests.has_short_texts folder_is_short (all_folders m) within)

-- ---- the archive

pub long_class : (classes : List PlainClass) (folders : Folders) → records.have_short_texts classes ≡ false → IsSmall classes folders → ⊥
long_class classes folders long small = both_ways _ long (classes_are_short classes (omega (arith, length-archive classes folders, small)))

pub long_manifest : (classes : List PlainClass) (folders : Folders) → manifests.have_short_texts folders ≡ false → IsSmall classes folders → ⊥
long_manifest classes folders long small = both_ways _ long (manifest_is_short folders (omega (arith, length-archive classes folders, small)))
