-- Short texts, as a test and folder by folder.
use Rattle.std.proofs.Common.{◌≡◌, true, ◌&&◌, ltb, List, [], ◌∷◌, length, Option, Some, None}
use Rattle.std.specs.List.{list_all, AllByRecursion}
use Rattle.std.proofs.lemmas.Bool.{ltb-true, and_parts}
use Rattle.archive_header.specs.declared.folders.ListedFile.{ListedFile}
use Rattle.archive_header.specs.declared.folders.Folder.{Folder}
use Rattle.archive_header.specs.declared.folders.Folders.{Folders}
use Rattle.archive_header.specs.ManifestBytes.{one_or_none, has_short_name, has_short_texts, has_short_texts_or_none, have_short_texts, HasShortName, HasShortTexts, HaveShortTexts}
use Rattle.archive_header.proofs.ManifestCodecs.{all-append}

names_are : (files : List ListedFile) → list_all has_short_name files ≡ true → AllByRecursion HasShortName files
names_are [] h = tt
names_are (f ∷ files) h = let p = and_parts (has_short_name f) (list_all has_short_name files) h in (ltb-true (length f.name) 0x1_0000_0000 p.0, names_are files p.1)

texts_are : (f : Folder) → has_short_texts f ≡ true → HasShortTexts f
texts_are f h = let p = and_parts (ltb (length f.path) 0x1_0000_0000) (list_all has_short_name f.files) h in (ltb-true (length f.path) 0x1_0000_0000 p.0, names_are f.files p.1)

one_is : (o : Option Folder) → has_short_texts_or_none o ≡ true → AllByRecursion HasShortTexts (one_or_none o)
one_is None h = tt
one_is (Some f) h = (texts_are f h, tt)

all_are : (fs : List Folder) → list_all has_short_texts fs ≡ true → AllByRecursion HasShortTexts fs
all_are [] h = tt
all_are (f ∷ fs) h = let p = and_parts (has_short_texts f) (list_all has_short_texts fs) h in (texts_are f p.0, all_are fs p.1)

pub short_is : (m : Folders) → have_short_texts m ≡ true → HaveShortTexts m
short_is m h =
    let p = and_parts (has_short_texts_or_none m.boot && has_short_texts_or_none m.platform) (list_all has_short_texts m.app) h in
    let q = and_parts (has_short_texts_or_none m.boot) (has_short_texts_or_none m.platform) p.0 in
    all-append HasShortTexts (one_or_none m.boot) _ (one_is m.boot q.0) (all-append HasShortTexts (one_or_none m.platform) m.app (one_is m.platform q.1) (all_are m.app p.1))
