-- The files of a folder: they have names of its list, and are those that the contents have.
use Rattle.std.proofs.Common.{◌≡◌, ℕ, zero, suc, ◌+◌, ◌≤◌, ◌<◌, true, ◌&&◌, List, [], ◌∷◌, ◌++◌, length, drop, Option, Some, None, IsTrue, slice_get, nat_lt, refl, sym, ap, subst, ◌∙◌, append_assoc, arith}
use Rattle.std.specs.List.{filter_map, list_all, AllByRecursion}
use Rattle.std.specs.List.Sorted.{IsStrictlySortedBy}
use Rattle.std.specs.Option.{option_or, option_to_list, IfSome}
use Rattle.std.specs.Ordering.{nat_cmp, is_lt}
use Rattle.std.specs.Str.{is_utf8}
use Rattle.std.specs.Cmp.Lexicographic.{slice_cmp}
use Rattle.std.specs.declared.cmp.Ordering.TheVariants.{Less}
use Rattle.std.proofs.lemmas.Bool.{lt-ltb, and_from}
use Rattle.std.proofs.lemmas.List.{append-nil}
use Rattle.std.proofs.Math.Seq.{drop-length}
use Rattle.jsa_base.proofs.Codecs.{some_is}
use Rattle.jsa_files.specs.Store.{Contents}
use Rattle.jsa_files.specs.Listing.{Ascend}
use Rattle.jsa_files.specs.declared.fault.FilesFault.{FilesFault}
use Rattle.jsa_files.proofs.ClassNames.{filter_map_more}
use Rattle.archive_header.specs.declared.folders.ListedFile.{ListedFile}
use Rattle.archive_header.specs.Folders.{has_text_name, is_before, ascends}
use Rattle.archive_header.specs.Manifests.{listed_at, large_at, first_large, is_small}
use Rattle.archive_header.specs.Making.{IsListed, HaveNames, Adds, IsMade}

-- ---- what such files are

texts_more : (file : Option ListedFile) (name : List ℕ) (rest : List ListedFile) → IfSome file (IsListed name) → list_all has_text_name rest ≡ true → list_all has_text_name (option_to_list file ++ rest) ≡ true
texts_more None name rest h k = k
texts_more (Some f) name rest h k = and_from (has_text_name f) (list_all has_text_name rest) h.1 k

pub have_texts : (files : List ListedFile) (names : List (List ℕ)) → HaveNames files names → list_all has_text_name files ≡ true
have_texts files [] h = ap (list_all has_text_name) h
have_texts files (n ∷ ns) h = ap (list_all has_text_name) h.3 ∙ texts_more h.0 n h.1 h.2 (have_texts h.1 ns h.4)

small_more : (file : Option ListedFile) (name : List ℕ) (rest : List ListedFile) → IfSome file (IsListed name) → list_all is_small rest ≡ true → list_all is_small (option_to_list file ++ rest) ≡ true
small_more None name rest h k = k
small_more (Some f) name rest h k = and_from (is_small f) (list_all is_small rest) h.2 k

pub are_small : (files : List ListedFile) (names : List (List ℕ)) → HaveNames files names → list_all is_small files ≡ true
are_small files [] h = ap (list_all is_small) h
are_small files (n ∷ ns) h = ap (list_all is_small) h.3 ∙ small_more h.0 n h.1 h.2 (are_small h.1 ns h.4)

one_more : (file : Option ListedFile) (rest : List ListedFile) (n : ℕ) → length rest ≤ n → length (option_to_list file ++ rest) ≤ suc n
one_more None rest n h = omega (arith, h)
one_more (Some f) rest n h = omega (arith, h)

pub are_few : (files : List ListedFile) (names : List (List ℕ)) → HaveNames files names → length files ≤ length names
are_few files [] h = rw h (omega arith)
are_few files (n ∷ ns) h = rw h.3 (one_more h.0 h.1 (length ns) (are_few h.1 ns h.4))

before_more : (f : ListedFile) (file : Option ListedFile) (name : List ℕ) (rest : List ListedFile) → IfSome file (IsListed name) → slice_cmp nat_cmp f.name name ≡ Less → is_before f rest ≡ true → is_before f (option_to_list file ++ rest) ≡ true
before_more f None name rest h lt k = k
before_more f (Some g) name rest h lt k = ap (λ m. is_lt (slice_cmp nat_cmp f.name m)) h.0 ∙ ap is_lt lt

stands_before : (f : ListedFile) (files : List ListedFile) (names : List (List ℕ)) → HaveNames files names → AllByRecursion (λ y. slice_cmp nat_cmp f.name y ≡ Less) names → is_before f files ≡ true
stands_before f files [] h all = ap (is_before f) h
stands_before f files (n ∷ ns) h all = ap (is_before f) h.3 ∙ before_more f h.0 n h.1 h.2 all.0 (stands_before f h.1 ns h.4 all.1)

ascends_more : (file : Option ListedFile) (name : List ℕ) (rest : List ListedFile) (names : List (List ℕ)) → IfSome file (IsListed name) → HaveNames rest names → AllByRecursion (λ y. slice_cmp nat_cmp name y ≡ Less) names → ascends rest ≡ true → ascends (option_to_list file ++ rest) ≡ true
ascends_more None name rest names h have all k = k
ascends_more (Some f) name rest names h have all k =
    and_from (is_before f rest) (ascends rest) (stands_before f rest names have (subst (λ (m : List ℕ). AllByRecursion (λ y. slice_cmp nat_cmp m y ≡ Less) names) (sym h.0) all)) k

pub do_ascend : (files : List ListedFile) (names : List (List ℕ)) → HaveNames files names → Ascend names → ascends files ≡ true
unfolding IsStrictlySortedBy
do_ascend files [] h sorted = ap ascends h
do_ascend files (n ∷ ns) h sorted = ap ascends h.3 ∙ ascends_more h.0 n h.1 ns h.2 h.4 sorted.0 (do_ascend h.1 ns h.4 sorted.1)

pub folder_made : (path : List ℕ) (files : List ListedFile) (names : List (List ℕ)) (before now : ℕ) → IsTrue (is_utf8 path) → HaveNames files names → Ascend names → length names ≤ 262_144 → now ≡ before + length names
    → IsMade path before now (record { path = path; files = files })
folder_made path files names before now text have sorted few is =
    let number = are_few files names have in
    let low : length files < 0x1_0000_0000 = omega (arith, number, few) in
    record {
      path_is = refl;
      listed = and_from (is_utf8 path && nat_lt (length files) 0x1_0000_0000 && list_all has_text_name files) (ascends files)
          (and_from (is_utf8 path && nat_lt (length files) 0x1_0000_0000) (list_all has_text_name files)
          (and_from (is_utf8 path) (nat_lt (length files) 0x1_0000_0000) text (lt-ltb (length files) 0x1_0000_0000 low))
          (have_texts files names have))
          (do_ascend files names have sorted);
      small = are_small files names have;
      number = omega (arith, number, is);
    }

-- ---- one file after the other

pub dropped : {A : Type 0} (xs : List A) (k : ℕ) (x : A) → slice_get xs k ≡ Some x → drop k xs ≡ x ∷ drop (k + 1) xs
dropped [] k x h = absurd cc
dropped (y ∷ ys) zero x h = ap (λ z. z ∷ ys) (some_is y x h)
dropped (y ∷ ys) (suc k) x h =
    let e : suc (k + 1) ≡ suc k + 1 = omega arith in
    dropped ys k x h ∙ ap (λ (n : ℕ). x ∷ drop n (y ∷ ys)) e

-- The files so far have names from the front of the list.
abbrev pub HaveFront : List ListedFile → List (List ℕ) → List (List ℕ) → Type 0
HaveFront files left names = (rest : List ListedFile) → HaveNames rest left → HaveNames (files ++ rest) names

pub front_more : (files new : List ListedFile) (names : List (List ℕ)) (k : ℕ) (name : List ℕ) → slice_get names k ≡ Some name → Adds name files new → HaveFront files (drop k names) names → HaveFront new (drop (k + 1) names) names
front_more files new names k name at adds front = λ rest h.
    let left : HaveNames (option_to_list adds.file ++ rest) (drop k names) = subst (HaveNames (option_to_list adds.file ++ rest)) (sym (dropped names k name at)) (adds.file, rest, adds.listed, refl, h) in
    let e : files ++ (option_to_list adds.file ++ rest) ≡ new ++ rest = sym (append_assoc files (option_to_list adds.file) rest) ∙ ap (λ fs. fs ++ rest) (sym adds.is) in
    subst (λ fs. HaveNames fs names) e (front (option_to_list adds.file ++ rest) left)

pub front_all : (files : List ListedFile) (names : List (List ℕ)) (k : ℕ) → k ≡ length names → HaveFront files (drop k names) names → HaveNames files names
front_all files names k all front =
    let none : drop k names ≡ [] = ap (λ (n : ℕ). drop n names) all ∙ drop-length names in
    subst (λ fs. HaveNames fs names) (append-nil files) (front [] (subst (HaveNames []) (sym none) refl))

-- what was met and listed so far, and what is left
abbrev pub Listed : Contents → List ℕ → List ListedFile → List (List ℕ) → List (List ℕ) → Type 0
Listed c folder files left names = (first_large c folder left ≡ first_large c folder names) × (files ++ filter_map (listed_at c folder) left ≡ filter_map (listed_at c folder) names)

pub listed_more : (c : Contents) (folder : List ℕ) (files new : List ListedFile) (names : List (List ℕ)) (k : ℕ) (name : List ℕ) → slice_get names k ≡ Some name
    → Listed c folder files (drop k names) names → (large_at c folder name ≡ None) × (new ≡ files ++ option_to_list (listed_at c folder name)) → Listed c folder new (drop (k + 1) names) names
listed_more c folder files new names k name at so_far did =
    let left = dropped names k name at in
    let met : option_or (large_at c folder name) (first_large c folder (drop (k + 1) names)) ≡ first_large c folder names = sym (ap (first_large c folder) left) ∙ so_far.0 in
    let have : files ++ filter_map (listed_at c folder) (name ∷ drop (k + 1) names) ≡ filter_map (listed_at c folder) names = sym (ap (λ ns. files ++ filter_map (listed_at c folder) ns) left) ∙ so_far.1 in (
      sym (ap (λ o. option_or o (first_large c folder (drop (k + 1) names))) did.0) ∙ met,
      ap (λ fs. fs ++ filter_map (listed_at c folder) (drop (k + 1) names)) did.1 ∙ filter_map_more (listed_at c folder) files name (drop (k + 1) names) (filter_map (listed_at c folder) names) have,
    )

pub listed_fault : (c : Contents) (folder : List ℕ) (files : List ListedFile) (names : List (List ℕ)) (k : ℕ) (name : List ℕ) → slice_get names k ≡ Some name
    → Listed c folder files (drop k names) names → (e : FilesFault) → large_at c folder name ≡ Some e → first_large c folder names ≡ Some e
listed_fault c folder files names k name at so_far e h =
    sym so_far.0 ∙ ap (first_large c folder) (dropped names k name at) ∙ ap (λ o. option_or o (first_large c folder (drop (k + 1) names))) h
