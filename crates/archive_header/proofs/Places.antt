-- What stands at the places of lists, and the folders of a manifest by their numbers.
use Rattle.std.proofs.Common.{◌≡◌, ℕ, zero, suc, ◌+◌, ◌-◌, ◌<◌, ◌^◌, Bool, true, false, ◌&&◌, eqb, ltb, List, [], ◌∷◌, length, Option, Some, None, refl, sym, subst, ◌∙◌, arith, slice_get, Bor, IsTrue}
use Rattle.std.specs.List.{list_all, AllByRecursion}
use Rattle.std.specs.Option.{option_copied, IfSome}
use Rattle.std.specs.Str.{is_utf8}
use Rattle.std.proofs.lemmas.Bool.{ne_eqb, ltb-true, and_parts}
use Rattle.jsa_base.proofs.Codecs.{some_is}
use Rattle.archive_header.specs.declared.folders.ListedFile.{ListedFile}
use Rattle.archive_header.specs.declared.folders.Folder.{Folder}
use Rattle.archive_header.specs.declared.folders.Folders.{Folders}
use Rattle.archive_header.specs.Folders.{folder_of, has_text_name, is_folder, is_folder_or_none, are_folders, ascends}
use Rattle.archive_header.specs.ManifestBytes.{HasFewFiles}

-- ---- tests on all of a list

pub all_at : {A : Type 0} (test : A → Bool) (xs : List A) (k : ℕ) (x : A) → list_all test xs ≡ true → slice_get xs k ≡ Some x → test x ≡ true
all_at test [] k x h e = absurd cc
all_at test (y ∷ xs) zero x h e = subst (λ z. test z ≡ true) (some_is y x e) (and_parts (test y) (list_all test xs) h).0
all_at test (y ∷ xs) (suc k) x h e = all_at test xs k x (and_parts (test y) (list_all test xs) h).1 e

-- ---- what is true of a folder

record Listed (f : Folder) : Type 0 where
  path : is_utf8 f.path ≡ true
  few : length f.files < 2 ^ 32
  names : list_all has_text_name f.files ≡ true
  ascending : ascends f.files ≡ true

listed : (f : Folder) → is_folder f ≡ true → Listed f
listed f h =
    let a = and_parts (is_utf8 f.path && ltb (length f.files) 0x1_0000_0000 && list_all has_text_name f.files) (ascends f.files) h in
    let b = and_parts (is_utf8 f.path && ltb (length f.files) 0x1_0000_0000) (list_all has_text_name f.files) a.0 in
    let c = and_parts (is_utf8 f.path) (ltb (length f.files) 0x1_0000_0000) b.0 in
    record { path = c.0; few = ltb-true (length f.files) 0x1_0000_0000 c.1; names = b.1; ascending = a.1 }

pub path_is_text : (f : Folder) → is_folder f ≡ true → is_utf8 f.path ≡ true
path_is_text f h = (listed f h).path

pub name_is_text : (f : Folder) (k : ℕ) (x : ListedFile) → is_folder f ≡ true → slice_get f.files k ≡ Some x → is_utf8 x.name ≡ true
name_is_text f k x h e = all_at has_text_name f.files k x (listed f h).names e

pub names_ascend : (f : Folder) → is_folder f ≡ true → ascends f.files ≡ true
names_ascend f h = (listed f h).ascending

pub few_files : (f : Folder) → is_folder f ≡ true → length f.files < 2 ^ 32
few_files f h = (listed f h).few

pub all_few : (fs : List Folder) → list_all is_folder fs ≡ true → AllByRecursion HasFewFiles fs
all_few [] h = tt
all_few (f ∷ fs) h = let p = and_parts (is_folder f) (list_all is_folder fs) h in (few_files f p.0, all_few fs p.1)

-- ---- the folders by number

pub record AllListed (m : Folders) : Type 0 where
  pub boot : is_folder_or_none m.boot ≡ true
  pub platform : is_folder_or_none m.platform ≡ true
  pub few : length m.app < 0xffff_ffff
  pub app : list_all is_folder m.app ≡ true

pub all_listed : (m : Folders) → are_folders m ≡ true → AllListed m
all_listed m h =
    let a = and_parts (is_folder_or_none m.boot && is_folder_or_none m.platform && ltb (length m.app) 0xffff_ffff) (list_all is_folder m.app) h in
    let b = and_parts (is_folder_or_none m.boot && is_folder_or_none m.platform) (ltb (length m.app) 0xffff_ffff) a.0 in
    let c = and_parts (is_folder_or_none m.boot) (is_folder_or_none m.platform) b.0 in
    record { boot = c.0; platform = c.1; few = ltb-true (length m.app) 0xffff_ffff b.1; app = a.1 }

one_listed : (o : Option Folder) (f : Folder) → is_folder_or_none o ≡ true → o ≡ Some f → is_folder f ≡ true
one_listed None f h e = absurd cc
one_listed (Some g) f h e = subst (λ x. is_folder x ≡ true) (some_is g f e) h

pub folder_of-app : (m : Folders) (number k : ℕ) → number ≡ k + 2 → folder_of m number ≡ slice_get m.app k
folder_of-app m number k is =
    let not_boot : eqb number 0 ≡ false = ne_eqb number 0 (λ e. absurd (omega (arith, is, e))) in
    let not_platform : eqb number 1 ≡ false = ne_eqb number 1 (λ e. absurd (omega (arith, is, e))) in
    let place : number - 2 ≡ k = omega (arith, is) in
    rw (not_boot, not_platform, place) refl

pub is_listed : (m : Folders) (number : ℕ) (f : Folder) → are_folders m ≡ true → folder_of m number ≡ Some f → is_folder f ≡ true
is_listed m zero f h e = one_listed m.boot f (all_listed m h).boot e
is_listed m (suc zero) f h e = one_listed m.platform f (all_listed m h).platform e
is_listed m (suc (suc k)) f h e = all_at is_folder m.app k f (all_listed m h).app (sym (folder_of-app m (suc (suc k)) k (omega arith)) ∙ e)

-- ---- the folder that was found

pub is_listed_in : (m : Folders) (number : ℕ) (r : Option (Bor Folder)) → are_folders m ≡ true → option_copied r ≡ folder_of m number → IfSome r (λ f. IsTrue (is_folder f.now))
is_listed_in m number None h e = tt
is_listed_in m number (Some f) h e = is_listed m number f.now h (sym e)
