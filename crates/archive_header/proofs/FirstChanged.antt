-- The first folder that changed is the least number of one that doesn't stay.
use Rattle.std.proofs.Common.{◌≡◌, ℕ, zero, suc, ◌+◌, ◌<◌, true, false, ◌&&◌, cond, eqb, List, [], ◌∷◌, length, Option, Some, None, Decides, refl, sym, ap, subst, ◌∙◌, arith, slice_get}
use Rattle.std.specs.Option.{option_map}
use Rattle.std.specs.Cmp.Lexicographic.{pointwise}
use Rattle.std.specs.Str.{bytes_eq}
use Rattle.std.proofs.lemmas.Bool.{eqb-true, eq-eqb, and_parts, and_from}
use Rattle.std.proofs.lemmas.Slice.Eq.{bytes_eq-Decides, slice_eq-Decides}
use Rattle.jsa_base.proofs.Codecs.{some_is}
use Rattle.archive_header.specs.declared.folders.ListedFile.{ListedFile}
use Rattle.archive_header.specs.declared.folders.Folder.{Folder}
use Rattle.archive_header.specs.declared.folders.Folders.{Folders}
use Rattle.archive_header.specs.Folders.{Stays, IsFirstChanged}
use Rattle.archive_header.specs.Changes.{is_same_file, is_same_folder, is_same_option, first_other}
use Rattle.archive_header.proofs.Places.{folder_of-app}

-- ---- the tests say what is the same

same_file : (a b : ListedFile) → Decides (is_same_file a b) (a ≡ b)
same_file a b = (takes, gives) where
  rebuilt : a.name ≡ b.name → a.size ≡ b.size → a.sha256 ≡ b.sha256 → a ≡ b
  rebuilt e f g = ap (λ (n : List ℕ). record { name = n; size = a.size; sha256 = a.sha256 }) e ∙ ap (λ (s : ℕ). record { name = b.name; size = s; sha256 = a.sha256 }) f ∙ ap (λ (d : List ℕ). record { name = b.name; size = b.size; sha256 = d }) g

  takes : is_same_file a b ≡ true → a ≡ b
  takes h =
      let p = and_parts (bytes_eq a.name b.name && eqb a.size b.size) (bytes_eq a.sha256 b.sha256) h in
      let q = and_parts (bytes_eq a.name b.name) (eqb a.size b.size) p.0 in
      rebuilt ((bytes_eq-Decides a.name b.name).0 q.0) (eqb-true a.size b.size q.1) ((bytes_eq-Decides a.sha256 b.sha256).0 p.1)

  gives : a ≡ b → is_same_file a b ≡ true
  gives e = and_from (bytes_eq a.name b.name && eqb a.size b.size) (bytes_eq a.sha256 b.sha256)
      (and_from (bytes_eq a.name b.name) (eqb a.size b.size) ((bytes_eq-Decides a.name b.name).1 (ap (λ (x : ListedFile). x.name) e)) (eq-eqb a.size b.size (ap (λ (x : ListedFile). x.size) e)))
      ((bytes_eq-Decides a.sha256 b.sha256).1 (ap (λ (x : ListedFile). x.sha256) e))

pub same_folder : (a b : Folder) → Decides (is_same_folder a b) (a ≡ b)
same_folder a b = (takes, gives) where
  files : Decides (pointwise is_same_file a.files b.files) (a.files ≡ b.files)
  files = slice_eq-Decides same_file a.files b.files (pointwise is_same_file a.files b.files) refl

  rebuilt : a.path ≡ b.path → a.files ≡ b.files → a ≡ b
  rebuilt e f = ap (λ (n : List ℕ). record { path = n; files = a.files }) e ∙ ap (λ (l : List ListedFile). record { path = b.path; files = l }) f

  takes : is_same_folder a b ≡ true → a ≡ b
  takes h =
      let p = and_parts (bytes_eq a.path b.path) (pointwise is_same_file a.files b.files) h in
      rebuilt ((bytes_eq-Decides a.path b.path).0 p.0) (files.0 p.1)

  gives : a ≡ b → is_same_folder a b ≡ true
  gives e = and_from (bytes_eq a.path b.path) (pointwise is_same_file a.files b.files) ((bytes_eq-Decides a.path b.path).1 (ap (λ (x : Folder). x.path) e)) (files.1 (ap (λ (x : Folder). x.files) e))

same_option : (a b : Option Folder) → Decides (is_same_option a b) (a ≡ b)
same_option None None = (λ h. refl, λ e. refl)
same_option None (Some g) = (λ h. absurd cc, λ e. absurd cc)
same_option (Some f) None = (λ h. absurd cc, λ e. absurd cc)
same_option (Some f) (Some g) = (λ h. ap (λ (x : Folder). Some x) ((same_folder f g).0 h), λ e. (same_folder f g).1 (some_is f g e))

pub is_same : (a b : Option Folder) → is_same_option a b ≡ true → a ≡ b
is_same a b h = (same_option a b).0 h

pub is_other : (a b : Option Folder) → is_same_option a b ≡ false → a ≡ b → ⊥
is_other a b h e = let t = (same_option a b).1 e in absurd cc

-- ---- the first that is other

-- what was kept at a place is there now
abbrev KeepsAt : List Folder → List Folder → ℕ → Type 0
KeepsAt kept now k = (f : Folder) → slice_get kept k ≡ Some f → slice_get now k ≡ Some f

abbrev IsFirstOther : List Folder → List Folder → Option ℕ → Type 0
IsFirstOther kept now None = (k : ℕ) → KeepsAt kept now k
IsFirstOther kept now (Some n) = (KeepsAt kept now n → ⊥) × ((n < length kept) × ((k : ℕ) → k < n → KeepsAt kept now k))

other_is : (kept now : List Folder) → IsFirstOther kept now (first_other kept now)
other_is [] now = λ k f e. absurd cc
other_is (f ∷ kept) [] = (gone, (omega arith, λ k lt. absurd (omega (arith, lt)))) where
  gone : KeepsAt (f ∷ kept) [] 0 → ⊥
  gone h = let e = h f refl in absurd cc
other_is (f ∷ kept) (g ∷ now) =
    elim (is_same_folder f g) as (λ b. is_same_folder f g ≡ b → IsFirstOther (f ∷ kept) (g ∷ now) (cond b (option_map suc (first_other kept now)) (Some 0))) [
      | true ↦ λ is. later (first_other kept now) (other_is kept now) ((same_folder f g).0 is)
      | false ↦ λ is. (changed is, (omega arith, λ k lt. absurd (omega (arith, lt))))
    ] refl
  where
    changed : is_same_folder f g ≡ false → KeepsAt (f ∷ kept) (g ∷ now) 0 → ⊥
    changed is h =
        let e = some_is g f (h f refl) in
        let t = (same_folder f g).1 (sym e) in absurd cc

    here : f ≡ g → (k : ℕ) → ((j : ℕ) → k ≡ suc j → KeepsAt kept now j) → KeepsAt (f ∷ kept) (g ∷ now) k
    here same zero h x e = ap (λ (y : Folder). Some y) (sym same) ∙ e
    here same (suc j) h x e = h j refl x e

    later : (o : Option ℕ) → IsFirstOther kept now o → f ≡ g → IsFirstOther (f ∷ kept) (g ∷ now) (option_map suc o)
    later None h same = λ k. here same k (λ j is. h j)
    later (Some n) h same = (h.0, (omega (arith, h.1.0), λ k lt. here same k (λ j is. h.1.1 j (omega (arith, lt, is)))))

-- ---- by number

same_of : (a b : Option Folder) → ((f : Folder) → a ≡ Some f → b ≡ Some f) → (a ≡ None → b ≡ None) → a ≡ b
same_of None b h k = sym (k refl)
same_of (Some f) b h k = sym (h f refl)

boot_stays : (kept now : Folders) → kept.boot ≡ now.boot → Stays kept now 0
boot_stays kept now same = (λ f e. sym same ∙ e, λ lt e. sym same ∙ e)

platform_stays : (kept now : Folders) → kept.platform ≡ now.platform → Stays kept now 1
platform_stays kept now same = (λ f e. sym same ∙ e, λ lt e. sym same ∙ e)

app_stays : (kept now : Folders) (number k : ℕ) → number ≡ k + 2 → KeepsAt kept.app now.app k → Stays kept now number
app_stays kept now number k is keeps = (λ f e. folder_of-app now number k is ∙ keeps f (sym (folder_of-app kept number k is) ∙ e), λ lt e. absurd (omega (arith, is, lt)))

app_kept : (kept now : Folders) (number k : ℕ) → number ≡ k + 2 → Stays kept now number → KeepsAt kept.app now.app k
app_kept kept now number k is stays = λ f e. sym (folder_of-app now number k is) ∙ stays.0 f (folder_of-app kept number k is ∙ e)

pub boot_changed : (kept now : Folders) → is_same_option kept.boot now.boot ≡ false → IsFirstChanged kept now (Some 0)
boot_changed kept now other = (λ stays. is_other kept.boot now.boot other (same_of kept.boot now.boot stays.0 (stays.1 (omega arith))), λ k lt. absurd (omega (arith, lt)))

pub platform_changed : (kept now : Folders) → is_same_option kept.boot now.boot ≡ true → is_same_option kept.platform now.platform ≡ false → IsFirstChanged kept now (Some 1)
platform_changed kept now boot other = (λ stays. is_other kept.platform now.platform other (same_of kept.platform now.platform stays.0 (stays.1 (omega arith))), before) where
  before : (k : ℕ) → k < 1 → Stays kept now k
  before zero lt = boot_stays kept now (is_same kept.boot now.boot boot)
  before (suc k) lt = absurd (omega (arith, lt))

-- the folders below a number stay
below : (kept now : Folders) → is_same_option kept.boot now.boot ≡ true → is_same_option kept.platform now.platform ≡ true → (number : ℕ) → ((k : ℕ) → number ≡ k + 2 → KeepsAt kept.app now.app k) → Stays kept now number
below kept now boot platform zero apps = boot_stays kept now (is_same kept.boot now.boot boot)
below kept now boot platform (suc zero) apps = platform_stays kept now (is_same kept.platform now.platform platform)
below kept now boot platform (suc (suc k)) apps = app_stays kept now (suc (suc k)) k (omega arith) (apps k (omega arith))

pub none_changed : (kept now : Folders) → is_same_option kept.boot now.boot ≡ true → is_same_option kept.platform now.platform ≡ true → first_other kept.app now.app ≡ None → IsFirstChanged kept now None
none_changed kept now boot platform none =
    let h = subst (IsFirstOther kept.app now.app) none (other_is kept.app now.app) in
    λ number. below kept now boot platform number (λ k is. h k)

pub app_changed : (kept now : Folders) (place : ℕ) → is_same_option kept.boot now.boot ≡ true → is_same_option kept.platform now.platform ≡ true → first_other kept.app now.app ≡ Some place → IsFirstChanged kept now (Some (place + 2))
app_changed kept now place boot platform some =
    let h = subst (IsFirstOther kept.app now.app) some (other_is kept.app now.app) in
    (λ stays. h.0 (app_kept kept now (place + 2) place refl stays), λ number lt. below kept now boot platform number (λ k is. h.1.1 k (omega (arith, lt, is))))

pub other_within : (kept now : List Folder) (place : ℕ) → first_other kept now ≡ Some place → place < length kept
other_within kept now place some = (subst (IsFirstOther kept now) some (other_is kept now)).1.0
