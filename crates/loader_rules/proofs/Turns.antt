-- A turn of the loop over the folders of one loader.
use Rattle.std.proofs.Common.{◌≡◌, ℕ, zero, suc, ◌+◌, List, [], ◌∷◌, ◌++◌, length, take, drop, Option, None, Some, Ok, Err, refl, sym, ◌∙◌, ap, subst, arith, slice_get, add-one}
use Rattle.std.proofs.lemmas.List.{map-append}
use Rattle.std.proofs.Math.Seq.{take-length}
use Rattle.jsa_files.specs.declared.fault.FilesFault.{FilesFault}
use Rattle.jsa_files.specs.Store.{Store}
use Rattle.loader_rules.specs.declared.loader.Loader.{Loader}
use Rattle.loader_rules.specs.declared.loader.Found.{Found}
use Rattle.loader_rules.specs.Finding.{Place, numbered}
use Rattle.loader_rules.specs.Outcomes.{FindAnswer}
use Rattle.loader_rules.specs.Searching.{Searches, file_at, files_at}
use Rattle.loader_rules.proofs.Searches.{search_more, search_found, search_fault}

-- a folder of a loader
abbrev pub folder_at : Loader → ℕ → List ℕ → Place
folder_at loader number path = record { loader = loader; folder = number; path = path }

place_moved : (loader : Loader) (path : List ℕ) (m n : ℕ) → m ≡ n → folder_at loader m path ≡ folder_at loader n path
place_moved loader path m n e = ap (λ (k : ℕ). folder_at loader k path) e

some_same : (a b : List ℕ) → Some a ≡ Some b → a ≡ b
some_same a b e = cc

numbered_next : (loader : Loader) (first k : ℕ) (folders : List (List ℕ)) (path : List ℕ) → slice_get folders k ≡ Some path → numbered loader first (take (suc k) folders) ≡ numbered loader first (take k folders) ++ folder_at loader (first + k) path ∷ []
numbered_next loader first k [] path h = absurd cc
numbered_next loader first zero (f ∷ fs) path h =
    let e : f ≡ path = some_same f path h in
    ap (λ (p : Place). p ∷ []) (ap (folder_at loader first) e ∙ place_moved loader path first (first + 0) (omega arith))
numbered_next loader first (suc k) (f ∷ fs) path h =
    let more : numbered loader (first + 1) (take (suc k) fs) ≡ numbered loader (first + 1) (take k fs) ++ folder_at loader (first + 1 + k) path ∷ [] = numbered_next loader (first + 1) k fs path h in
    let same : folder_at loader (first + 1 + k) path ≡ folder_at loader (first + suc k) path = place_moved loader path (first + 1 + k) (first + suc k) (omega arith) in
    ap (λ (ps : List Place). folder_at loader first f ∷ ps) (more ∙ ap (λ (p : Place). numbered loader (first + 1) (take k fs) ++ p ∷ []) same)

numbered_split : (loader : Loader) (first k : ℕ) (folders : List (List ℕ)) → numbered loader first folders ≡ numbered loader first (take k folders) ++ numbered loader (first + k) (drop k folders)
numbered_split loader first zero folders = ap (λ (n : ℕ). numbered loader n folders) (omega arith)
numbered_split loader first (suc k) [] = refl
numbered_split loader first (suc k) (f ∷ fs) =
    let e : first + 1 + k ≡ first + suc k = omega arith in
    ap (λ (ps : List Place). folder_at loader first f ∷ ps) (numbered_split loader (first + 1) k fs ∙ ap (λ (n : ℕ). numbered loader (first + 1) (take k fs) ++ numbered loader n (drop k fs)) e)

-- the files in the first folders of a loader
abbrev pub front_at : List ℕ → Loader → ℕ → List (List ℕ) → ℕ → List Place
front_at tail loader first folders k = files_at tail (numbered loader first (take k folders))

-- those in all of them
abbrev pub all_at : List ℕ → Loader → ℕ → List (List ℕ) → List Place
all_at tail loader first folders = files_at tail (numbered loader first folders)

front_next : (tail : List ℕ) (loader : Loader) (first k : ℕ) (folders : List (List ℕ)) (path : List ℕ) → slice_get folders k ≡ Some path → front_at tail loader first folders (k + 1) ≡ front_at tail loader first folders k ++ file_at tail (folder_at loader (first + k) path) ∷ []
front_next tail loader first k folders path h =
    let e : k + 1 ≡ suc k = add-one k in
    rw e (ap (files_at tail) (numbered_next loader first k folders path h) ∙ map-append (file_at tail) (numbered loader first (take k folders)) (folder_at loader (first + k) path ∷ []))

all_split : (tail : List ℕ) (loader : Loader) (first k : ℕ) (folders : List (List ℕ)) → all_at tail loader first folders ≡ front_at tail loader first folders k ++ files_at tail (numbered loader (first + k) (drop k folders))
all_split tail loader first k folders =
    ap (files_at tail) (numbered_split loader first k folders) ∙ map-append (file_at tail) (numbered loader first (take k folders)) (numbered loader (first + k) (drop k folders))

-- a search at the path of a folder with its tail, in the lemmas' words
pub at_path : (before after : Option Store) (loader : Loader) (number : ℕ) (folder tail path : List ℕ) (r : FindAnswer) → path ≡ folder ++ tail → Searches before after (folder_at loader number path ∷ []) r → Searches before after (file_at tail (folder_at loader number folder) ∷ []) r
at_path before after loader number folder tail path r e h = subst (λ (p : List ℕ). Searches before after (folder_at loader number p ∷ []) r) e h

module _ (before middle after : Option Store) (tail : List ℕ) (loader : Loader) (first k : ℕ) (folders : List (List ℕ)) (path : List ℕ) (at_k : slice_get folders k ≡ Some path) (none : Searches before middle (front_at tail loader first folders k) (Ok None)) where
  pub turned : (r : FindAnswer) → Searches middle after (file_at tail (folder_at loader (first + k) path) ∷ []) r → Searches before after (front_at tail loader first folders (k + 1)) r
  turned r h = subst (λ (files : List Place). Searches before after files r) (sym (front_next tail loader first k folders path at_k)) (search_more before middle after (front_at tail loader first folders k) (file_at tail (folder_at loader (first + k) path) ∷ []) r none h)

  pub turned_found : (f : Found) → Searches middle after (file_at tail (folder_at loader (first + k) path) ∷ []) (Ok (Some f)) → Searches before after (all_at tail loader first folders) (Ok (Some f))
  turned_found f h = subst (λ (files : List Place). Searches before after files (Ok (Some f))) (sym (all_split tail loader first (k + 1) folders)) (search_found before after (front_at tail loader first folders (k + 1)) (files_at tail (numbered loader (first + (k + 1)) (drop (k + 1) folders))) f (turned (Ok (Some f)) h))

  pub turned_fault : (e : FilesFault) → Searches middle after (file_at tail (folder_at loader (first + k) path) ∷ []) (Err e) → Searches before after (all_at tail loader first folders) (Err e)
  turned_fault e h = subst (λ (files : List Place). Searches before after files (Err e)) (sym (all_split tail loader first (k + 1) folders)) (search_fault before after (front_at tail loader first folders (k + 1)) (files_at tail (numbered loader (first + (k + 1)) (drop (k + 1) folders))) e (turned (Err e) h))

pub turns_done : (before after : Option Store) (tail : List ℕ) (loader : Loader) (first k : ℕ) (folders : List (List ℕ)) → k ≡ length folders → Searches before after (front_at tail loader first folders k) (Ok None) → Searches before after (all_at tail loader first folders) (Ok None)
turns_done before after tail loader first k folders all h =
    let e : take k folders ≡ folders = rw all (take-length folders) in
    subst (λ (fs : List (List ℕ)). Searches before after (files_at tail (numbered loader first fs)) (Ok None)) e h

-- ---- the folders of one loader behind those of others

pub then_none : (before middle after : Option Store) (tail : List ℕ) (a b : List Place) (r : FindAnswer) → Searches before middle (files_at tail a) (Ok None) → Searches middle after (files_at tail b) r → Searches before after (files_at tail (a ++ b)) r
then_none before middle after tail a b r none h = subst (λ (files : List Place). Searches before after files r) (sym (map-append (file_at tail) a b)) (search_more before middle after (files_at tail a) (files_at tail b) r none h)

pub then_found : (before after : Option Store) (tail : List ℕ) (a b : List Place) (f : Found) → Searches before after (files_at tail a) (Ok (Some f)) → Searches before after (files_at tail (a ++ b)) (Ok (Some f))
then_found before after tail a b f h = subst (λ (files : List Place). Searches before after files (Ok (Some f))) (sym (map-append (file_at tail) a b)) (search_found before after (files_at tail a) (files_at tail b) f h)

pub then_fault : (before after : Option Store) (tail : List ℕ) (a b : List Place) (e : FilesFault) → Searches before after (files_at tail a) (Err e) → Searches before after (files_at tail (a ++ b)) (Err e)
then_fault before after tail a b e h = subst (λ (files : List Place). Searches before after files (Err e)) (sym (map-append (file_at tail) a b)) (search_fault before after (files_at tail a) (files_at tail b) e h)
