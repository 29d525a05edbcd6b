-- The path of a class in each folder ends in the same way.
use Rattle.std.proofs.Common.{◌≡◌, ℕ, List, [], ◌∷◌, ◌++◌, Option, None, Some, Ok, refl, subst, sym, ◌∙◌, ap, append_assoc, codes}
use Rattle.std.specs.List.{filter_map}
use Rattle.jsa_base.specs.Reading.{◌>>=◌}
use Rattle.jsa_names.specs.Paths.{text_of, path_of}
use Rattle.jsa_files.specs.Store.{Store}
use Rattle.loader_rules.specs.declared.loader.Loader.{Loader}
use Rattle.loader_rules.specs.Lists.{FolderLists}
use Rattle.loader_rules.specs.Finding.{Place, file_in, files_of, folders_of, last_asked}
use Rattle.loader_rules.specs.Outcomes.{FindAnswer, FindsAsTold, store_after_find}
use Rattle.loader_rules.specs.Searching.{Searches, FirstAsTold, store_after, file_at, files_at}
use Rattle.loader_rules.proofs.Searches.{none_searched}

-- the path of a class in a folder, by the text of its name
abbrev pub in_folder : List ℕ → Option (List ℕ) → Option (List ℕ)
in_folder folder o = o >>= λ text. Some (folder ++ codes "/" ++ text ++ codes ".class")

some_same : (a b : List ℕ) → Some a ≡ Some b → a ≡ b
some_same a b e = cc

joined : (a b c d : List ℕ) → a ++ b ++ c ++ d ≡ a ++ (b ++ c ++ d)
joined a b c d = ap (λ (bytes : List ℕ). bytes ++ d) (append_assoc a b c) ∙ append_assoc a (b ++ c) d

tail_of : (folder tail : List ℕ) (o : Option (List ℕ)) → in_folder [] o ≡ Some tail → in_folder folder o ≡ Some (folder ++ tail)
tail_of folder tail None h = absurd cc
tail_of folder tail (Some text) h =
    let e : codes "/" ++ text ++ codes ".class" ≡ tail = some_same _ _ h in
    ap Some (joined folder (codes "/") text (codes ".class") ∙ ap (λ (bytes : List ℕ). folder ++ bytes) e)

nowhere_of : (folder : List ℕ) (o : Option (List ℕ)) → in_folder [] o ≡ None → in_folder folder o ≡ None
nowhere_of folder None h = refl
nowhere_of folder (Some text) h = absurd cc

path_tail : (name tail folder : List ℕ) → path_of [] name ≡ Some tail → path_of folder name ≡ Some (folder ++ tail)
unfolding path_of
path_tail name tail folder h = tail_of folder tail (text_of name) h

path_nowhere : (name folder : List ℕ) → path_of [] name ≡ None → path_of folder name ≡ None
unfolding path_of
path_nowhere name folder h = nowhere_of folder (text_of name) h

pub files_nowhere : (name : List ℕ) (folders : List Place) → path_of [] name ≡ None → filter_map (file_in name) folders ≡ []
files_nowhere name [] h = refl
files_nowhere name (f ∷ fs) h = rw (path_nowhere name f.path h) (files_nowhere name fs h)

pub files_with_tail : (name tail : List ℕ) (folders : List Place) → path_of [] name ≡ Some tail → filter_map (file_in name) folders ≡ files_at tail folders
files_with_tail name tail [] h = refl
files_with_tail name tail (f ∷ fs) h = rw (path_tail name tail f.path h) (ap (λ (files : List Place). file_at tail f ∷ files) (files_with_tail name tail fs h))

pub by_tail : (before after : Option Store) (paths : FolderLists) (from : Loader) (name tail : List ℕ) (r : FindAnswer) → path_of [] name ≡ Some tail → Searches before after (files_at tail (folders_of paths (last_asked from name))) r → Searches before after (files_of paths from name) r
by_tail before after paths from name tail r h s = subst (λ (files : List Place). Searches before after files r) (sym (files_with_tail name tail (folders_of paths (last_asked from name)) h)) s

pub by_nothing : (before : Option Store) (paths : FolderLists) (from : Loader) (name : List ℕ) → path_of [] name ≡ None → Searches before before (files_of paths from name) (Ok None)
by_nothing before paths from name h = subst (λ (files : List Place). Searches before before files (Ok None)) (sym (files_nowhere name (folders_of paths (last_asked from name)) h)) (none_searched before)

-- ---- in the words of the public contract

pub answer_told : (before : Option Store) (lists : FolderLists) (from : Loader) (name : List ℕ) (r : FindAnswer) → FirstAsTold before (files_of lists from name) r → FindsAsTold before lists from name r
answer_told None lists from name r h = tt
answer_told (Some store) lists from name r h = h

pub store_told : (before : Option Store) (lists : FolderLists) (from : Loader) (name : List ℕ) (r : FindAnswer) → store_after before (files_of lists from name) r ≡ store_after_find before lists from name r
store_told None lists from name r = refl
store_told (Some store) lists from name r = refl

pub nothing_kept : (before : Option Store) (lists : FolderLists) (from : Loader) (name : List ℕ) → before ≡ store_after_find before lists from name (Ok None)
nothing_kept None lists from name = refl
nothing_kept (Some store) lists from name = refl
