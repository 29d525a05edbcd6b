-- The class list of a run over a home is at no path of a class file, and the run has few folders.
use Rattle.std.proofs.Common.{◌≡◌, ◌==◌, ◌≤◌, ℕ, List, [], ◌∷◌, length, Bool, true, false, not, ◌&&◌, cond, codes, nat_le, Option, Some, None, refl, sym, subst, arith}
use Rattle.std.specs.List.{list_all}
use Rattle.std.specs.Option.{option_and_then, option_map, option_or, unwrap_or}
use Rattle.std.proofs.lemmas.Bool.{not-true, and_parts, leb-true}
use Rattle.command_words.specs.declared.requests.TheConstants.{MAX_FOLDERS}
use Rattle.command_words.specs.Words.{ends_in, has_no_colon, is_archive_path, is_piece, behind, archive_path, archive_option, steps_option}
use Rattle.command_words.specs.HomeWords.{HomeRequest, pieces_of, folders_of, path_option, home_option, loaded_list_option, off_option, HomeOptions, defaults, with_home_dir, with_class_path, with_loaded_list, with_step_limit, with_named_archive, with_off, uses_archive, with_option, with_path_option, home_options_from, main_name, home_run_of, home_run_with, home_run_request}
use Rattle.command_words.specs.Grammar.{request_of, Request, Run, Dump, Asm, HomeRun, MakeHome, HasFewFolders}
use Rattle.command_words.proofs.Options.{home_options}

-- the list, if there is one, doesn't end as a class file
abbrev pub IsApart : Option (List ℕ) → Type 0
IsApart None = Unit {0}
IsApart (Some path) = ends_in (codes ".class") path ≡ false

record IsSound (o : HomeOptions) : Type 0 where
  list : IsApart o.list
  few : length o.folders ≤ MAX_FOLDERS

abbrev KeepsSound : Option HomeOptions → Type 0
KeepsSound None = Unit {0}
KeepsSound (Some o) = IsSound o

abbrev AreFew : Option (List (List ℕ)) → Type 0
AreFew None = Unit {0}
AreFew (Some folders) = length folders ≤ MAX_FOLDERS

path_apart : (path : List ℕ) → IsApart (archive_path path)
path_apart path = by (is_archive_path path) refl
  where
    by : (t : Bool) → is_archive_path path ≡ t → IsApart (cond t (Some path) None)
    by true e = not-true (ends_in (codes ".class") path) (and_parts (not (length path == 0) && has_no_colon path) (not (ends_in (codes ".class") path)) e).1
    by false e = tt

pub then_apart : (o : Option (List ℕ)) → IsApart (option_and_then archive_path o)
then_apart None = tt
then_apart (Some path) = path_apart path

folders_few : (path : List ℕ) → AreFew (folders_of path)
folders_few path = by (list_all is_piece (pieces_of path) && nat_le (length (pieces_of path)) MAX_FOLDERS) refl
  where
    by : (t : Bool) → (list_all is_piece (pieces_of path) && nat_le (length (pieces_of path)) MAX_FOLDERS) ≡ t → AreFew (cond t (Some (pieces_of path)) None)
    by true e = leb-true (length (pieces_of path)) MAX_FOLDERS (and_parts (list_all is_piece (pieces_of path)) (nat_le (length (pieces_of path)) MAX_FOLDERS) e).1
    by false e = tt

path_few : (b : Bool) (path : List ℕ) → AreFew (cond b (folders_of path) None)
path_few true path = folders_few path
path_few false path = tt

home_sound : (o : HomeOptions) (given : Option (List ℕ)) → IsSound o → KeepsSound (option_map (with_home_dir o) given)
home_sound o None h = tt
home_sound o (Some home) h = record { list = h.list; few = h.few }

list_sound : (o : HomeOptions) (given : Option (List ℕ)) → IsApart given → IsSound o → KeepsSound (option_map (with_loaded_list o) given)
list_sound o None apart h = tt
list_sound o (Some list) apart h = record { list = apart; few = h.few }

steps_sound : (o : HomeOptions) (given : Option ℕ) → IsSound o → KeepsSound (option_map (with_step_limit o) given)
steps_sound o None h = tt
steps_sound o (Some steps) h = record { list = h.list; few = h.few }

archive_sound : (o : HomeOptions) (given : Option (List ℕ)) → IsSound o → KeepsSound (option_map (with_named_archive o) given)
archive_sound o None h = tt
archive_sound o (Some archive) h = record { list = h.list; few = h.few }

off_sound : (o : HomeOptions) (given : Option Bool) → IsSound o → KeepsSound (option_map (with_off o) given)
off_sound o None h = tt
off_sound o (Some off) h = record { list = h.list; few = h.few }

folders_sound : (o : HomeOptions) (given : Option (List (List ℕ))) → AreFew given → IsSound o → KeepsSound (option_map (with_class_path o) given)
folders_sound o None few h = tt
folders_sound o (Some folders) few h = record { list = h.list; few = few }

or_sound : (a b : Option HomeOptions) → KeepsSound a → KeepsSound b → KeepsSound (option_or a b)
or_sound None b h k = k
or_sound (Some o) b h k = h

word_sound : (o : HomeOptions) (word : List ℕ) → IsSound o → KeepsSound (with_option o word)
unfolding with_option
word_sound o word h =
    let home = option_map (with_home_dir o) (home_option word) in
    let list = option_map (with_loaded_list o) (loaded_list_option word) in
    let steps = option_map (with_step_limit o) (steps_option word) in
    let archive = option_map (with_named_archive o) (archive_option word) in
    let off = option_map (with_off o) (off_option word) in
    or_sound home (option_or list (option_or steps (option_or archive off))) (home_sound o (home_option word) h)
    (or_sound list (option_or steps (option_or archive off)) (list_sound o (loaded_list_option word) (then_apart (behind (codes "-XX:DumpLoadedClassList=") word)) h)
    (or_sound steps (option_or archive off) (steps_sound o (steps_option word) h)
    (or_sound archive off (archive_sound o (archive_option word) h) (off_sound o (off_option word) h))))

words_sound : (o : HomeOptions) (word second : List ℕ) → IsSound o → KeepsSound (with_path_option o word second)
unfolding with_path_option
words_sound o word second h = folders_sound o (path_option word second) (path_few _ second) h

-- ---- the options at the front

abbrev PairSound : Option (HomeOptions × List (List ℕ)) → Type 0
PairSound None = Unit {0}
PairSound (Some p) = IsSound p.0

pair_sound : (o : Option HomeOptions) (make : HomeOptions → HomeOptions × List (List ℕ)) → KeepsSound o → ((next : HomeOptions) → IsSound next → IsSound (make next).0) → PairSound (option_map make o)
pair_sound None make h f = tt
pair_sound (Some next) make h f = f next h

or_pair : (a b : Option (HomeOptions × List (List ℕ))) → PairSound a → PairSound b → PairSound (option_or a b)
or_pair None b h k = k
or_pair (Some p) b h k = h

end_sound : (o : Option (HomeOptions × List (List ℕ))) (d : HomeOptions × List (List ℕ)) → PairSound o → IsSound d.0 → IsSound (unwrap_or o d).0
end_sound None d h k = k
end_sound (Some p) d h k = h

options_sound : (o : HomeOptions) (words : List (List ℕ)) → IsSound o → IsSound (home_options_from o words).0
unfolding home_options_from
options_sound o [] h = h
options_sound o (word ∷ []) h =
    end_sound (option_map (λ next. (next, [])) (with_option o word)) (o, word ∷ []) (pair_sound (with_option o word) (λ next. (next, [])) (word_sound o word h) (λ next k. k)) h
options_sound o (word ∷ second ∷ words) h =
    let two = option_map (λ next. home_options_from next words) (with_path_option o word second) in
    let one = option_map (λ next. home_options_from next (second ∷ words)) (with_option o word) in
    end_sound (option_or two one) (o, word ∷ second ∷ words)
    (or_pair two one
    (pair_sound (with_path_option o word second) (λ next. home_options_from next words) (words_sound o word second h) (λ next k. options_sound next words k))
    (pair_sound (with_option o word) (λ next. home_options_from next (second ∷ words)) (word_sound o word h) (λ next k. options_sound next (second ∷ words) k)))
    h

-- ---- a run's list and folders

record IsSoundRun (r : HomeRequest) : Type 0 where
  list : IsApart r.list
  few : length r.folders ≤ MAX_FOLDERS

of_name : (o : HomeOptions) (name : Option (List ℕ)) (r : HomeRequest) → IsSound o → option_map (home_run_of o) name ≡ Some r → IsSoundRun r
of_name o None r h e = absurd cc
of_name o (Some name) r h e =
    let same : home_run_of o name ≡ r = cc in
    subst IsSoundRun same (record { list = h.list; few = h.few })

with_sound : (o : HomeOptions) (left : List (List ℕ)) (r : HomeRequest) → IsSound o → home_run_with o left ≡ Some r → IsSoundRun r
unfolding home_run_with
with_sound o [] r h e = absurd cc
with_sound o (main ∷ []) r h e = by (uses_archive o) e
  where
    by : (used : Bool) → cond used None (option_map (home_run_of o) (main_name main)) ≡ Some r → IsSoundRun r
    by true k = absurd cc
    by false k = of_name o (main_name main) r h k
with_sound o (a ∷ b ∷ others) r h e = absurd cc

request_sound : (words : List (List ℕ)) (r : HomeRequest) → home_run_request words ≡ Some r → IsSoundRun r
unfolding home_run_request
request_sound words r e = with_sound (home_options_from defaults words).0 (home_options_from defaults words).1 r (options_sound defaults words (record { list = tt; few = omega arith })) e

-- The list doesn't end as a class file.
pub home_list_apart : (words : List (List ℕ)) (r : HomeRequest) (path : List ℕ) → request_of words ≡ Some (HomeRun r) → r.list ≡ Some path → ends_in (codes ".class") path ≡ false
home_list_apart words r path e is = subst IsApart is (request_sound words r (home_options words r e)).list

pub few_folders : (words : List (List ℕ)) (request : Request) → Some request ≡ request_of words → HasFewFolders request
few_folders words request e = by request (sym e)
  where
    by : (request : Request) → request_of words ≡ Some request → HasFewFolders request
    by (HomeRun r) is = (request_sound words r (home_options words r is)).few
    by (Run r) is = tt
    by (Dump d) is = tt
    by (Asm a) is = tt
    by (MakeHome dir) is = tt
