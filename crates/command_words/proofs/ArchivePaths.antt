-- A dump's archive is at no path of a class file.
use Rattle.std.proofs.Common.{◌≡◌, List, [], ◌∷◌, ℕ, false, codes, Option, Some, None, ap, subst}
use Rattle.std.specs.Prelude.{is_none}
use Rattle.std.specs.Option.{option_map, option_or, unwrap_or}
use Rattle.jsa_base.specs.Reading.{◌>>=◌, when}
use Rattle.command_words.specs.declared.words.Sharing.{Sharing}
use Rattle.command_words.specs.Words.{ends_in, behind, archive_option, list_option, steps_option, sharing_option, folder_option, once, Taken, nothing, with_folder, with_archive, with_list, with_steps, with_sharing, with_word, with_words, options_from, is_dump, run_with, dump_with, internal_name, RunRequest, DumpRequest}
use Rattle.command_words.specs.Grammar.{request_with, request_by_options, request_of, Request, Run, Dump}
use Rattle.command_words.proofs.Options.{dump_options}
use Rattle.command_words.proofs.HomePaths.{IsApart, then_apart}

-- ---- an archive that was taken

abbrev KeepsApart : Option Taken → Type 0
KeepsApart None = Unit {0}
KeepsApart (Some t) = IsApart t.archive

archive_apart : (t : Taken) (given : Option (List ℕ)) → IsApart given → KeepsApart (with_archive t given)
archive_apart t given h = by t.archive given h
  where
    by : (had given : Option (List ℕ)) → IsApart given → KeepsApart (option_map (λ x. record { folder = t.folder; archive = Some x; list = t.list; steps = t.steps; sharing = t.sharing }) (once had given))
    by None None h = tt
    by None (Some path) h = h
    by (Some had) given h = tt

-- another option leaves the archive
made_apart : {X : Type 0} (o : Option X) (make : X → Taken) → ((x : X) → IsApart (make x).archive) → KeepsApart (option_map make o)
made_apart None make h = tt
made_apart (Some x) make h = h x

or_apart : (a b : Option Taken) → KeepsApart a → KeepsApart b → KeepsApart (option_or a b)
or_apart None b h k = k
or_apart (Some t) b h k = h

folder_apart : (t : Taken) (given : Option (List ℕ)) → IsApart t.archive → KeepsApart (with_folder t given)
folder_apart t given h = made_apart (once t.folder given) (λ x. record { folder = Some x; archive = t.archive; list = t.list; steps = t.steps; sharing = t.sharing }) (λ x. h)

list_apart : (t : Taken) (given : Option (List ℕ)) → IsApart t.archive → KeepsApart (with_list t given)
list_apart t given h = made_apart (once t.list given) (λ x. record { folder = t.folder; archive = t.archive; list = Some x; steps = t.steps; sharing = t.sharing }) (λ x. h)

steps_apart : (t : Taken) (given : Option ℕ) → IsApart t.archive → KeepsApart (with_steps t given)
steps_apart t given h = made_apart (once t.steps given) (λ x. record { folder = t.folder; archive = t.archive; list = t.list; steps = Some x; sharing = t.sharing }) (λ x. h)

sharing_apart : (t : Taken) (given : Option Sharing) → IsApart t.archive → KeepsApart (with_sharing t given)
sharing_apart t given h = made_apart (once t.sharing given) (λ x. record { folder = t.folder; archive = t.archive; list = t.list; steps = t.steps; sharing = Some x }) (λ x. h)

word_apart : (t : Taken) (word : List ℕ) → IsApart t.archive → KeepsApart (with_word t word)
unfolding with_word
word_apart t word h =
    let archive = with_archive t (archive_option word) in
    let list = with_list t (list_option word) in
    let steps = with_steps t (steps_option word) in
    let sharing = with_sharing t (sharing_option word) in
    or_apart archive (option_or list (option_or steps sharing)) (archive_apart t (archive_option word) (then_apart (behind (codes "-XX:SharedArchiveFile=") word)))
    (or_apart list (option_or steps sharing) (list_apart t (list_option word) h)
    (or_apart steps sharing (steps_apart t (steps_option word) h) (sharing_apart t (sharing_option word) h)))

words_apart : (t : Taken) (word second : List ℕ) → IsApart t.archive → KeepsApart (with_words t word second)
unfolding with_words
words_apart t word second h = folder_apart t (folder_option word second) h

-- ---- the options at the front of words

abbrev PairApart : Option (Taken × List (List ℕ)) → Type 0
PairApart None = Unit {0}
PairApart (Some p) = IsApart p.0.archive

pair_apart : (o : Option Taken) (go : Taken → Taken × List (List ℕ)) → KeepsApart o → ((t : Taken) → IsApart t.archive → IsApart (go t).0.archive) → PairApart (option_map go o)
pair_apart None go h k = tt
pair_apart (Some t) go h k = k t h

or_pair : (a b : Option (Taken × List (List ℕ))) → PairApart a → PairApart b → PairApart (option_or a b)
or_pair None b h k = k
or_pair (Some p) b h k = h

end_apart : (o : Option (Taken × List (List ℕ))) (d : Taken × List (List ℕ)) → PairApart o → IsApart d.0.archive → IsApart (unwrap_or o d).0.archive
end_apart None d h k = k
end_apart (Some p) d h k = h

options_apart : (t : Taken) (words : List (List ℕ)) → IsApart t.archive → IsApart (options_from t words).0.archive
unfolding options_from
options_apart t [] h = h
options_apart t (word ∷ []) h =
    end_apart (option_map (λ next. (next, [])) (with_word t word)) (t, word ∷ []) (pair_apart (with_word t word) (λ next. (next, [])) (word_apart t word h) (λ next k. k)) h
options_apart t (word ∷ second ∷ words) h =
    let two = option_map (λ next. options_from next words) (with_words t word second) in
    let one = option_map (λ next. options_from next (second ∷ words)) (with_word t word) in
    end_apart (option_or two one) (t, word ∷ second ∷ words)
    (or_pair two one
    (pair_apart (with_words t word second) (λ next. options_from next words) (words_apart t word second h) (λ next k. options_apart next words k))
    (pair_apart (with_word t word) (λ next. options_from next (second ∷ words)) (word_apart t word h) (λ next k. options_apart next (second ∷ words) k)))
    h

-- ---- a dump's archive

map_run : (o : Option RunRequest) (d : DumpRequest) → option_map Run o ≡ Some (Dump d) → ⊥
map_run None d e = cc
map_run (Some r) d e = cc

map_dump : (o : Option DumpRequest) (d : DumpRequest) → option_map Dump o ≡ Some (Dump d) → o ≡ Some d
map_dump None d e = absurd cc
map_dump (Some x) d e = let same : x ≡ d = cc in ap (λ (y : DumpRequest). Some y) same

abbrev archive_of : Option DumpRequest → Option (List ℕ)
archive_of o = option_map (λ d. d.archive) o

taken_archive : (t : Taken) (d : DumpRequest) → dump_with t ≡ Some d → t.archive ≡ Some d.archive
unfolding dump_with
taken_archive t d e = parts (when (is_dump t.sharing)) (when (is_none t.steps)) t.folder t.archive t.list (ap archive_of e)
  where
    parts : (dumps limitless : Option (Unit {0})) (folder archive list : Option (List ℕ))
        → archive_of (dumps >>= λ a. (limitless >>= λ b. (folder >>= λ f. (archive >>= λ p. (list >>= λ l. Some (record { folder = f; archive = p; list = l })))))) ≡ Some d.archive → archive ≡ Some d.archive
    parts None limitless folder archive list h = absurd cc
    parts (Some a) None folder archive list h = absurd cc
    parts (Some a) (Some b) None archive list h = absurd cc
    parts (Some a) (Some b) (Some f) None list h = absurd cc
    parts (Some a) (Some b) (Some f) (Some p) None h = absurd cc
    parts (Some a) (Some b) (Some f) (Some p) (Some l) h = h

with_apart : (t : Taken) (left : List (List ℕ)) (d : DumpRequest) → IsApart t.archive → request_with t left ≡ Some (Dump d) → ends_in (codes ".class") d.archive ≡ false
unfolding request_with
with_apart t [] d h e = subst IsApart (taken_archive t d (map_dump (dump_with t) d e)) h
with_apart t (main ∷ []) d h e = absurd (map_run (run_with t (internal_name main)) d e)
with_apart t (a ∷ b ∷ others) d h e = absurd cc

-- The archive of a dump doesn't end as a class file.
options_archive : (words : List (List ℕ)) (d : DumpRequest) → request_by_options words ≡ Some (Dump d) → ends_in (codes ".class") d.archive ≡ false
unfolding request_by_options
options_archive words d e = with_apart (options_from nothing words).0 (options_from nothing words).1 d (options_apart nothing words tt) e

pub dump_archive : (words : List (List ℕ)) (d : DumpRequest) → request_of words ≡ Some (Dump d) → ends_in (codes ".class") d.archive ≡ false
dump_archive words d e = options_archive words d (dump_options words d e)
