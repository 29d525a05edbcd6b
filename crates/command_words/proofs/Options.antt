-- The options at the front of words, one at a time, and what they ask for.
use Rattle.std.proofs.Common.{◌≡◌, ◌≤◌, ◌-◌, ℕ, suc, arith, List, [], ◌∷◌, length, take, drop, get_or, Option, Some, None, refl, sym, ap, ◌∙◌}
use Rattle.std.proofs.Math.Seq.{take-length}
use Rattle.std.specs.Option.{option_map, option_or, unwrap_or}
use Rattle.command_words.specs.Words.{Taken, nothing, with_word, with_words, options_from, internal_name, run_with, dump_with, RunRequest, DumpRequest, AsmRequest}
use Rattle.command_words.specs.HomeWords.{HomeRequest, HomeOptions, with_option, with_path_option, home_options_from, home_run_request, make_home_request}
use Rattle.command_words.specs.Grammar.{Request, Run, Dump, Asm, HomeRun, MakeHome, request_with, asm_request, request_by_options, request_of}

abbrev by_two : Taken → List ℕ → List ℕ → List (List ℕ) → Option Taken → Option Taken → Taken × List (List ℕ)
by_two t word second words two one =
    unwrap_or (option_or (option_map (λ next. options_from next words) two) (option_map (λ next. options_from next (second ∷ words)) one)) (t, word ∷ second ∷ words)

by_two_is : (t : Taken) (word second : List ℕ) (words : List (List ℕ)) → options_from t (word ∷ second ∷ words) ≡ by_two t word second words (with_words t word second) (with_word t word)
unfolding options_from
by_two_is t word second words = refl

-- Two words are an option.
pub two_taken : (t next : Taken) (word second : List ℕ) (words : List (List ℕ)) → Some next ≡ with_words t word second → options_from t (word ∷ second ∷ words) ≡ options_from next words
two_taken t next word second words e = by_two_is t word second words ∙ ap (λ (o : Option Taken). by_two t word second words o (with_word t word)) (sym e)

-- They aren't, and the first is one.
pub one_taken : (t next : Taken) (word second : List ℕ) (words : List (List ℕ)) → None ≡ with_words t word second → Some next ≡ with_word t word → options_from t (word ∷ second ∷ words) ≡ options_from next (second ∷ words)
one_taken t next word second words none e =
    by_two_is t word second words
    ∙ ap (λ (o : Option Taken). by_two t word second words o (with_word t word)) (sym none)
    ∙ ap (by_two t word second words None) (sym e)

-- ---- the same for the options of a run over a home

abbrev home_by_two : HomeOptions → List ℕ → List ℕ → List (List ℕ) → Option HomeOptions → Option HomeOptions → HomeOptions × List (List ℕ)
home_by_two o word second words two one =
    unwrap_or (option_or (option_map (λ next. home_options_from next words) two) (option_map (λ next. home_options_from next (second ∷ words)) one)) (o, word ∷ second ∷ words)

home_by_two_is : (o : HomeOptions) (word second : List ℕ) (words : List (List ℕ)) → home_options_from o (word ∷ second ∷ words) ≡ home_by_two o word second words (with_path_option o word second) (with_option o word)
unfolding home_options_from
home_by_two_is o word second words = refl

pub two_given : (o next : HomeOptions) (word second : List ℕ) (words : List (List ℕ)) → Some next ≡ with_path_option o word second → home_options_from o (word ∷ second ∷ words) ≡ home_options_from next words
two_given o next word second words e = home_by_two_is o word second words ∙ ap (λ (two : Option HomeOptions). home_by_two o word second words two (with_option o word)) (sym e)

pub one_given : (o next : HomeOptions) (word second : List ℕ) (words : List (List ℕ)) → None ≡ with_path_option o word second → Some next ≡ with_option o word → home_options_from o (word ∷ second ∷ words) ≡ home_options_from next (second ∷ words)
one_given o next word second words none e =
    home_by_two_is o word second words
    ∙ ap (λ (two : Option HomeOptions). home_by_two o word second words two (with_option o word)) (sym none)
    ∙ ap (home_by_two o word second words None) (sym e)

-- ---- patterns

-- What a pattern of a first item and the others gives.
pub first_of : {A : Type 0} (xs : List A) (x : A) → x ≡ get_or xs 0 x → 1 ≤ length xs → xs ≡ x ∷ take (length xs - 1) (drop 1 xs)
first_of [] x e h = absurd (omega (arith, h))
first_of {A} (y ∷ ys) x e h =
    let less : suc (length ys) - 1 ≡ length ys = omega arith in
    ap (λ (a : A). a ∷ ys) (sym e) ∙ ap (λ (l : List A). x ∷ l) (sym (ap (λ (n : ℕ). take n ys) less ∙ take-length ys))

-- ---- what a run with an archive option or a dump asks for is asked for by options

pub run_options : (words : List (List ℕ)) (r : RunRequest) → request_of words ≡ Some (Run r) → request_by_options words ≡ Some (Run r)
unfolding request_of
run_options words r e = by (asm_request words) (make_home_request words) (home_run_request words) (request_by_options words) e
  where
    by : (asm : Option AsmRequest) (home : Option (List ℕ)) (run : Option HomeRequest) (o : Option Request)
        → option_or (option_map Asm asm) (option_or (option_map MakeHome home) (option_or (option_map HomeRun run) o)) ≡ Some (Run r) → o ≡ Some (Run r)
    by None None None o h = h
    by None None (Some x) o h = absurd cc
    by None (Some x) run o h = absurd cc
    by (Some x) home run o h = absurd cc

pub dump_options : (words : List (List ℕ)) (d : DumpRequest) → request_of words ≡ Some (Dump d) → request_by_options words ≡ Some (Dump d)
unfolding request_of
dump_options words d e = by (asm_request words) (make_home_request words) (home_run_request words) (request_by_options words) e
  where
    by : (asm : Option AsmRequest) (home : Option (List ℕ)) (run : Option HomeRequest) (o : Option Request)
        → option_or (option_map Asm asm) (option_or (option_map MakeHome home) (option_or (option_map HomeRun run) o)) ≡ Some (Dump d) → o ≡ Some (Dump d)
    by None None None o h = h
    by None None (Some x) o h = absurd cc
    by None (Some x) run o h = absurd cc
    by (Some x) home run o h = absurd cc

by_options_home : (t : Taken) (left : List (List ℕ)) (r : HomeRequest) → request_with t left ≡ Some (HomeRun r) → ⊥
unfolding request_with
by_options_home t [] r e = dump (dump_with t) e
  where
    dump : (o : Option DumpRequest) → option_map Dump o ≡ Some (HomeRun r) → ⊥
    dump None h = cc
    dump (Some x) h = cc
by_options_home t (main ∷ []) r e = run (run_with t (internal_name main)) e
  where
    run : (o : Option RunRequest) → option_map Run o ≡ Some (HomeRun r) → ⊥
    run None h = cc
    run (Some x) h = cc
by_options_home t (a ∷ b ∷ others) r e = cc

no_home : (words : List (List ℕ)) (r : HomeRequest) → request_by_options words ≡ Some (HomeRun r) → ⊥
unfolding request_by_options
no_home words r e = by_options_home (options_from nothing words).0 (options_from nothing words).1 r e

pub home_options : (words : List (List ℕ)) (r : HomeRequest) → request_of words ≡ Some (HomeRun r) → home_run_request words ≡ Some r
unfolding request_of
home_options words r e = by (asm_request words) (make_home_request words) (home_run_request words) (request_by_options words) (no_home words r) e
  where
    by : (asm : Option AsmRequest) (home : Option (List ℕ)) (run : Option HomeRequest) (o : Option Request) → (o ≡ Some (HomeRun r) → ⊥)
        → option_or (option_map Asm asm) (option_or (option_map MakeHome home) (option_or (option_map HomeRun run) o)) ≡ Some (HomeRun r) → run ≡ Some r
    by None None None o other h = absurd (other h)
    by None None (Some x) o other h = let same : x ≡ r = cc in ap (λ (y : HomeRequest). Some y) same
    by None (Some x) run o other h = absurd cc
    by (Some x) home run o other h = absurd cc
