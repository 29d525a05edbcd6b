-- Tokens and lines that were joined are cut apart again.
use Rattle.std.proofs.Common.{◌≡◌, ℕ, Bool, true, false, cond, List, [], ◌∷◌, ◌++◌, refl, sym, ap, ◌∙◌, append_assoc, append-nil}
use Rattle.std.specs.Prelude.{◌==◌, not}
use Rattle.std.specs.List.{list_all}
use Rattle.std.proofs.lemmas.Bool.{and_parts}
use Rattle.asm_text.specs.declared.tokens.Mode.{Mode}
use Rattle.asm_text.specs.declared.tokens.Mode.TheVariants.{Between, Plain, Quoted, Escaped}
use Rattle.asm_text.specs.declared.tokens.Cutting.{Cutting}
use Rattle.asm_text.specs.Lines.{lines, joined, mode_after, is_between, closed, taken, cut}
use Rattle.asm_text.specs.Laws.{stays_in, mode_behind, is_plain, is_token, spaced, TokensAreCut, ended, has_no_end, LinesAreCut}

not_false : (b : Bool) → not b ≡ true → b ≡ false
not_false true h = absurd cc
not_false false h = refl

-- ---- tokens

abbrev state : List (List ℕ) → List ℕ → Mode → Cutting
state done token mode = record { tokens = done; token = token; mode = mode }

cut_append : (s : Cutting) (a b : List ℕ) → cut s (a ++ b) ≡ cut (cut s a) b
unfolding cut
cut_append s [] b = refl
cut_append s (x ∷ a) b = cut_append (taken x s) a b

one_more : (b : ℕ) (done : List (List ℕ)) (token : List ℕ) (mode : Mode) → is_between (mode_after mode b) ≡ false → taken b (state done token mode) ≡ state done (token ++ b ∷ []) (mode_after mode b)
one_more b done token mode h = ap (λ (v : Bool). cond v (state (closed (state done token mode)) [] (mode_after mode b)) (state done (token ++ b ∷ []) (mode_after mode b))) h

-- Where no space ends it, a token grows.
grows : (done : List (List ℕ)) (token : List ℕ) (mode : Mode) (t : List ℕ) → stays_in mode t ≡ true → cut (state done token mode) t ≡ state done (token ++ t) (mode_behind mode t)
unfolding cut stays_in mode_behind
grows done token mode [] h = ap (λ (k : List ℕ). state done k mode) (sym (append-nil token))
grows done token mode (b ∷ t) h =
    let p = and_parts (not (is_between (mode_after mode b))) (stays_in (mode_after mode b) t) h in
    ap (λ (s : Cutting). cut s t) (one_more b done token mode (not_false (is_between (mode_after mode b)) p.0))
    ∙ grows done (token ++ b ∷ []) (mode_after mode b) t p.1
    ∙ ap (λ (k : List ℕ). state done k (mode_behind (mode_after mode b) t)) (append_assoc token (b ∷ []) t)

plain_mode : (m : Mode) → is_plain m ≡ true → m ≡ Plain
plain_mode Between h = absurd cc
plain_mode Plain h = refl
plain_mode Quoted h = absurd cc
plain_mode Escaped h = absurd cc

one_token : (done : List (List ℕ)) (t : List ℕ) → is_token t ≡ true → cut (state done [] Between) t ≡ state done t Plain
one_token done t h =
    let p = and_parts (stays_in Between t) (is_plain (mode_behind Between t)) h in
    grows done [] Between t p.0 ∙ ap (λ (m : Mode). state done t m) (plain_mode (mode_behind Between t) p.1)

all_tokens : (done ts : List (List ℕ)) → list_all is_token ts ≡ true → cut (state done [] Between) (spaced ts) ≡ state (done ++ ts) [] Between
unfolding cut spaced
all_tokens done [] h = ap (λ (ds : List (List ℕ)). state ds [] Between) (sym (append-nil done))
all_tokens done (t ∷ ts) h =
    let p = and_parts (is_token t) (list_all is_token ts) h in
    cut_append (state done [] Between) t (32 ∷ spaced ts)
    ∙ ap (λ (s : Cutting). cut s (32 ∷ spaced ts)) (one_token done t p.0)
    ∙ all_tokens (done ++ t ∷ []) ts p.1
    ∙ ap (λ (ds : List (List ℕ)). state ds [] Between) (append_assoc done (t ∷ []) ts)

pub tokens_cut : TokensAreCut
tokens_cut ts h = ap closed (all_tokens [] ts h)

-- ---- lines

first_cut : (line rest : List ℕ) → has_no_end line ≡ true → lines (line ++ (10 ∷ rest)) ≡ line ∷ lines rest
unfolding lines
first_cut [] rest h = refl
first_cut (b ∷ line) rest h =
    let p = and_parts (not (b == 10)) (has_no_end line) h in
    ap (λ (v : Bool). cond v ([] ∷ lines (line ++ (10 ∷ rest))) (joined b (lines (line ++ (10 ∷ rest))))) (not_false (b == 10) p.0)
    ∙ ap (joined b) (first_cut line rest p.1)

only_cut : (b : ℕ) (line : List ℕ) → has_no_end (b ∷ line) ≡ true → lines (b ∷ line) ≡ (b ∷ line) ∷ []
unfolding lines
only_cut b [] h =
    let p = and_parts (not (b == 10)) true h in
    ap (λ (v : Bool). cond v ([] ∷ []) ((b ∷ []) ∷ [])) (not_false (b == 10) p.0)
only_cut b (c ∷ line) h =
    let p = and_parts (not (b == 10)) (has_no_end (c ∷ line)) h in
    ap (λ (v : Bool). cond v ([] ∷ lines (c ∷ line)) (joined b (lines (c ∷ line)))) (not_false (b == 10) p.0)
    ∙ ap (joined b) (only_cut c line p.1)

each_line : (ls : List (List ℕ)) → list_all has_no_end ls ≡ true → lines (ended ls) ≡ ls
unfolding lines ended
each_line [] h = refl
each_line (line ∷ rest) h =
    let p = and_parts (has_no_end line) (list_all has_no_end rest) h in
    first_cut line (ended rest) p.0 ∙ ap (λ (ls : List (List ℕ)). line ∷ ls) (each_line rest p.1)

last_line : (ls : List (List ℕ)) (b : ℕ) (last : List ℕ) → list_all has_no_end ls ≡ true → has_no_end (b ∷ last) ≡ true → lines (ended ls ++ b ∷ last) ≡ ls ++ (b ∷ last) ∷ []
unfolding ended
last_line [] b last h k = only_cut b last k
last_line (line ∷ rest) b last h k =
    let p = and_parts (has_no_end line) (list_all has_no_end rest) h in
    ap lines (append_assoc line (10 ∷ ended rest) (b ∷ last))
    ∙ first_cut line (ended rest ++ b ∷ last) p.0
    ∙ ap (λ (ls : List (List ℕ)). line ∷ ls) (last_line rest b last p.1 k)

pub lines_cut : LinesAreCut
lines_cut = record { each = each_line; last = last_line }
