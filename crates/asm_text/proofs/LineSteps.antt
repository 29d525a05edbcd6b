-- Lines of a text, one after the other.
use Rattle.std.proofs.Common.{◌≡◌, ℕ, suc, ◌+◌, ◌<◌, ◌≤◌, true, false, cond, List, [], ◌∷◌, ◌++◌, length, get_or, take, drop, map, refl, sym, ◌∙◌, arith, drop-cons, add-one, append_assoc}
use Rattle.std.specs.Prelude.{◌==◌}
use Rattle.std.proofs.lemmas.Bool.Decides.{nat_tests}
use Rattle.std.proofs.lemmas.List.{drop_all, append-nil}
use Rattle.asm_text.specs.Lines.{lines, joined, line_length}

same_ten : (b : ℕ) → b ≡ 10 → (b == 10) ≡ true
same_ten b h = rw h refl

other_than_ten : (b : ℕ) → ¬ (b ≡ 10) → (b == 10) ≡ false
other_than_ten b h = grind (arith, nat_tests)

pub line_on : (text : List ℕ) (n : ℕ) → n < length text → ¬ (get_or text n 0 ≡ 10) → line_length (drop n text) ≡ suc (line_length (drop (n + 1) text))
unfolding line_length
line_on text n lt h = let e = other_than_ten (get_or text n 0) h in rw (add-one, drop-cons text n 0, e) refl

pub line_stop : (text : List ℕ) (n : ℕ) → n < length text → get_or text n 0 ≡ 10 → line_length (drop n text) ≡ 0
unfolding line_length
line_stop text n lt h = let e = same_ten (get_or text n 0) h in rw (drop-cons text n 0, e) refl

pub line_none : (text : List ℕ) (n : ℕ) → length text ≤ n → line_length (drop n text) ≡ 0
unfolding line_length
line_none text n le = rw (drop_all n text le) refl

joined_first : (b : ℕ) (line : List ℕ) (others whole : List (List ℕ)) → whole ≡ line ∷ others → joined b whole ≡ (b ∷ line) ∷ others
joined_first b line others whole h = rw h refl

-- The first line is what stands before the first LF.
pub first_line : (text : List ℕ) → 0 < length text → lines text ≡ take (line_length text) text ∷ lines (drop (suc (line_length text)) text)
unfolding lines line_length
first_line [] h = absurd (omega arith)
first_line (b ∷ []) h = elim (b == 10) as (λ v. cond v ([] ∷ []) ((b ∷ []) ∷ []) ≡ take (cond v 0 1) (b ∷ []) ∷ lines (drop (suc (cond v 0 1)) (b ∷ []))) [ true ↦ refl | false ↦ refl ]
first_line (b ∷ x ∷ rest) h =
    let more = first_line (x ∷ rest) (omega arith) in
    elim (b == 10) as (λ v. cond v ([] ∷ lines (x ∷ rest)) (joined b (lines (x ∷ rest))) ≡ take (cond v 0 (suc (line_length (x ∷ rest)))) (b ∷ x ∷ rest) ∷ lines (drop (suc (cond v 0 (suc (line_length (x ∷ rest))))) (b ∷ x ∷ rest))) [
      | true ↦ refl
      | false ↦ joined_first b _ _ _ more
    ]

pub one_more : {A : Type 0} (f : List ℕ → A) (before : List A) (text line after : List ℕ) (total : List A) → 0 < length text → line ≡ take (line_length text) text → after ≡ drop (line_length text + 1) text → before ++ map f (lines text) ≡ total → (before ++ f line ∷ []) ++ map f (lines after) ≡ total
one_more f before text line after total some is rest so_far =
    let behind = rw add-one at rest in
    let one : before ++ map f (lines text) ≡ (before ++ f line ∷ []) ++ map f (lines after) = rw (first_line text some, ← is, ← behind) (sym (append_assoc before (f line ∷ []) (map f (lines after)))) in
    sym one ∙ so_far

pub no_more : {A : Type 0} (f : List ℕ → A) (before : List A) (text : List ℕ) (total : List A) → length text ≡ 0 → before ++ map f (lines text) ≡ total → before ≡ total
unfolding lines
no_more f before [] total none so_far = sym (append-nil before) ∙ so_far
no_more f before (b ∷ text) total none so_far = absurd (omega arith)
