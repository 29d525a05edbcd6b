-- A name that is put together from its segments.
use Rattle.std.proofs.Common.{◌≡◌, ℕ, zero, suc, ◌==◌, ◌&&◌, List, [], ◌∷◌, ◌++◌, length, take, Bool, true, false, not, cond, codes, refl, ap, ◌∙◌, sym, append_assoc}
use Rattle.std.proofs.Math.Dec.{eqb-suc-zero}
use Rattle.std.specs.List.{list_all, join_with_byte}
use Rattle.command_words.specs.Words.{is_segment}

-- How the code joins them, one by one: the first segment stands alone, and a further one behind a slash.
abbrev pub with_segment : List ℕ → List ℕ → List ℕ
with_segment name segment = cond (length name == 0) segment (name ++ codes "/" ++ segment)

both_left : (a b : Bool) → (a && b) ≡ true → a ≡ true
both_left true b h = refl
both_left false b h = h

both_right : (a b : Bool) → (a && b) ≡ true → b ≡ true
both_right true b h = h
both_right false b h = absurd cc

false_from_not : (b : Bool) → not b ≡ true → b ≡ false
false_from_not true h = absurd cc
false_from_not false h = refl

-- Segments at the front of segments are segments.
pub front_all : (n : ℕ) (segments : List (List ℕ)) → list_all is_segment segments ≡ true → list_all is_segment (take n segments) ≡ true
front_all zero segments h = refl
front_all (suc n) [] h = refl
front_all (suc n) (s ∷ segments) h =
    let here : is_segment s ≡ true = both_left _ _ h in
    let rest : list_all is_segment (take n segments) ≡ true = front_all n segments (both_right _ _ h) in
    rw (here, rest)

join_more : (front : List (List ℕ)) (first segment : List ℕ) → join_with_byte 47 (first ∷ front ++ segment ∷ []) ≡ join_with_byte 47 (first ∷ front) ++ codes "/" ++ segment
join_more [] first segment = sym (append_assoc first (codes "/") segment)
join_more (next ∷ front) first segment = ap (λ (xs : List ℕ). first ++ 47 ∷ xs) (join_more front next segment) ∙ simp append_assoc

not_empty : (front : List (List ℕ)) (first : List ℕ) → is_segment first ≡ true → (length (join_with_byte 47 (first ∷ front)) == 0) ≡ false
not_empty [] first h = false_from_not _ (both_left _ _ h)
not_empty (next ∷ front) [] h = eqb-suc-zero _
not_empty (next ∷ front) (b ∷ first) h = eqb-suc-zero _

-- One more segment behind segments.
pub joined : (front : List (List ℕ)) (segment : List ℕ) → list_all is_segment front ≡ true → with_segment (join_with_byte 47 front) segment ≡ join_with_byte 47 (front ++ segment ∷ [])
joined [] segment h = refl
joined (first ∷ front) segment h =
    let name = join_with_byte 47 (first ∷ front) in
    ap (λ (b : Bool). cond b segment (name ++ codes "/" ++ segment)) (not_empty front first (both_left _ _ h)) ∙ sym (join_more front first segment)
