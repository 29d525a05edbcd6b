-- Numbers that are kept by place.
use Rattle.std.proofs.Common.{◌≡◌, ℕ, ◌+◌, ◌<◌, ◌≤◌, ◌≢◌, zero, suc, Bool, true, false, cond, List, [], ◌∷◌, ◌++◌, length, drop, get_or, Option, Some, None, refl, sym, ◌∙◌, ap, arith, inl, inr, add-one, drop-cons}
use Rattle.std.specs.Prelude.{slice_get, slice_set, nat_eq}
use Rattle.std.proofs.lemmas.Bool.Decides.{eqb_tells}
use Rattle.std.proofs.lemmas.Option.{slice_get_within, slice_get-get_or}
use Rattle.std.proofs.lemmas.List.{drop_all}
use Rattle.verify_rules.specs.declared.types.Frame.{Frame}
use Rattle.verify_rules.specs.Flow.{Frames, declared_at}
use Rattle.verify_rules.specs.Walking.{Numbers, Puts, SameNumbers, number_at, frame_number}

-- ---- places

pub grown : (numbers : List (Option ℕ)) (at : ℕ) → number_at (numbers ++ None ∷ []) at ≡ number_at numbers at
grown [] zero = refl
grown [] (suc at) = refl
grown (n ∷ ns) zero = refl
grown (n ∷ ns) (suc at) = grown ns at

pub same_grown : (old new more : List (Option ℕ)) → SameNumbers old new → more ≡ new ++ None ∷ [] → SameNumbers old more
same_grown old new more h e at = ap (λ (ns : List (Option ℕ)). number_at ns at) e ∙ grown new at ∙ h at

set_there : (numbers : List (Option ℕ)) (place at number : ℕ) → place < length numbers → place ≡ at → number_at (slice_set numbers place (Some number)) at ≡ Some number
set_there [] place at number lt e = absurd (omega arith)
set_there (n ∷ ns) zero zero number lt e = refl
set_there (n ∷ ns) zero (suc at) number lt e = absurd (omega arith)
set_there (n ∷ ns) (suc place) zero number lt e = absurd (omega arith)
set_there (n ∷ ns) (suc place) (suc at) number lt e = set_there ns place at number (omega arith) (omega arith)

set_elsewhere : (numbers : List (Option ℕ)) (place at number : ℕ) → place ≢ at → number_at (slice_set numbers place (Some number)) at ≡ number_at numbers at
set_elsewhere [] zero at number ne = refl
set_elsewhere [] (suc place) at number ne = refl
set_elsewhere (n ∷ ns) zero zero number ne = absurd (ne refl)
set_elsewhere (n ∷ ns) zero (suc at) number ne = refl
set_elsewhere (n ∷ ns) (suc place) zero number ne = refl
set_elsewhere (n ∷ ns) (suc place) (suc at) number ne = set_elsewhere ns place at number (λ e. ne (ap suc e))

pub put_at : (numbers : List (Option ℕ)) (place number : ℕ) → place < length numbers → Puts place number numbers (slice_set numbers place (Some number))
put_at numbers place number lt at =
    elim (eqb_tells place at) [
      | inl h ↦ rw h.0 (set_there numbers place at number lt h.1)
      | inr h ↦ rw h.0 (set_elsewhere numbers place at number h.1)
    ]

pub put_grown : (old new last : List (Option ℕ)) (place number : ℕ) → SameNumbers old new → place < length new → last ≡ slice_set new place (Some number) → Puts place number old last
put_grown old new last place number same lt e at =
    ap (λ (ns : List (Option ℕ)). number_at ns at) e ∙ put_at new place number lt at ∙ ap (λ (n : Option ℕ). cond (nat_eq place at) (Some number) n) (same at)

-- ---- frames

pub drop_here : {A : Type 0} (xs : List A) (i : ℕ) (x : A) → x ≡ get_or xs i x → i < length xs → drop i xs ≡ x ∷ drop (i + 1) xs
drop_here xs i x e lt = rw (add-one, drop-cons xs i x) (ap (λ y. y ∷ drop (suc i) xs) (sym e))

pub drop_item : {A : Type 0} (xs : List A) (k : ℕ) (x : A) → slice_get xs k ≡ Some x → drop k xs ≡ x ∷ drop (k + 1) xs
drop_item [] k x e = absurd (omega (arith, slice_get_within [] k x e))
drop_item (y ∷ xs) k x e =
    let lt = slice_get_within (y ∷ xs) k x e in
    let at : Some (get_or (y ∷ xs) k x) ≡ Some x = sym (slice_get-get_or (y ∷ xs) k x lt) ∙ e in
    let same : x ≡ get_or (y ∷ xs) k x = cc in
    drop_here (y ∷ xs) k x same lt

pub none_numbered : (frames : Frames) (k : ℕ) → length frames ≤ k → Numbers frames k []
unfolding declared_at
none_numbered frames k le = record { finds = λ place. rw (drop_all k frames le) refl }

number_more : (frames : Frames) (k place : ℕ) (d : ℕ × Frame) (kept : Option ℕ) (b : Bool) → slice_get frames k ≡ Some d → frame_number frames kept ≡ declared_at (drop (k + 1) frames) place → frame_number frames (cond b (Some k) kept) ≡ cond b (Some d.1) (declared_at (drop (k + 1) frames) place)
number_more frames k place d kept true is h = rw is refl
number_more frames k place d kept false is h = h

pub one_numbered : (frames : Frames) (k : ℕ) (d : ℕ × Frame) (old new : List (Option ℕ)) → slice_get frames k ≡ Some d → Numbers frames (k + 1) old → Puts d.0 k old new → Numbers frames k new
unfolding declared_at
one_numbered frames k d old new is h p = record {
  finds = λ place.
      ap (frame_number frames) (p place) ∙ rw (drop_item frames k d is) (number_more frames k place d (number_at old place) (nat_eq d.0 place) is (h.finds place));
}
