-- The innermost class under way, which is the last of the list, has one base less left.
use Rattle.std.proofs.Common.{◌≡◌, ℕ, zero, suc, ◌+◌, ◌<◌, true, false, List, [], ◌∷◌, ◌++◌, length, reverse, slice_index_or, slice_set, refl, sym, ap, subst, ◌∙◌, arith}
use Rattle.std.proofs.lemmas.List.{reverse-append, reverse-reverse}
use Rattle.std.proofs.lemmas.Grind.{reverse_onto}
use Rattle.class_record.specs.Files.{Name}
use Rattle.class_linker.specs.declared.under_way.Frame.{Frame}
use Rattle.class_linker.specs.Kept.{names_under, with_done, advanced}
use Rattle.class_linker.specs.Paths.{HasBaseLeft}

set_last : (fs : List Frame) (f g : Frame) → slice_set (fs ++ f ∷ []) (length fs) g ≡ fs ++ g ∷ []
set_last [] f g = refl
set_last (h ∷ fs) f g = ap (λ (gs : List Frame). h ∷ gs) (set_last fs f g)

index_last : (fs : List Frame) (f d : Frame) → slice_index_or (fs ++ f ∷ []) (length fs) d ≡ f
index_last [] f d = refl
index_last (h ∷ fs) f d = index_last fs f d

length_last : (fs : List Frame) (f : Frame) → length (fs ++ f ∷ []) ≡ length fs + 1
length_last [] f = refl
length_last (h ∷ fs) f = omega (arith, length_last fs f)

last_advances : (fs : List Frame) (f x : Frame) (n : ℕ) → n ≡ length fs → x ≡ slice_index_or (fs ++ f ∷ []) n x → slice_set (fs ++ f ∷ []) n (with_done x (x.done + 1)) ≡ fs ++ with_done f (f.done + 1) ∷ []
last_advances fs f x n at is =
    let same : x ≡ f = is ∙ ap (λ (m : ℕ). slice_index_or (fs ++ f ∷ []) m x) at ∙ index_last fs f x in
    ap (λ (m : ℕ). slice_set (fs ++ f ∷ []) m (with_done x (x.done + 1))) at
    ∙ set_last fs f (with_done x (x.done + 1))
    ∙ ap (λ (y : Frame). fs ++ with_done y (y.done + 1) ∷ []) same

-- by the list in the other order
advances_by : (gs fs : List Frame) (x : Frame) (n : ℕ) → fs ≡ reverse gs → n + 1 ≡ length fs → x ≡ slice_index_or fs n x → reverse (slice_set fs n (with_done x (x.done + 1))) ≡ advanced gs
advances_by [] fs x n order at is = let none : length fs ≡ 0 = ap length order in absurd (omega (arith, at, none))
advances_by (g ∷ gs) fs x n order at is =
    let last : fs ≡ reverse gs ++ g ∷ [] = order ∙ reverse_onto gs g [] in
    let here : n ≡ length (reverse gs) = omega (arith, at, ap length last, length_last (reverse gs) g) in
    ap (λ (ys : List Frame). reverse (slice_set ys n (with_done x (x.done + 1)))) last
    ∙ ap reverse (last_advances (reverse gs) g x n here (subst (λ (ys : List Frame). x ≡ slice_index_or ys n x) last is))
    ∙ reverse-append (reverse gs) (with_done g (g.done + 1) ∷ [])
    ∙ ap (λ (ys : List Frame). with_done g (g.done + 1) ∷ ys) (reverse-reverse gs)

pub top_advances : (fs : List Frame) (x : Frame) (n : ℕ) → n + 1 ≡ length fs → x ≡ slice_index_or fs n x → reverse (slice_set fs n (with_done x (x.done + 1))) ≡ advanced (reverse fs)
top_advances fs x n at is = advances_by (reverse fs) fs x n (sym (reverse-reverse fs)) at is

-- The names stay.
pub names_stay : (fs : List Frame) (x : Frame) (n done : ℕ) → n < length fs → x ≡ slice_index_or fs n x → names_under (slice_set fs n (with_done x done)) ≡ names_under fs
names_stay [] x n done within is = refl
names_stay (f ∷ fs) x zero done within is = ap (λ (y : Frame). y.name ∷ names_under fs) is
names_stay (f ∷ fs) x (suc n) done within is = let less : n < length fs = omega (arith, within) in ap (λ (ns : List Name). f.name ∷ ns) (names_stay fs x n done less is)

-- ---- a base that is left

left_by : (gs fs : List Frame) (x : Frame) (n : ℕ) → fs ≡ reverse gs → n + 1 ≡ length fs → x ≡ slice_index_or fs n x → HasBaseLeft gs → x.done < 65_536
left_by [] fs x n order at is left = let none : length fs ≡ 0 = ap length order in absurd (omega (arith, at, none))
left_by (g ∷ gs) fs x n order at is left =
    let last : fs ≡ reverse gs ++ g ∷ [] = order ∙ reverse_onto gs g [] in
    let here : n ≡ length (reverse gs) = omega (arith, at, ap length last, length_last (reverse gs) g) in
    let same : x ≡ g = is ∙ ap (λ (ys : List Frame). slice_index_or ys n x) last ∙ ap (λ (m : ℕ). slice_index_or (reverse gs ++ g ∷ []) m x) here ∙ index_last (reverse gs) g x in
    subst (λ (y : Frame). y.done < 65_536) (sym same) (omega (arith, left.0, left.1))

-- How many bases of it are done stays a number of the code.
pub few_done : (fs : List Frame) (x : Frame) (n : ℕ) → n + 1 ≡ length fs → x ≡ slice_index_or fs n x → HasBaseLeft (reverse fs) → x.done < 65_536
few_done fs x n at is left = left_by (reverse fs) fs x n (sym (reverse-reverse fs)) at is left

-- ---- no class

pub none_advances : (fs : List Frame) (n : ℕ) → n ≡ length fs → (0 < n → false ≡ true) → reverse fs ≡ advanced (reverse fs)
none_advances [] n at none = refl
none_advances (f ∷ fs) n at none = absurd (let h = none (omega (arith, at)) in cc)
