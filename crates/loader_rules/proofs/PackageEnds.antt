-- The package of a name, from its end.
use Rattle.std.proofs.Common.{◌≡◌, ◌≤◌, ◌<◌, ◌-◌, ℕ, suc, List, [], ◌∷◌, ◌++◌, length, take, get_or, Bool, true, false, ◌||◌, ◌==◌, if◌then◌else◌, refl, sym, ◌∙◌, ap, arith}
use Rattle.std.proofs.Math.Seq.{take-suc, take-length}
use Rattle.std.specs.List.{list_any}
use Rattle.loader_rules.specs.Packages.{package_of}

is_slash : ℕ → Bool
is_slash b = b == 47

either_true : (a b : Bool) → b ≡ true → (a || b) ≡ true
either_true true b h = refl
either_true false b h = h

slash_behind : (front : List ℕ) → list_any (λ b. b == 47) (front ++ 47 ∷ []) ≡ true
slash_behind [] = refl
slash_behind (b ∷ front) = either_true (b == 47) _ (slash_behind front)

pub package_slash : (front : List ℕ) → package_of (front ++ 47 ∷ []) ≡ front
unfolding package_of
package_slash [] = refl
package_slash (b ∷ front) = rw (slash_behind front) (ap (λ (bytes : List ℕ). b ∷ bytes) (package_slash front))

other_behind : (front : List ℕ) (last : ℕ) → (last == 47) ≡ false → list_any (λ b. b == 47) (front ++ last ∷ []) ≡ list_any (λ b. b == 47) front
other_behind [] last h = rw h refl
other_behind (b ∷ front) last h = ap (λ (r : Bool). b == 47 || r) (other_behind front last h)

same_front : (b : ℕ) (t s : Bool) (xs ys : List ℕ) → t ≡ s → xs ≡ ys → (if t then b ∷ xs else []) ≡ (if s then b ∷ ys else [])
same_front b t s xs ys e f = cc

pub package_other : (front : List ℕ) (last : ℕ) → (last == 47) ≡ false → package_of (front ++ last ∷ []) ≡ package_of front
unfolding package_of
package_other [] last h = refl
package_other (b ∷ front) last h = same_front b _ _ _ _ (other_behind front last h) (package_other front last h)

ends : (xs : List ℕ) (d : ℕ) → 1 ≤ length xs → xs ≡ take (length xs - 1) xs ++ get_or xs (length xs - 1) d ∷ []
ends xs d h =
    let e : suc (length xs - 1) ≡ length xs = omega arith in
    sym (take-length xs) ∙ ap (λ (n : ℕ). take n xs) (sym e) ∙ take-suc xs (length xs - 1) d (omega arith)

pub at_slash : (xs : List ℕ) (d : ℕ) → 1 ≤ length xs → get_or xs (length xs - 1) d ≡ 47 → take (length xs - 1) xs ≡ package_of xs
at_slash xs d h last =
    let e : xs ≡ take (length xs - 1) xs ++ 47 ∷ [] = ends xs d h ∙ ap (λ (b : ℕ). take (length xs - 1) xs ++ b ∷ []) last in
    sym (ap package_of e ∙ package_slash (take (length xs - 1) xs))

pub at_other : (xs : List ℕ) (d : ℕ) → 1 ≤ length xs → (get_or xs (length xs - 1) d == 47) ≡ false → package_of (take (length xs - 1) xs) ≡ package_of xs
at_other xs d h last = sym (ap package_of (ends xs d h) ∙ package_other (take (length xs - 1) xs) (get_or xs (length xs - 1) d) last)

pub of_nothing : (xs : List ℕ) → length xs < 1 → xs ≡ package_of xs
unfolding package_of
of_nothing [] h = refl
of_nothing (x ∷ xs) h = absurd (omega arith)
