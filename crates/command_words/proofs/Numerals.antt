-- Numbers in words, as they are read.
use Rattle.std.proofs.Common.{◌≡◌, ◌≢◌, ◌<◌, ◌≤◌, ◌^◌, arith, subst, ℕ, ◌++◌, ◌==◌, List, [], ◌∷◌, length, drop, Bool, true, false, not, ◌&&◌, Option, Some, None, cond, refl, sym, ap, ◌∙◌}
use Rattle.std.specs.Prelude.{MatchOption, nat_le, nat_lt, Result, Ok, Err}
use Rattle.std.specs.Char.{is_digit, digit_value}
use Rattle.std.specs.List.{list_all}
use Rattle.std.specs.Result.{OkIff, result_ok}
use Rattle.std.specs.Str.Parse.{AllDigits, IsNumeral, digits_value, without_leading_plus, ParsesUnsigned}
use Rattle.std.specs.Option.{option_copied}
use Rattle.std.specs.Str.Pattern.{FindsTextPrefix, StripsPrefix}
use denote.Ref.{Bor}
use Rattle.std.proofs.lemmas.Bool.{eqb-true, eq-eqb, ltb-true, lt-ltb, and_parts}
use Rattle.command_words.specs.Words.{behind, is_numeral, numeral}

eq_refl : (n : ℕ) → (n == n) ≡ true
eq_refl n = eq-eqb n n refl

pub behind_front : (front rest : List ℕ) → behind front (front ++ rest) ≡ Some rest
behind_front [] rest = refl
behind_front (f ∷ front) rest = rw (eq_refl f) (behind_front front rest)

behind_step : (f b : ℕ) (front text : List ℕ) (t : Bool) → (f == b) ≡ t → (f ≡ b → behind front text ≡ None) → cond t (behind front text) None ≡ None
behind_step f b front text true e h = h (eqb-true f b e)
behind_step f b front text false e h = refl

behind_none : (front text : List ℕ) → ((rest : List ℕ) → text ≢ front ++ rest) → behind front text ≡ None
behind_none [] text h = absurd (h text refl)
behind_none (f ∷ front) [] h = refl
behind_none (f ∷ front) (b ∷ text) h =
    behind_step f b front text (f == b) refl (λ e. behind_none front text (λ rest q. h rest (ap (λ (n : ℕ). n ∷ text) (sym e) ∙ ap (λ (l : List ℕ). f ∷ l) q)))

-- what std's search for a front gives
pub behind_of : (front text : List ℕ) (r : Option (Bor (List ℕ))) → MatchOption r (FindsTextPrefix front text None) (λ x. StripsPrefix (FindsTextPrefix front) text x.now) → option_copied r ≡ behind front text
behind_of front text None h = sym (behind_none front text h)
behind_of front text (Some x) h =
    let rest = drop h.0 text in
    sym (ap (behind front) h.1.1 ∙ behind_front front rest ∙ ap Some (sym h.2))

all_digits : (radix : ℕ) (digits : List ℕ) → list_all (λ c. is_digit c radix) digits ≡ true → AllDigits radix digits
all_digits radix [] h = tt
all_digits radix (c ∷ digits) h = let p = and_parts _ _ h in (ltb-true (digit_value c) radix p.0, all_digits radix digits p.1)

-- A digit is no plus sign.
no_sign : (radix c : ℕ) → radix ≤ 36 → digit_value c < radix → (c == 43) ≡ false
no_sign radix c le lt = step (c == 43) refl
  where
    step : (t : Bool) → (c == 43) ≡ t → t ≡ false
    step true e = let plus : digit_value c ≡ 36 = ap digit_value (eqb-true c 43 e) in absurd (omega (arith, plus, le, lt))
    step false e = refl

no_plus : (radix : ℕ) (digits : List ℕ) → radix ≤ 36 → AllDigits radix digits → 0 < length digits → without_leading_plus digits ≡ digits
no_plus radix [] le all some = absurd (omega (arith, some))
no_plus radix (c ∷ digits) le all some = ap (λ (b : Bool). drop (cond b 1 0) (c ∷ digits)) (no_sign radix c le all.0)

not_empty : (digits : List ℕ) → not (length digits == 0) ≡ true → 0 < length digits
not_empty [] h = absurd cc
not_empty (c ∷ digits) h = omega arith

pub no_numeral : (radix most : ℕ) (digits : List ℕ) → is_numeral radix most digits ≡ false → numeral radix most digits ≡ None
no_numeral radix most digits h = ap (λ (b : Bool). cond (b && nat_lt (digits_value radix digits) (2 ^ 64)) (Some (digits_value radix digits)) None) h

-- What std reads of a numeral is the number that it writes, where it is small enough.
pub numeral_of : {E : Type 0} (radix most : ℕ) (digits : List ℕ) (r : Result ℕ E) → radix ≤ 36 → is_numeral radix most digits ≡ true → ParsesUnsigned 64 radix digits r → result_ok r ≡ numeral radix most digits
numeral_of {E} radix most digits r le is read =
    let parts = and_parts (not (length digits == 0) && nat_le (length digits) most) (list_all (λ c. is_digit c radix) digits) is in
    let ends = and_parts (not (length digits == 0)) (nat_le (length digits) most) parts.0 in
    let all = parts.1 in
    let digits_all = all_digits radix digits all in
    let some = not_empty digits ends.0 in
    let plain : without_leading_plus digits ≡ digits = no_plus radix digits le digits_all some in
    let plainly : OkIff r (IsNumeral radix digits × (digits_value radix digits < 2 ^ 64)) (digits_value radix digits) =
    subst (λ (ds : List ℕ). OkIff r (IsNumeral radix ds × (digits_value radix ds < 2 ^ 64)) (digits_value radix ds)) plain read in
    by_answer r (nat_lt (digits_value radix digits) (2 ^ 64)) refl plainly (some, digits_all)
    ∙ sym (ap (λ (b : Bool). cond (b && nat_lt (digits_value radix digits) (2 ^ 64)) (Some (digits_value radix digits)) None) is)
  where
    by_answer : (r : Result ℕ E) (t : Bool) → nat_lt (digits_value radix digits) (2 ^ 64) ≡ t → OkIff r (IsNumeral radix digits × (digits_value radix digits < 2 ^ 64)) (digits_value radix digits) → IsNumeral radix digits
        → result_ok r ≡ cond (nat_lt (digits_value radix digits) (2 ^ 64)) (Some (digits_value radix digits)) None
    by_answer (Ok x) t e h is = ap Some h.1 ∙ sym (ap (λ (b : Bool). cond b (Some (digits_value radix digits)) None) (lt-ltb (digits_value radix digits) (2 ^ 64) h.0.1))
    by_answer (Err f) true e h is = absurd (h (is, ltb-true (digits_value radix digits) (2 ^ 64) e))
    by_answer (Err f) false e h is = sym (ap (λ (b : Bool). cond b (Some (digits_value radix digits)) None) e)
