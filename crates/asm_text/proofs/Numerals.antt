-- Numbers of a text, as std reads them.
use Rattle.std.proofs.Common.{◌≡◌, ◌<◌, ◌≤◌, ◌^◌, arith, subst, ℕ, ◌==◌, List, [], ◌∷◌, length, drop, Bool, true, false, not, ◌&&◌, ◌||◌, Option, Some, None, cond, refl, sym, ap, ◌∙◌}
use Rattle.std.specs.Prelude.{nat_le, nat_lt, Result, Ok, Err}
use Rattle.std.specs.Char.{is_digit, digit_value}
use Rattle.std.specs.List.{list_all, All}
use Rattle.std.specs.Result.{OkIff, result_ok}
use Rattle.std.specs.Str.{IsUtf8}
use Rattle.std.specs.Str.Parse.{AllDigits, IsNumeral, digits_value, without_leading_plus, ParsesUnsigned}
use Rattle.std.proofs.lemmas.Bool.{eqb-true, ltb-true, lt-ltb, and_parts}
use Rattle.std.proofs.Math.Dec.{eqb-suc-zero}
use Rattle.std.proofs.lemmas.Bool.Decides.{nat_tests}
use Rattle.std.proofs.lemmas.Int.Digits.{digits_value-lt}
use Rattle.std.proofs.lemmas.Str.{IsUtf8-from_ascii}
use Rattle.std.proofs.lemmas.Str.Ascii.{IsAscii-from_all}
use Rattle.std.proofs.lemmas.List.Sums.{AllPass-from_list_all}
use Rattle.jsa_base.proofs.Codecs.{some_is}
use Rattle.asm_text.specs.Numbers.{is_natural, is_numeral, number, natural, four_digits}

all_digits : (radix : ℕ) (digits : List ℕ) → list_all (λ c. is_digit c radix) digits ≡ true → AllDigits radix digits
all_digits radix [] h = tt
all_digits radix (c ∷ digits) h = let p = and_parts _ _ h in (ltb-true (digit_value c) radix p.0, all_digits radix digits p.1)

-- A digit is no plus sign.
no_sign : (radix c : ℕ) → radix ≤ 36 → digit_value c < radix → (c == 43) ≡ false
no_sign radix c le lt = step (c == 43) refl
  where
    step : (t : Bool) → (c == 43) ≡ t → t ≡ false
    step true e = let plus : digit_value c ≡ 36 = ap digit_value (eqb-true c 43 e) in absurd (omega (arith, plus, le, lt))
    step false e = refl

no_plus : (radix : ℕ) (digits : List ℕ) → radix ≤ 36 → AllDigits radix digits → 0 < length digits → without_leading_plus digits ≡ digits
no_plus radix [] le all some = absurd (omega (arith, some))
no_plus radix (c ∷ digits) le all some = ap (λ (b : Bool). drop (cond b 1 0) (c ∷ digits)) (no_sign radix c le all.0)

not_empty : (digits : List ℕ) → not (length digits == 0) ≡ true → 0 < length digits
not_empty [] h = absurd cc
not_empty (c ∷ digits) h = omega arith

-- A digit is ASCII.
low_digit : (c : ℕ) → digit_value c < 36 → c < 128
low_digit c h = grind (arith, nat_tests)

all_low : (radix : ℕ) (digits : List ℕ) → radix ≤ 36 → list_all (λ c. is_digit c radix) digits ≡ true → All (λ b. b < 128) digits
all_low radix digits le h = λ k d lt. let t = ltb-true _ radix (AllPass-from_list_all (λ c. is_digit c radix) digits h k d lt) in low_digit _ (omega (arith, t, le))

pub utf8_numeral : (radix : ℕ) (text : List ℕ) → radix ≤ 36 → is_numeral radix text ≡ true → IsUtf8 text
utf8_numeral radix text le is =
    let parts = and_parts (not (length text == 0)) (list_all (λ c. is_digit c radix) text) is in
    IsUtf8-from_ascii text (IsAscii-from_all text (all_low radix text le parts.1))

pub no_number : (radix : ℕ) (text : List ℕ) → is_numeral radix text ≡ false → number radix text ≡ None
no_number radix text h = ap (λ (b : Bool). cond (b && nat_lt (digits_value radix text) (2 ^ 64)) (Some (digits_value radix text)) None) h

-- What std reads of a numeral is the number that it writes, where it is small enough.
pub number_of : {E : Type 0} (radix : ℕ) (digits : List ℕ) (r : Result ℕ E) → radix ≤ 36 → is_numeral radix digits ≡ true → ParsesUnsigned 64 radix digits r → result_ok r ≡ number radix digits
number_of {E} radix digits r le is read =
    let parts = and_parts (not (length digits == 0)) (list_all (λ c. is_digit c radix) digits) is in
    let digits_all = all_digits radix digits parts.1 in
    let some = not_empty digits parts.0 in
    let plain : without_leading_plus digits ≡ digits = no_plus radix digits le digits_all some in
    let plainly : OkIff r (IsNumeral radix digits × (digits_value radix digits < 2 ^ 64)) (digits_value radix digits) =
    subst (λ (ds : List ℕ). OkIff r (IsNumeral radix ds × (digits_value radix ds < 2 ^ 64)) (digits_value radix ds)) plain read in
    by_answer r (nat_lt (digits_value radix digits) (2 ^ 64)) refl plainly (some, digits_all)
    ∙ sym (ap (λ (b : Bool). cond (b && nat_lt (digits_value radix digits) (2 ^ 64)) (Some (digits_value radix digits)) None) is)
  where
    by_answer : (r : Result ℕ E) (t : Bool) → nat_lt (digits_value radix digits) (2 ^ 64) ≡ t → OkIff r (IsNumeral radix digits × (digits_value radix digits < 2 ^ 64)) (digits_value radix digits) → IsNumeral radix digits
        → result_ok r ≡ cond (nat_lt (digits_value radix digits) (2 ^ 64)) (Some (digits_value radix digits)) None
    by_answer (Ok x) t e h is = ap Some h.1 ∙ sym (ap (λ (b : Bool). cond b (Some (digits_value radix digits)) None) (lt-ltb (digits_value radix digits) (2 ^ 64) h.0.1))
    by_answer (Err f) true e h is = absurd (h (is, ltb-true (digits_value radix digits) (2 ^ 64) e))
    by_answer (Err f) false e h is = sym (ap (λ (b : Bool). cond b (Some (digits_value radix digits)) None) e)

-- ---- what is asked of the number

abbrev pub within : ℕ → Option ℕ → Option ℕ
within limit (Some n) = cond (nat_le n limit) (Some n) None
within limit None = None

numeral_if_natural : (text : List ℕ) → is_natural text ≡ true → is_numeral 10 text ≡ true
numeral_if_natural [] h = absurd cc
numeral_if_natural (b ∷ rest) h = rw (eqb-suc-zero (length rest)) (and_parts (list_all (λ c. is_digit c 10) (b ∷ rest)) (not (b == 48) || length rest == 0) h).0

small_enough : (v limit : ℕ) → limit < 2 ^ 64 → within limit (cond (nat_lt v (2 ^ 64)) (Some v) None) ≡ cond (nat_le v limit) (Some v) None
small_enough v limit lt = step (nat_lt v (2 ^ 64)) refl
  where
    step : (t : Bool) → nat_lt v (2 ^ 64) ≡ t → within limit (cond t (Some v) None) ≡ cond (nat_le v limit) (Some v) None
    step true e = refl
    step false e = grind (arith, nat_tests)

-- A natural number is a number within the limit.
pub natural_is : (limit : ℕ) (text : List ℕ) → limit < 2 ^ 64 → is_natural text ≡ true → natural limit text ≡ within limit (number 10 text)
unfolding natural
natural_is limit text lt is =
    ap (λ (b : Bool). cond (b && nat_le (digits_value 10 text) limit) (Some (digits_value 10 text)) None) is
    ∙ sym (small_enough (digits_value 10 text) limit lt)
    ∙ sym (ap (λ (b : Bool). within limit (cond (b && nat_lt (digits_value 10 text) (2 ^ 64)) (Some (digits_value 10 text)) None)) (numeral_if_natural text is))

pub not_natural : (limit : ℕ) (text : List ℕ) → is_natural text ≡ false → natural limit text ≡ None
unfolding natural
not_natural limit text is = ap (λ (b : Bool). cond (b && nat_le (digits_value 10 text) limit) (Some (digits_value 10 text)) None) is

-- Four digits write a number of two bytes.
four_below : (text : List ℕ) → length text ≡ 4 → list_all (λ c. is_digit c 16) text ≡ true → digits_value 16 text < 65536
four_below text four h =
    let b = digits_value-lt 16 text (all_digits 16 text h) in
    subst (λ (k : ℕ). digits_value 16 text < 16 ^ k) four b

pub four_is : (text : List ℕ) → length text ≡ 4 → four_digits text ≡ number 16 text
unfolding four_digits
four_is text four = step (list_all (λ c. is_digit c 16) text) refl
  where
    step : (t : Bool) → list_all (λ c. is_digit c 16) text ≡ t → four_digits text ≡ number 16 text
    step true e = rw (four, e) (rw (lt-ltb (digits_value 16 text) (2 ^ 64) (omega (arith, four_below text four e))) refl)
    step false e = rw (four, e) refl

pub four_within : (text : List ℕ) (n : ℕ) → length text ≡ 4 → number 16 text ≡ Some n → n < 65536
four_within text n four h = step (list_all (λ c. is_digit c 16) text) refl
  where
    step : (t : Bool) → list_all (λ c. is_digit c 16) text ≡ t → n < 65536
    step true e = let l = four_below text four e in let k : nat_lt (digits_value 16 text) (2 ^ 64) ≡ true = lt-ltb (digits_value 16 text) (2 ^ 64) (omega (arith, l)) in let v : digits_value 16 text ≡ n = some_is (digits_value 16 text) n (rw (four, e, k) at h) in omega (arith, l, v)
    step false e = absurd (let v = rw (four, e) at h in cc)
