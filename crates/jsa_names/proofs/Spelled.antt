-- Units are read exactly where they are spelled.
use Rattle.std.proofs.Common.{◌≡◌, ◌⊎◌, ℕ, zero, suc, eqb, ◌+◌, ◌*◌, ◌/◌, ◌%◌, ◌<◌, ◌≤◌, Bool, true, false, cond, ◌&&◌, ◌||◌, Option, Some, None, List, [], ◌∷◌, ◌++◌, refl, inl, inr, ap, ap₂, sym, subst, ◌∙◌, arith, nat_le, nat_lt}
use Rattle.std.proofs.lemmas.Bool.{le-leb, lt-leb, lt-ltb, le-ltb, leb-true, ltb-true, ltb-false, eqb-true}
use Rattle.std.proofs.lemmas.Bool.Decides.{eqb_tells}
use Rattle.jsa_names.specs.Texts.{is_within, is_one, is_two, is_three, two_unit, three_unit, before, units_of, third_at, second_at, unit_at, unit_spelling, text_spelling, AreUnits}
use Rattle.jsa_names.proofs.Forms.{goes, read_nothing, read_first}

-- ---- what the tests say

both : (a b : Bool) → (a && b) ≡ true → (a ≡ true) × (b ≡ true)
both true b h = (refl, h)
both false b h = absurd cc

within_says : (low high n : ℕ) → is_within low high n ≡ true → (low ≤ n) × (n ≤ high)
within_says low high n h = let p = both (nat_le low n) (nat_le n high) h in (leb-true low n p.0, leb-true n high p.1)

within_is : (low high n : ℕ) → low ≤ n → n ≤ high → is_within low high n ≡ true
within_is low high n h k = rw (le-leb low n h, le-leb n high k) refl

not_below : (low high n : ℕ) → n < low → is_within low high n ≡ false
not_below low high n h = rw (lt-leb low n h) refl

not_above : (low high n : ℕ) → high < n → is_within low high n ≡ false
not_above low high n h = all (nat_le low n)
  where
    all : (b : Bool) → (b && nat_le n high) ≡ false
    all true = lt-leb n high h
    all false = refl

-- ---- what is spelled

one_spelled : (u : ℕ) → 1 ≤ u → u ≤ 0x7F → unit_spelling u ≡ u ∷ []
one_spelled u h k = rw (within_is 1 0x7F u h k) refl

null_spelled : unit_spelling 0 ≡ 0xC0 ∷ 0x80 ∷ []
null_spelled = refl

two_spelled : (u : ℕ) → 0x80 ≤ u → u < 0x800 → unit_spelling u ≡ (0xC0 + u / 64) ∷ (0x80 + u % 64) ∷ []
two_spelled u h k = rw (not_above 1 0x7F u (omega arith), lt-ltb u 0x800 k) refl

three_spelled : (u : ℕ) → 0x800 ≤ u → unit_spelling u ≡ (0xE0 + u / 4096) ∷ (0x80 + u / 64 % 64) ∷ (0x80 + u % 64) ∷ []
three_spelled u h = rw (not_above 1 0x7F u (omega arith), le-ltb u 0x800 h) refl

either : (a b : Bool) → (a || b) ≡ true → (a ≡ true) ⊎ (b ≡ true)
either true b h = inl refl
either false b h = inr h

differ : (a b : ℕ) → (a ≡ b → ⊥) → eqb a b ≡ false
differ a b h = elim (eqb_tells a b) [ inl p ↦ absurd (h p.1) | inr p ↦ p.0 ]

-- the front byte of two or three is no form of one byte
not_one : (a : ℕ) → 0x80 ≤ a → is_one a ≡ false
not_one a h = not_above 1 0x7F a (omega arith)

not_two : (a b : ℕ) → 0xE0 ≤ a → is_two a b ≡ false
not_two a b h = rw (differ a 0xC0 (λ e. omega arith), not_above 0xC2 0xDF a (omega arith)) refl

two_is : (a b : ℕ) → 0xC2 ≤ a → a ≤ 0xDF → 0x80 ≤ b → b ≤ 0xBF → is_two a b ≡ true
two_is a b h k l m = rw (differ a 0xC0 (λ e. omega arith), within_is 0xC2 0xDF a h k, within_is 0x80 0xBF b l m) refl

three_is_low : (b c : ℕ) → 0xA0 ≤ b → b ≤ 0xBF → 0x80 ≤ c → c ≤ 0xBF → is_three 0xE0 b c ≡ true
three_is_low b c l m n o = rw (within_is 0xA0 0xBF b l m, within_is 0x80 0xBF c n o) refl

three_is : (a b c : ℕ) → 0xE1 ≤ a → a ≤ 0xEF → 0x80 ≤ b → b ≤ 0xBF → 0x80 ≤ c → c ≤ 0xBF → is_three a b c ≡ true
three_is a b c h k l m n o = rw (differ a 0xE0 (λ e. omega arith), within_is 0xE1 0xEF a h k, within_is 0x80 0xBF b l m, within_is 0x80 0xBF c n o) refl

-- ---- a unit is read as it is spelled

two_at : (a b : ℕ) (rest : List ℕ) → is_one a ≡ false → is_two a b ≡ true → unit_at (a ∷ b ∷ rest) ≡ Some (two_unit a b, rest)
two_at a b rest h k = rw (h, k) refl

three_at : (a b c : ℕ) (rest : List ℕ) → is_one a ≡ false → is_two a b ≡ false → is_three a b c ≡ true → unit_at (a ∷ b ∷ c ∷ rest) ≡ Some (three_unit a b c, rest)
three_at a b c rest h k l = rw (h, k, l) refl

again_one : (u : ℕ) (rest : List ℕ) → 1 ≤ u → u ≤ 0x7F → unit_at (unit_spelling u ++ rest) ≡ Some (u, rest)
again_one u rest h k = rw (one_spelled u h k, within_is 1 0x7F u h k) refl

again_two : (u : ℕ) (rest : List ℕ) → 0x80 ≤ u → u < 0x800 → unit_at (unit_spelling u ++ rest) ≡ Some (u, rest)
again_two u rest h k =
    let same : two_unit (0xC0 + u / 64) (0x80 + u % 64) ≡ u = omega arith in
    let two : is_two (0xC0 + u / 64) (0x80 + u % 64) ≡ true = two_is (0xC0 + u / 64) (0x80 + u % 64) (omega arith) (omega arith) (omega arith) (omega arith) in
    rw (two_spelled u h k) (two_at (0xC0 + u / 64) (0x80 + u % 64) rest (not_one (0xC0 + u / 64) (omega arith)) two ∙ ap (λ (v : ℕ). Some (v, rest)) same)

three_passes : (u : ℕ) → 0x800 ≤ u → u < 0x1_0000 → is_three (0xE0 + u / 4096) (0x80 + u / 64 % 64) (0x80 + u % 64) ≡ true
three_passes u h k =
    elim (nat_lt u 0x1000) as (λ b. nat_lt u 0x1000 ≡ b → is_three (0xE0 + u / 4096) (0x80 + u / 64 % 64) (0x80 + u % 64) ≡ true) [
      | true ↦ λ e.
          let low : u < 0x1000 = ltb-true u 0x1000 e in
          let front : 0xE0 + u / 4096 ≡ 0xE0 = omega arith in
          ap (λ (a : ℕ). is_three a (0x80 + u / 64 % 64) (0x80 + u % 64)) front ∙ three_is_low (0x80 + u / 64 % 64) (0x80 + u % 64) (omega arith) (omega arith) (omega arith) (omega arith)
      | false ↦ λ e.
          let high : 0x1000 ≤ u = ltb-false u 0x1000 e in
          three_is (0xE0 + u / 4096) (0x80 + u / 64 % 64) (0x80 + u % 64) (omega arith) (omega arith) (omega arith) (omega arith) (omega arith) (omega arith)
    ] refl

again_three : (u : ℕ) (rest : List ℕ) → 0x800 ≤ u → u < 0x1_0000 → unit_at (unit_spelling u ++ rest) ≡ Some (u, rest)
again_three u rest h k =
    let same : three_unit (0xE0 + u / 4096) (0x80 + u / 64 % 64) (0x80 + u % 64) ≡ u = omega arith in
    rw (three_spelled u h) (three_at (0xE0 + u / 4096) (0x80 + u / 64 % 64) (0x80 + u % 64) rest (not_one (0xE0 + u / 4096) (omega arith)) (not_two (0xE0 + u / 4096) (0x80 + u / 64 % 64) (omega arith)) (three_passes u h k)
    ∙ ap (λ (v : ℕ). Some (v, rest)) same)

unit_again : (u : ℕ) (rest : List ℕ) → u < 0x1_0000 → unit_at (unit_spelling u ++ rest) ≡ Some (u, rest)
unit_again zero rest h = refl
unit_again (suc n) rest h =
    elim (nat_lt (suc n) 0x80) as (λ b. nat_lt (suc n) 0x80 ≡ b → unit_at (unit_spelling (suc n) ++ rest) ≡ Some (suc n, rest)) [
      | true ↦ λ e. let low : suc n < 0x80 = ltb-true (suc n) 0x80 e in again_one (suc n) rest (omega arith) (omega arith)
      | false ↦ λ e.
          let high : 0x80 ≤ suc n = ltb-false (suc n) 0x80 e in
          elim (nat_lt (suc n) 0x800) as (λ b. nat_lt (suc n) 0x800 ≡ b → unit_at (unit_spelling (suc n) ++ rest) ≡ Some (suc n, rest)) [
            | true ↦ λ f. again_two (suc n) rest high (ltb-true (suc n) 0x800 f)
            | false ↦ λ f. again_three (suc n) rest (ltb-false (suc n) 0x800 f) h
          ] refl
    ] refl

-- ---- what is read as a unit is spelled so

abbrev Taken : List ℕ → ℕ × List ℕ → Type 0
Taken bytes x = (bytes ≡ unit_spelling x.0 ++ x.1) × (x.0 < 0x1_0000)

if_some : (b : Bool) (x y : ℕ × List ℕ) (o : Option (ℕ × List ℕ)) → cond b (Some x) o ≡ Some y → ((b ≡ true) × (x ≡ y)) ⊎ ((b ≡ false) × (o ≡ Some y))
if_some true x y o h = inl (refl, cc)
if_some false x y o h = inr (refl, h)

one_taken : (a : ℕ) (rest : List ℕ) → is_one a ≡ true → Taken (a ∷ rest) (a, rest)
one_taken a rest h = let p = within_says 1 0x7F a h in (ap (λ (l : List ℕ). l ++ rest) (sym (one_spelled a p.0 p.1)), omega arith)

two_taken_high : (a b : ℕ) (rest : List ℕ) → 0xC2 ≤ a → a ≤ 0xDF → 0x80 ≤ b → b ≤ 0xBF → Taken (a ∷ b ∷ rest) (two_unit a b, rest)
two_taken_high a b rest h k l m =
    let first : a ≡ 0xC0 + (a % 32 * 64 + b % 64) / 64 = omega arith in
    let second : b ≡ 0x80 + (a % 32 * 64 + b % 64) % 64 = omega arith in
    (ap₂ (λ (x y : ℕ). x ∷ y ∷ rest) first second ∙ ap (λ (l : List ℕ). l ++ rest) (sym (two_spelled (a % 32 * 64 + b % 64) (omega arith) (omega arith))), omega arith)

two_taken : (a b : ℕ) (rest : List ℕ) → is_two a b ≡ true → Taken (a ∷ b ∷ rest) (two_unit a b, rest)
two_taken a b rest h =
    elim (either (eqb a 0xC0 && eqb b 0x80) (is_within 0xC2 0xDF a && is_within 0x80 0xBF b) h) [
      | inl p ↦ let q = both (eqb a 0xC0) (eqb b 0x80) p in rw (eqb-true a 0xC0 q.0, eqb-true b 0x80 q.1) (refl, omega arith)
      | inr p ↦
          let q = both (is_within 0xC2 0xDF a) (is_within 0x80 0xBF b) p in
          let x = within_says 0xC2 0xDF a q.0 in
          let y = within_says 0x80 0xBF b q.1 in
          two_taken_high a b rest x.0 x.1 y.0 y.1
    ]

three_taken_in : (a b c : ℕ) (rest : List ℕ) → 0xE0 ≤ a → a ≤ 0xEF → 0x80 ≤ b → b ≤ 0xBF → 0x80 ≤ c → c ≤ 0xBF → 0x800 ≤ three_unit a b c → Taken (a ∷ b ∷ c ∷ rest) (three_unit a b c, rest)
three_taken_in a b c rest h k l m n o long =
    let first : a ≡ 0xE0 + (a % 16 * 4096 + b % 64 * 64 + c % 64) / 4096 = omega arith in
    let second : b ≡ 0x80 + (a % 16 * 4096 + b % 64 * 64 + c % 64) / 64 % 64 = omega arith in
    let third : c ≡ 0x80 + (a % 16 * 4096 + b % 64 * 64 + c % 64) % 64 = omega arith in (
      ap₂ (λ (x : ℕ) (l : List ℕ). x ∷ l) first (ap₂ (λ (x y : ℕ). x ∷ y ∷ rest) second third)
          ∙ ap (λ (l : List ℕ). l ++ rest) (sym (three_spelled (a % 16 * 4096 + b % 64 * 64 + c % 64) long)),
      omega arith,
    )

three_taken : (a b c : ℕ) (rest : List ℕ) → is_three a b c ≡ true → Taken (a ∷ b ∷ c ∷ rest) (three_unit a b c, rest)
three_taken a b c rest h =
    let p = both ((eqb a 0xE0 && is_within 0xA0 0xBF b) || (is_within 0xE1 0xEF a && is_within 0x80 0xBF b)) (is_within 0x80 0xBF c) h in
    let z = within_says 0x80 0xBF c p.1 in
    elim (either (eqb a 0xE0 && is_within 0xA0 0xBF b) (is_within 0xE1 0xEF a && is_within 0x80 0xBF b) p.0) [
      | inl q ↦
          let r = both (eqb a 0xE0) (is_within 0xA0 0xBF b) q in
          let x : a ≡ 0xE0 = eqb-true a 0xE0 r.0 in
          let y = within_says 0xA0 0xBF b r.1 in
          three_taken_in a b c rest (omega arith) (omega arith) (omega arith) y.1 z.0 z.1 (omega arith)
      | inr q ↦
          let r = both (is_within 0xE1 0xEF a) (is_within 0x80 0xBF b) q in
          let x = within_says 0xE1 0xEF a r.0 in
          let y = within_says 0x80 0xBF b r.1 in
          three_taken_in a b c rest (omega arith) x.1 y.0 y.1 z.0 z.1 (omega arith)
    ]

third_taken : (a b : ℕ) (bytes : List ℕ) (x : ℕ × List ℕ) → third_at a b bytes ≡ Some x → Taken (a ∷ b ∷ bytes) x
third_taken a b [] x h = absurd cc
third_taken a b (c ∷ rest) x h =
    elim (if_some (is_three a b c) (three_unit a b c, rest) x None h) [
      | inl p ↦ let P : ℕ × List ℕ → Type 0 = Taken (a ∷ b ∷ c ∷ rest) in subst P p.1 (three_taken a b c rest p.0)
      | inr p ↦ absurd (cc p.1)
    ]

second_taken : (a : ℕ) (bytes : List ℕ) (x : ℕ × List ℕ) → second_at a bytes ≡ Some x → Taken (a ∷ bytes) x
second_taken a [] x h = absurd cc
second_taken a (b ∷ rest) x h =
    elim (if_some (is_two a b) (two_unit a b, rest) x (third_at a b rest) h) [
      | inl p ↦ let P : ℕ × List ℕ → Type 0 = Taken (a ∷ b ∷ rest) in subst P p.1 (two_taken a b rest p.0)
      | inr p ↦ third_taken a b rest x p.1
    ]

unit_taken : (bytes : List ℕ) (x : ℕ × List ℕ) → unit_at bytes ≡ Some x → Taken bytes x
unit_taken [] x h = absurd cc
unit_taken (a ∷ rest) x h =
    elim (if_some (is_one a) (a, rest) x (second_at a rest) h) [
      | inl p ↦ let P : ℕ × List ℕ → Type 0 = Taken (a ∷ rest) in subst P p.1 (one_taken a rest p.0)
      | inr p ↦ second_taken a rest x p.1
    ]

unit_takes : (bytes : List ℕ) (u : ℕ) (rest : List ℕ) → unit_at bytes ≡ Some (u, rest) → (bytes ≡ unit_spelling u ++ rest) × (u < 0x1_0000)
unit_takes bytes u rest h = unit_taken bytes (u, rest) h

-- ---- the law

pub text_takes : (bytes units : List ℕ) → units_of bytes ≡ Some units → (bytes ≡ text_spelling units) × AreUnits units
text_takes bytes [] h = (read_nothing bytes h, tt)
text_takes bytes (u ∷ us) h =
    let first = read_first bytes u us h in
    let here = unit_takes bytes u first.0 first.1 in
    let there = text_takes first.0 us first.2 in
    (here.0 ∙ ap (λ (l : List ℕ). unit_spelling u ++ l) there.0, (here.1, there.1))

text_read : (units : List ℕ) → AreUnits units → units_of (text_spelling units) ≡ Some units
unfolding units_of
text_read [] h = refl
text_read (u ∷ us) h = goes (unit_spelling u ++ text_spelling us) u (text_spelling us) (unit_again u (text_spelling us) h.0) ∙ ap (before u) (text_read us h.1)

pub text_again : (bytes units : List ℕ) → (bytes ≡ text_spelling units) × AreUnits units → units_of bytes ≡ Some units
text_again bytes units h = ap units_of h.0 ∙ text_read units h.1
