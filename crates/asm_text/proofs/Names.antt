-- The place of a word among names that stand in parts.
use Rattle.std.proofs.Common.{◌≡◌, ℕ, suc, ◌+◌, ◌≤◌, Bool, true, false, cond, List, [], ◌∷◌, ◌++◌, length, Option, Some, None, refl, sym, ap, ◌∙◌, arith}
use Rattle.std.specs.Prelude.{position}
use Rattle.std.specs.List.{position_from}
use Rattle.std.specs.Str.{bytes_eq}
use Rattle.std.proofs.lemmas.Iterator.Adapters.{position_from-zero}
use Rattle.asm_text.specs.Mnemonics.{words, constants, loads, stores, math, tests, jumps, objects, mnemonics, opcode_of}

-- the first of the two that is there
abbrev pub first_of : {A : Type 0} → Option A → Option A → Option A
first_of (Some x) other = Some x
first_of None other = other

place_in : {A : Type 0} (test : A → Bool) (i : ℕ) (xs ys : List A) → position_from test i (xs ++ ys) ≡ first_of (position_from test i xs) (position_from test (i + length xs) ys)
place_in test i [] ys = ap (λ (n : ℕ). position_from test n ys) (omega arith)
place_in {A} test i (x ∷ xs) ys = step (test x) (place_in test (i + 1) xs ys)
  where
    step : (t : Bool) → position_from test (i + 1) (xs ++ ys) ≡ first_of (position_from test (i + 1) xs) (position_from test (i + 1 + length xs) ys) → cond t (Some i) (position_from test (i + 1) (xs ++ ys)) ≡ first_of (cond t (Some i) (position_from test (i + 1) xs)) (position_from test (i + suc (length xs)) ys)
    step true more = refl
    step false more = more ∙ ap (λ (n : ℕ). first_of (position_from test (i + 1) xs) (position_from test n ys)) (omega arith)

-- The names of one part behind the other, where the first part has so many.
part : {A : Type 0} (test : A → Bool) (i n : ℕ) (xs ys : List A) (other : Option ℕ) → i + length xs ≡ n → position_from test n ys ≡ other → position_from test i (xs ++ ys) ≡ first_of (position_from test i xs) other
part test i n xs ys other e h = place_in test i xs ys ∙ ap (first_of (position_from test i xs)) (ap (λ (k : ℕ). position_from test k ys) e ∙ h)

-- the byte of a mnemonic, part by part
abbrev pub by_parts : List ℕ → Option ℕ
by_parts word =
    first_of (position_from (bytes_eq word) 0x00 (words constants))
    (first_of (position_from (bytes_eq word) 0x15 (words loads))
    (first_of (position_from (bytes_eq word) 0x36 (words stores))
    (first_of (position_from (bytes_eq word) 0x57 (words math))
    (first_of (position_from (bytes_eq word) 0x78 (words tests))
    (first_of (position_from (bytes_eq word) 0x99 (words jumps))
    (position_from (bytes_eq word) 0xb2 (words objects)))))))

opcode_is : (word : List ℕ) → opcode_of word ≡ by_parts word
unfolding opcode_of mnemonics words
opcode_is word =
    position_from-zero (bytes_eq word) mnemonics
    ∙ part (bytes_eq word) 0x00 0x15 (words constants) (words loads ++ (words stores ++ (words math ++ (words tests ++ (words jumps ++ words objects))))) _ refl
    (part (bytes_eq word) 0x15 0x36 (words loads) (words stores ++ (words math ++ (words tests ++ (words jumps ++ words objects)))) _ refl
    (part (bytes_eq word) 0x36 0x57 (words stores) (words math ++ (words tests ++ (words jumps ++ words objects))) _ refl
    (part (bytes_eq word) 0x57 0x78 (words math) (words tests ++ (words jumps ++ words objects)) _ refl
    (part (bytes_eq word) 0x78 0x99 (words tests) (words jumps ++ words objects) _ refl
    (part (bytes_eq word) 0x99 0xb2 (words jumps) (words objects) _ refl refl)))))

pub in_part : (word : List ℕ) (o : Option ℕ) → o ≡ by_parts word → o ≡ opcode_of word
in_part word o h = h ∙ sym (opcode_is word)

pub here : {x : ℕ} {first : Option ℕ} (other : Option ℕ) → Some x ≡ first → Some x ≡ first_of first other
here other h = ap (λ (f : Option ℕ). first_of f other) h

pub further : {o first other : Option ℕ} → None ≡ first → o ≡ other → o ≡ first_of first other
further {other = other} h k = k ∙ ap (λ (f : Option ℕ). first_of f other) h

-- ---- what std's search gives

abbrev pub moved : ℕ → Option ℕ → Option ℕ
moved n (Some k) = Some (n + k)
moved n None = None

shifted : {A : Type 0} (test : A → Bool) (n i : ℕ) (xs : List A) (o : Option ℕ) → position_from test i xs ≡ o → position_from test (n + i) xs ≡ moved n o
shifted test n i [] o e = ap (moved n) e
shifted {A} test n i (x ∷ xs) o e = step (test x) (shifted test n (i + 1) xs (position_from test (i + 1) xs) refl) ∙ ap (moved n) e
  where
    step : (t : Bool) → position_from test (n + (i + 1)) xs ≡ moved n (position_from test (i + 1) xs) → cond t (Some (n + i)) (position_from test (n + i + 1) xs) ≡ moved n (cond t (Some i) (position_from test (i + 1) xs))
    step true more = refl
    step false more = ap (λ (k : ℕ). position_from test k xs) (omega arith) ∙ more

-- What stands at a place of the names has the byte of the first and the place together.
pub found_at : {A : Type 0} (test : A → Bool) (first : ℕ) (xs : List A) (r : Option ℕ) → r ≡ position test xs → position_from test first xs ≡ moved first r
found_at test first xs r e =
    ap (λ (k : ℕ). position_from test k xs) (omega arith) ∙ shifted test first 0 xs (position test xs) (sym (position_from-zero test xs)) ∙ ap (moved first) (sym e)

pub few_constants : 0x00 + length (words constants) ≤ 256
unfolding words
few_constants = omega arith

pub few_loads : 0x15 + length (words loads) ≤ 256
unfolding words
few_loads = omega arith

pub few_stores : 0x36 + length (words stores) ≤ 256
unfolding words
few_stores = omega arith

pub few_math : 0x57 + length (words math) ≤ 256
unfolding words
few_math = omega arith

pub few_tests : 0x78 + length (words tests) ≤ 256
unfolding words
few_tests = omega arith

pub few_jumps : 0x99 + length (words jumps) ≤ 256
unfolding words
few_jumps = omega arith

pub few_objects : 0xb2 + length (words objects) ≤ 256
unfolding words
few_objects = omega arith
