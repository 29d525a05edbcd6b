-- How numbers, texts and lists are written, the high byte first, and which fit where they are written.
use Rattle.std.specs.Prelude.{ℕ, ℤ, ◌/◌, ◌%◌, ◌<◌, ◌^◌, List, [], ◌∷◌, ◌++◌, length}
use Rattle.std.specs.Int.{w8, w16, w32, cast_unsigned}
use Rattle.std.specs.List.{flat_map, AllByRecursion}
use Rattle.jsa_base.specs.Reading.{IsBytes}

abbrev pub u1 : ℕ → List ℕ
u1 n = n ∷ []

abbrev pub u2 : ℕ → List ℕ
u2 n = (n / 256) ∷ (n % 256) ∷ []

abbrev pub u4 : ℕ → List ℕ
u4 n = (n / 16777216) ∷ (n / 65536 % 256) ∷ (n / 256 % 256) ∷ (n % 256) ∷ []

-- eight bytes: the high four, then the low four
abbrev pub u8 : ℕ → List ℕ
u8 n = u4 (n / 0x1_0000_0000) ++ u4 (n % 0x1_0000_0000)

-- signed numbers, in two's complement

abbrev pub s1 : ℤ → List ℕ
s1 z = u1 (cast_unsigned w8 z)

abbrev pub s2 : ℤ → List ℕ
s2 z = u2 (cast_unsigned w16 z)

abbrev pub s4 : ℤ → List ℕ
s4 z = u4 (cast_unsigned w32 z)

-- bytes behind their number in two bytes
abbrev pub text : List ℕ → List ℕ
text bytes = u2 (length bytes) ++ bytes

-- bytes behind their number in four bytes
abbrev pub long_text : List ℕ → List ℕ
long_text bytes = u4 (length bytes) ++ bytes

-- a list behind its length in two bytes
abbrev pub counted : {A : Type 0} → (A → List ℕ) → List A → List ℕ
counted item xs = u2 (length xs) ++ flat_map item xs

abbrev pub Fits1 : ℕ → Type 0
Fits1 n = n < 256

abbrev pub Fits2 : ℕ → Type 0
Fits2 n = n < 65536

abbrev pub Fits4 : ℕ → Type 0
Fits4 n = n < 2 ^ 32

abbrev pub Fits8 : ℕ → Type 0
Fits8 n = n < 2 ^ 64

abbrev pub FitsText : List ℕ → Type 0
FitsText bytes = (length bytes < 65536) × IsBytes bytes

abbrev pub FitsLongText : List ℕ → Type 0
FitsLongText bytes = (length bytes < 2 ^ 32) × IsBytes bytes

abbrev pub FitsCounted : {A : Type 0} → (A → Type 0) → List A → Type 0
FitsCounted Fits xs = (length xs < 65536) × AllByRecursion Fits xs
