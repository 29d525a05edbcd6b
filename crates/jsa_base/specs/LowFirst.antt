-- Numbers with the low byte first, and the texts and lists that stand behind such numbers.
use Rattle.std.specs.Prelude.{ℕ, ◌+◌, ◌*◌, ◌/◌, ◌%◌, ◌<◌, ◌^◌, List, [], ◌∷◌, ◌++◌, length, None, Some}
use Rattle.std.specs.List.{flat_map, AllByRecursion}
use Rattle.jsa_base.specs.Reading.{◌>>=◌, Read, pair_at, made, times, bytes_at}

-- ---- how they are written

abbrev pub low_u4 : ℕ → List ℕ
low_u4 n = (n % 256) ∷ (n / 256 % 256) ∷ (n / 65536 % 256) ∷ (n / 16777216 % 256) ∷ []

-- the low four bytes, then the high four
abbrev pub low_u8 : ℕ → List ℕ
low_u8 n = low_u4 (n % 0x1_0000_0000) ++ low_u4 (n / 0x1_0000_0000)

-- bytes behind their number in four bytes
abbrev pub low_text : List ℕ → List ℕ
low_text bytes = low_u4 (length bytes) ++ bytes

-- a list behind its length in four bytes
abbrev pub low_counted : {A : Type 0} → (A → List ℕ) → List A → List ℕ
low_counted item xs = low_u4 (length xs) ++ flat_map item xs

abbrev pub FitsLowCounted : {A : Type 0} → (A → Type 0) → List A → Type 0
FitsLowCounted Fits xs = (length xs < 2 ^ 32) × AllByRecursion Fits xs

-- ---- how they are read

abbrev pub low_u4_at : List ℕ → Read ℕ
low_u4_at [] = None
low_u4_at (a ∷ []) = None
low_u4_at (a ∷ b ∷ []) = None
low_u4_at (a ∷ b ∷ c ∷ []) = None
low_u4_at (a ∷ b ∷ c ∷ d ∷ rest) = Some (a + 256 * b + 65536 * c + 16777216 * d, rest)

unfoldable pub low_u8_at : List ℕ → Read ℕ
low_u8_at = made (λ p. p.0 + 0x1_0000_0000 * p.1) (pair_at low_u4_at low_u4_at)

unfoldable pub low_text_at : List ℕ → Read (List ℕ)
low_text_at bytes = do
  n ← low_u4_at bytes
  bytes_at n.0 n.1

abbrev pub low_counted_at : {A : Type 0} → (List ℕ → Read A) → List ℕ → Read (List A)
low_counted_at item bytes = do
  n ← low_u4_at bytes
  times item n.0 n.1
