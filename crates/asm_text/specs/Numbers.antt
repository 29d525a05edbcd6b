-- Numbers of a text.
use Rattle.std.specs.Prelude.{ℕ, ℤ, pos, neg_ℤ, List, [], ◌∷◌, length, Bool, false, not, ◌&&◌, ◌||◌, ◌==◌, nat_le, nat_lt, ◌^◌, Option, Some, None, if◌then◌else◌}
use Rattle.std.specs.Char.{is_digit}
use Rattle.std.specs.List.{list_all}
use Rattle.std.specs.Option.{option_map}
use Rattle.std.specs.Str.Parse.{digits_value}

-- decimal digits, the first of which isn't 0 unless it stands alone
abbrev pub is_natural : List ℕ → Bool
is_natural [] = false
is_natural (b ∷ rest) = list_all (λ c. is_digit c 10) (b ∷ rest) && (not (b == 48) || length rest == 0)

-- digits of the radix, at least one
abbrev pub is_numeral : ℕ → List ℕ → Bool
is_numeral radix text = not (length text == 0) && list_all (λ c. is_digit c radix) text

-- the number that digits write, where it is below 2^64
abbrev pub number : ℕ → List ℕ → Option ℕ
number radix text = if is_numeral radix text && nat_lt (digits_value radix text) (2 ^ 64) then Some (digits_value radix text) else None

-- the number that they write, where it isn't above the limit
unfoldable pub natural : ℕ → List ℕ → Option ℕ
natural limit text = if is_natural text && nat_le (digits_value 10 text) limit then Some (digits_value 10 text) else None

-- what a number is behind a -, where it isn't 0
abbrev pub negative : Option ℕ → Option ℤ
negative (Some n) = if n == 0 then None else Some (neg_ℤ (pos n))
negative None = None

-- A number from -low to high: digits, or a - and digits of a number that isn't 0.
unfoldable pub integer : ℕ → ℕ → List ℕ → Option ℤ
integer low high [] = None
integer low high (b ∷ rest) = if b == 45 then negative (natural low rest) else option_map pos (natural high (b ∷ rest))

-- four hexadecimal digits, letters in both cases
unfoldable pub four_digits : List ℕ → Option ℕ
four_digits text = if length text == 4 && list_all (λ c. is_digit c 16) text then Some (digits_value 16 text) else None

-- 0x and four hexadecimal digits
unfoldable pub flags : List ℕ → Option ℕ
flags (a ∷ b ∷ rest) = if a == 48 && b == 120 then four_digits rest else None
flags _ = None
