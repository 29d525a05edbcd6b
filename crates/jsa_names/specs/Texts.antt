-- Modified UTF-8 (JVMS 4.4.7): forms of one, two or three bytes, each of which spells a unit of UTF-16.
use Rattle.std.specs.Prelude.{ℕ, ◌+◌, ◌*◌, ◌/◌, ◌%◌, ◌<◌, List, [], ◌∷◌, Option, Some, None, Bool, ◌&&◌, ◌||◌, nat_le, nat_lt, ◌==◌, is_some, if◌then◌else◌}
use Rattle.std.specs.List.{flat_map, AllByRecursion}
use Rattle.std.specs.Option.{option_map}

abbrev pub is_within : ℕ → ℕ → ℕ → Bool
is_within low high n = nat_le low n && nat_le n high

-- one byte: 01 to 7F
abbrev pub is_one : ℕ → Bool
is_one a = is_within 0x01 0x7F a

-- two bytes: C0 80, or C2 to DF and a byte 80 to BF
abbrev pub is_two : ℕ → ℕ → Bool
is_two a b = (a == 0xC0 && b == 0x80) || (is_within 0xC2 0xDF a && is_within 0x80 0xBF b)

-- three bytes: E0, A0 to BF and 80 to BF, or E1 to EF and two bytes 80 to BF
abbrev pub is_three : ℕ → ℕ → ℕ → Bool
is_three a b c = ((a == 0xE0 && is_within 0xA0 0xBF b) || (is_within 0xE1 0xEF a && is_within 0x80 0xBF b)) && is_within 0x80 0xBF c

-- the unit that two bytes spell: the low five bits of the first and the low six of the second
abbrev pub two_unit : ℕ → ℕ → ℕ
two_unit a b = a % 32 * 64 + b % 64

-- the unit that three bytes spell: the low four bits of the first and the low six of the others
abbrev pub three_unit : ℕ → ℕ → ℕ → ℕ
three_unit a b c = a % 16 * 4096 + b % 64 * 64 + c % 64

-- a unit before others, where there are others
abbrev pub before : ℕ → Option (List ℕ) → Option (List ℕ)
before unit others = option_map (λ units. unit ∷ units) others

-- The units that bytes spell, one a form, the forms standing one after the other. None where no form stands.
unfoldable pub units_of : List ℕ → Option (List ℕ)
units_of [] = Some []
units_of (a ∷ []) = if is_one a then Some (a ∷ []) else None
units_of (a ∷ b ∷ []) =
    if is_one a then before a (units_of (b ∷ []))
    else if is_two a b then Some (two_unit a b ∷ [])
    else None
units_of (a ∷ b ∷ c ∷ rest) =
    if is_one a then before a (units_of (b ∷ c ∷ rest))
    else if is_two a b then before (two_unit a b) (units_of (c ∷ rest))
    else if is_three a b c then before (three_unit a b c) (units_of rest)
    else None

-- the bytes are modified UTF-8
abbrev pub is_mutf8 : List ℕ → Bool
is_mutf8 bytes = is_some (units_of bytes)

-- ---- how units are spelled

-- How a unit is spelled: 0001 to 007F in one byte, 0 and 0080 to 07FF in two, 0800 to FFFF in three. A surrogate is
-- a unit as the others are.
abbrev pub unit_spelling : ℕ → List ℕ
unit_spelling u =
    if is_within 0x01 0x7F u then u ∷ []
    else if nat_lt u 0x800 then (0xC0 + u / 64) ∷ (0x80 + u % 64) ∷ []
    else (0xE0 + u / 4096) ∷ (0x80 + u / 64 % 64) ∷ (0x80 + u % 64) ∷ []

abbrev pub text_spelling : List ℕ → List ℕ
text_spelling units = flat_map unit_spelling units

-- each is a unit of UTF-16
abbrev pub AreUnits : List ℕ → Type 0
AreUnits units = AllByRecursion (λ u. u < 0x1_0000) units

-- ---- how the code reads: the form at the front alone, its unit and the bytes behind it

abbrev pub third_at : ℕ → ℕ → List ℕ → Option (ℕ × List ℕ)
third_at a b [] = None
third_at a b (c ∷ rest) = if is_three a b c then Some (three_unit a b c, rest) else None

abbrev pub second_at : ℕ → List ℕ → Option (ℕ × List ℕ)
second_at a [] = None
second_at a (b ∷ rest) = if is_two a b then Some (two_unit a b, rest) else third_at a b rest

abbrev pub unit_at : List ℕ → Option (ℕ × List ℕ)
unit_at [] = None
unit_at (a ∷ rest) = if is_one a then Some (a, rest) else second_at a rest
