-- The characters of a text as units of UTF-16, and how these are spelled.
use Rattle.std.proofs.Common.{◌≡◌, ℕ, ◌+◌, ◌-◌, ◌/◌, ◌%◌, ◌<◌, ◌≤◌, Bool, true, false, cond, ◌&&◌, Some, List, [], ◌∷◌, ◌++◌, refl, inl, inr, ap, sym, ◌∙◌, arith, nat_lt}
use Rattle.std.specs.List.{flat_map}
use Rattle.std.specs.Char.Escape.{encode_utf16}
use Rattle.std.specs.Str.{chars, IsUtf8}
use Rattle.std.proofs.Math.Utf8.{scalar, scalars, scalar_cases}
use Rattle.std.proofs.lemmas.Bool.{ltb-true, ltb-false}
use Rattle.std.proofs.lemmas.Grind.{flat_map-append}
use Rattle.std.proofs.lemmas.Str.{scalars-chars}
use Rattle.jsa_names.specs.Texts.{unit_spelling, text_spelling, AreUnits, units_of}
use Rattle.jsa_names.specs.Mutf8.{char_bytes, modified, text_units}
use Rattle.jsa_names.proofs.Spelled.{text_again}

both : (a b : Bool) → (a && b) ≡ true → (a ≡ true) × (b ≡ true)
both true b h = (refl, h)
both false b h = absurd cc

low_char : (c : ℕ) → scalar c ≡ true → c < 0x11_0000
low_char c h = elim (scalar_cases c h) [ inl p ↦ omega arith | inr p ↦ omega arith ]

-- a character's units before others
char_units : (c : ℕ) (units : List ℕ) → c < 0x11_0000 → AreUnits units → AreUnits (encode_utf16 c ++ units)
char_units c units low h =
    elim (nat_lt c 0x1_0000) as (λ b. nat_lt c 0x1_0000 ≡ b → AreUnits (cond b (c ∷ []) ((0xD800 + (c - 0x1_0000) / 0x400) ∷ (0xDC00 + (c - 0x1_0000) % 0x400) ∷ []) ++ units)) [
      | true ↦ λ e. (ltb-true c 0x1_0000 e, h)
      | false ↦ λ e. let high : 0x1_0000 ≤ c = ltb-false c 0x1_0000 e in (omega arith, (omega arith, h))
    ] refl

chars_units : (cs : List ℕ) → scalars cs ≡ true → AreUnits (flat_map encode_utf16 cs)
chars_units [] h = tt
chars_units (c ∷ cs) h =
    let p = both (scalar c) (scalars cs) h in
    char_units c (flat_map encode_utf16 cs) (low_char c p.0) (chars_units cs p.1)

chars_spelled : (cs : List ℕ) → flat_map char_bytes cs ≡ text_spelling (flat_map encode_utf16 cs)
chars_spelled [] = refl
chars_spelled (c ∷ cs) = ap (λ (l : List ℕ). char_bytes c ++ l) (chars_spelled cs) ∙ sym (flat_map-append unit_spelling (encode_utf16 c) (flat_map encode_utf16 cs))

-- what is written of a text is read as its units
pub modified_read : (text : List ℕ) → IsUtf8 text → units_of (modified text) ≡ Some (text_units text)
modified_read text h = text_again (modified text) (text_units text) (chars_spelled (chars text), chars_units (chars text) (scalars-chars text h))
