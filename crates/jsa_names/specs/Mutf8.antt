-- The modified UTF-8 of a text (JVMS 4.4.7).
use Rattle.std.specs.Prelude.{ℕ, List}
use Rattle.std.specs.List.{flat_map}
use Rattle.std.specs.Char.Escape.{encode_utf16}
use Rattle.std.specs.Str.{chars}
use Rattle.jsa_names.specs.Texts.{text_spelling}

-- a character, by its units of UTF-16: itself up to U+FFFF, and above it the two surrogates that stand for it
abbrev pub char_bytes : ℕ → List ℕ
char_bytes c = text_spelling (encode_utf16 c)

-- a text, whose bytes are UTF-8: its characters one after the other
abbrev pub modified : List ℕ → List ℕ
modified text = flat_map char_bytes (chars text)

-- its units of UTF-16
abbrev pub text_units : List ℕ → List ℕ
text_units text = flat_map encode_utf16 (chars text)
