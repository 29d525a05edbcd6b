-- A line in modified UTF-8 (JVMS 4.4.7), and quoted texts.
use Rattle.std.specs.Prelude.{ℕ, zero, suc, List, [], ◌∷◌, ◌++◌, length, Bool, false, ◌&&◌, ◌==◌, Option, Some, None, if◌then◌else◌}
use Rattle.std.specs.Str.{is_utf8}
use Rattle.jsa_base.specs.Reading.{◌>>=◌}
use Rattle.jsa_names.specs.Texts.{unit_spelling}
use Rattle.jsa_names.specs.Mutf8 as names
use Rattle.asm_text.specs.Numbers.{four_digits}

-- A line in modified UTF-8, where it is UTF-8.
unfoldable pub modified : List ℕ → Option (List ℕ)
modified line = if is_utf8 line then Some (names.modified line) else None

-- ---- quoted texts

-- \" \\ \n \t
abbrev pub escape : ℕ → Option ℕ
escape b =
    if b == 34 then Some 34
    else if b == 92 then Some 92
    else if b == 110 then Some 10
    else if b == 116 then Some 9
    else None

-- \uXXXX: a unit of UTF-16
abbrev pub unit_piece : List ℕ → Option (List ℕ × List ℕ)
unit_piece (a ∷ b ∷ c ∷ d ∷ rest) = do
  u ← four_digits (a ∷ b ∷ c ∷ d ∷ [])
  Some (unit_spelling u, rest)
unit_piece _ = None

-- what stands behind a backslash
abbrev pub escape_piece : List ℕ → Option (List ℕ × List ℕ)
escape_piece [] = None
escape_piece (b ∷ rest) = if b == 117 then unit_piece rest else (do
  byte ← escape b
  Some (byte ∷ [], rest))

-- The bytes that the first piece of a text stands for, and what is left. A quote is none.
abbrev pub piece : List ℕ → Option (List ℕ × List ℕ)
piece [] = None
piece (b ∷ rest) = if b == 34 then None else if b == 92 then escape_piece rest else Some (b ∷ [], rest)

abbrev pub put_after : List ℕ → Option (List ℕ × List ℕ) → Option (List ℕ × List ℕ)
put_after text read = read >>= λ p. Some (p.1, text ++ p.0)

-- the closing quote, and nothing behind it
abbrev pub closes : List ℕ → Bool
closes [] = false
closes (b ∷ rest) = b == 34 && length rest == 0

-- At most so many pieces up to the closing quote, behind the text so far.
unfoldable pub pieces : ℕ → List ℕ → List ℕ → Option (List ℕ)
pieces zero text bytes = None
pieces (suc n) text bytes = if closes bytes then Some text else (do
  next ← put_after text (piece bytes)
  pieces n next.1 next.0)

-- The text of a token that begins with a quote: no piece takes less than a byte.
unfoldable pub quoted : List ℕ → Option (List ℕ)
quoted [] = None
quoted (b ∷ rest) = if b == 34 then pieces (length rest) [] rest else None
