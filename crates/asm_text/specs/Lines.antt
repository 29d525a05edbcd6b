-- The lines of a text, and the tokens of a line.
use Rattle.std.specs.Prelude.{ℕ, suc, List, [], ◌∷◌, ◌++◌, Bool, true, false, ◌==◌, if◌then◌else◌}
use Rattle.asm_text.specs.declared.tokens.Mode.{Mode}
use Rattle.asm_text.specs.declared.tokens.Mode.TheVariants.{Between, Plain, Quoted, Escaped}
use Rattle.asm_text.specs.declared.tokens.Cutting.{Cutting}

-- a byte in front of the first line
abbrev pub joined : ℕ → List (List ℕ) → List (List ℕ)
joined b [] = (b ∷ []) ∷ []
joined b (line ∷ others) = (b ∷ line) ∷ others

-- A line ends at LF, or at the end of the text where that doesn't stand behind a LF.
unfoldable pub lines : List ℕ → List (List ℕ)
lines [] = []
lines (b ∷ rest) = if b == 10 then [] ∷ lines rest else joined b (lines rest)

-- how many bytes stand before the first LF, or the end
unfoldable pub line_length : List ℕ → ℕ
line_length [] = 0
line_length (b ∷ rest) = if b == 10 then 0 else suc (line_length rest)

-- ---- tokens

-- Where a line is behind one more byte: between two tokens, in a token, between its quotes, or behind a backslash there.
-- Spaces end a token, but not between the quotes of one that begins with a quote.
abbrev pub mode_after : Mode → ℕ → Mode
mode_after Between b = if b == 32 then Between else if b == 34 then Quoted else Plain
mode_after Plain b = if b == 32 then Between else Plain
mode_after Quoted b = if b == 34 then Plain else if b == 92 then Escaped else Quoted
mode_after Escaped b = Quoted

abbrev pub is_between : Mode → Bool
is_between Between = true
is_between Plain = false
is_between Quoted = false
is_between Escaped = false

-- the tokens with the one at hand
abbrev pub closed : Cutting → List (List ℕ)
closed s = if is_between s.mode then s.tokens else s.tokens ++ s.token ∷ []

abbrev pub taken : ℕ → Cutting → Cutting
taken b s = let next = mode_after s.mode b in
    if is_between next then record { tokens = closed s; token = []; mode = next }
    else record { tokens = s.tokens; token = s.token ++ b ∷ []; mode = next }

unfoldable pub cut : Cutting → List ℕ → Cutting
cut s [] = s
cut s (b ∷ rest) = cut (taken b s) rest

abbrev pub uncut : Cutting
uncut = record { tokens = []; token = []; mode = Between }

abbrev pub tokens : List ℕ → List (List ℕ)
tokens line = closed (cut uncut line)
