-- What the definitions are worth.
use Rattle.std.specs.Prelude.{◌≡◌, ℕ, List, [], ◌∷◌, ◌++◌, ◌==◌, not, Bool, true, false, ◌&&◌, codes, IsTrue}
use Rattle.std.specs.List.{list_all}
use Rattle.asm_text.specs.declared.tokens.Mode.{Mode}
use Rattle.asm_text.specs.declared.tokens.Mode.TheVariants.{Between, Plain, Quoted, Escaped}
use Rattle.asm_text.specs.Lines.{lines, tokens, mode_after, is_between}

-- No space ends the token before its end.
unfoldable pub stays_in : Mode → List ℕ → Bool
stays_in mode [] = true
stays_in mode (b ∷ rest) = not (is_between (mode_after mode b)) && stays_in (mode_after mode b) rest

-- the place in the line behind these bytes
unfoldable pub mode_behind : Mode → List ℕ → Mode
mode_behind mode [] = mode
mode_behind mode (b ∷ rest) = mode_behind (mode_after mode b) rest

abbrev pub is_plain : Mode → Bool
is_plain Plain = true
is_plain Between = false
is_plain Quoted = false
is_plain Escaped = false

-- a token whose quotes, if it begins with one, are closed
abbrev pub is_token : List ℕ → Bool
is_token t = stays_in Between t && is_plain (mode_behind Between t)

-- tokens with a space behind each
unfoldable pub spaced : List (List ℕ) → List ℕ
spaced [] = []
spaced (t ∷ ts) = t ++ (codes " " ++ spaced ts)

-- Tokens that are written one after the other, with a space behind each, are cut apart again.
abbrev pub TokensAreCut : Type 0
TokensAreCut = (ts : List (List ℕ)) → IsTrue (list_all is_token ts) → tokens (spaced ts) ≡ ts

-- lines with a LF behind each
unfoldable pub ended : List (List ℕ) → List ℕ
ended [] = []
ended (line ∷ rest) = line ++ (codes "\n" ++ ended rest)

abbrev pub has_no_end : List ℕ → Bool
has_no_end line = list_all (λ b. not (b == 10)) line

-- Lines that are written one after the other, with a LF behind each, are those of the text, also where the last has none.
pub record LinesAreCut : Type 0 where
  pub each : (ls : List (List ℕ)) → IsTrue (list_all has_no_end ls) → lines (ended ls) ≡ ls
  pub last : (ls : List (List ℕ)) (b : ℕ) (last : List ℕ) → IsTrue (list_all has_no_end ls) → IsTrue (has_no_end (b ∷ last)) → lines (ended ls ++ b ∷ last) ≡ ls ++ (b ∷ last) ∷ []
