-- The path of a class's file in a folder.
use Rattle.std.specs.Prelude.{ℕ, List, [], ◌∷◌, ◌++◌, Option, Some, None, Bool, ◌&&◌, not, ◌==◌, codes, if◌then◌else◌}
use Rattle.std.specs.List.{list_any}
use Rattle.std.specs.Str.{encode_utf8_all}
use Rattle.std.specs.Char.Utf16.{utf16_chars}
use Rattle.jsa_names.specs.Binding.{◌>>=◌}
use Rattle.jsa_names.specs.Texts.{units_of, before}
use Rattle.jsa_names.specs.Names.{is_class_name}

-- all of them, where none is None
unfoldable pub all_some : List (Option ℕ) → Option (List ℕ)
all_some [] = Some []
all_some (None ∷ others) = None
all_some (Some c ∷ others) = before c (all_some others)

-- the characters that units of UTF-16 spell, a pair of surrogates being one. None where a surrogate stands unpaired.
unfoldable pub characters_of : List ℕ → Option (List ℕ)
characters_of units = all_some (utf16_chars units)

abbrev pub has_null : List ℕ → Bool
has_null units = list_any (λ u. u == 0) units

-- a class name without U+0000, by its bytes and its units
abbrev pub is_path_name : List ℕ → List ℕ → Bool
is_path_name name units = is_class_name name && not (has_null units)

-- the text of such a name: the characters that its units spell, in UTF-8
unfoldable pub text_of : List ℕ → Option (List ℕ)
text_of name = do
  units ← units_of name
  characters ← characters_of units
  if is_path_name name units then Some (encode_utf8_all characters) else None

-- FOLDER/NAME.class, or None where a name is found nowhere: no modified UTF-8, no class name, U+0000, an unpaired surrogate
unfoldable pub path_of : List ℕ → List ℕ → Option (List ℕ)
path_of folder name = do
  text ← text_of name
  Some (folder ++ codes "/" ++ text ++ codes ".class")
