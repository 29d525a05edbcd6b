-- The text of a name.
use Rattle.std.proofs.Common.{◌≡◌, ℕ, true, false, cond, not, Option, Some, None, is_some, List, [], ◌∷◌, map, unwrap_or, refl, ap}
use Rattle.std.specs.List.{list_any}
use Rattle.std.specs.Str.{encode_utf8_all}
use Rattle.std.specs.Char.Utf16.{utf16_chars, utf16_lossy_chars, has_unpaired_surrogate}
use Rattle.jsa_names.specs.Binding.{◌>>=◌}
use Rattle.jsa_names.specs.Texts.{units_of, is_mutf8, before}
use Rattle.jsa_names.specs.Paths.{all_some, characters_of, is_path_name, text_of}

pub no_units : (name : List ℕ) → is_mutf8 name ≡ false → text_of name ≡ None
unfolding text_of
no_units name h =
    elim (units_of name) as (λ o. is_some o ≡ false → (o >>= λ units. (characters_of units >>= λ characters. cond (is_path_name name units) (Some (encode_utf8_all characters)) None)) ≡ None) [
      | Some units ↦ λ e. absurd cc
      | None ↦ λ e. refl
    ] h

some_left : (o : Option ℕ) (os : List (Option ℕ)) → list_any (λ p. not (is_some p)) (o ∷ os) ≡ false → (is_some o ≡ true) × (list_any (λ p. not (is_some p)) os ≡ false)
some_left (Some c) os h = (refl, h)
some_left None os h = absurd cc

all_there : (os : List (Option ℕ)) → list_any (λ o. not (is_some o)) os ≡ false → all_some os ≡ Some (map (λ o. unwrap_or o 0xFFFD) os)
unfolding all_some
all_there [] h = refl
all_there (None ∷ os) h = absurd cc
all_there (Some c ∷ os) h = ap (before c) (all_there os (some_left (Some c) os h).1)

one_missing : (os : List (Option ℕ)) → list_any (λ o. not (is_some o)) os ≡ true → all_some os ≡ None
unfolding all_some
one_missing [] h = absurd cc
one_missing (None ∷ os) h = refl
one_missing (Some c ∷ os) h = ap (before c) (one_missing os h)

pub paired : (units : List ℕ) → has_unpaired_surrogate units ≡ false → characters_of units ≡ Some (utf16_lossy_chars units)
unfolding characters_of
paired units h = all_there (utf16_chars units) h

pub unpaired : (units : List ℕ) → has_unpaired_surrogate units ≡ true → characters_of units ≡ None
unfolding characters_of
unpaired units h = one_missing (utf16_chars units) h

abbrev no_text : Option (List ℕ)
no_text = None

none_after : (o : Option (List ℕ)) → (o >>= λ characters. no_text) ≡ None
none_after (Some characters) = refl
none_after None = refl

-- no name of a class, or U+0000
pub no_name : (name units : List ℕ) → units_of name ≡ Some units → is_path_name name units ≡ false → text_of name ≡ None
unfolding text_of
no_name name units u h =
    rw (u, h) (none_after (characters_of units))

pub no_characters : (name units : List ℕ) → units_of name ≡ Some units → characters_of units ≡ None → text_of name ≡ None
unfolding text_of
no_characters name units u h = rw (u, h) refl

pub whole_text : (name units characters : List ℕ) → units_of name ≡ Some units → characters_of units ≡ Some characters → is_path_name name units ≡ true → text_of name ≡ Some (encode_utf8_all characters)
unfolding text_of
whole_text name units characters u h k = rw (u, h, k) refl
