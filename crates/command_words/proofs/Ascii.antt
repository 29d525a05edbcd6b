-- The path of a main class: its name is letters, digits, _ and $ of ASCII between slashes.
use Rattle.std.proofs.Common.{◌≡◌, ◌+◌, ◌<◌, ◌≤◌, arith, ℕ, ◌==◌, List, [], ◌∷◌, ◌++◌, length, Bool, true, false, not, ◌&&◌, ◌||◌, cond, Option, Some, None, All, count_by, IsAscii, codes, refl, ap, subst, ◌∙◌}
use Rattle.std.specs.List.{list_all, slice_split, join_with_byte}
use Rattle.std.specs.Char.Utf16.{utf16_chars, lone_unit_char}
use Rattle.std.proofs.lemmas.Bool.{and_parts, and_from, le-leb, lt-leb, ne_eqb}
use Rattle.std.proofs.lemmas.Bool.Decides.{nat_tests}
use Rattle.std.proofs.lemmas.List.Elements.{All-nil, All-cons}
use Rattle.std.proofs.lemmas.List.Splits.{slice_split_none, slice_split_at, length-slice_split}
use Rattle.std.proofs.lemmas.Str.{utf16_chars-nil, utf16_chars_lone, encodes-IsAscii}
use Rattle.std.proofs.lemmas.Str.Ascii.{IsAscii-nil, IsAscii-cons}
use Rattle.jsa_names.specs.Binding.{◌>>=◌}
use Rattle.jsa_names.specs.Names as classes
use Rattle.jsa_names.specs.Paths as names
use Rattle.jsa_names.specs.Texts.{is_one, second_at, before, units_of}
use Rattle.jsa_names.proofs.Forms.{goes}
use Rattle.jsa_names.proofs.NameTexts.{whole_text}
use Rattle.command_words.specs.Words.{is_word_byte, is_segment, segments_of, internal_name}

-- ---- a byte of a segment

word_low : (b : ℕ) → is_word_byte b ≡ true → 1 ≤ b
unfolding is_word_byte
word_low b h = grind (arith, nat_tests)

word_ascii : (b : ℕ) → is_word_byte b ≡ true → b < 128
unfolding is_word_byte
word_ascii b h = grind (arith, nat_tests)

word_plain : (b : ℕ) → is_word_byte b ≡ true → classes.is_plain b ≡ true
unfolding is_word_byte
word_plain b h = grind (arith, nat_tests)

word_apart : (b : ℕ) → is_word_byte b ≡ true → (b == 47) ≡ false
unfolding is_word_byte
word_apart b h = grind (arith, nat_tests)

-- ---- bytes of ASCII, none of them 0

abbrev Low : List ℕ → Type 0
Low [] = Unit {0}
Low (b ∷ bytes) = ((1 ≤ b) × (b < 128)) × Low bytes

low_append : (a b : List ℕ) → Low a → Low b → Low (a ++ b)
low_append [] b h k = k
low_append (x ∷ a) b h k = (h.0, low_append a b h.1 k)

low_word : (bytes : List ℕ) → list_all is_word_byte bytes ≡ true → Low bytes
low_word [] h = tt
low_word (b ∷ bytes) h = let p = and_parts (is_word_byte b) (list_all is_word_byte bytes) h in ((word_low b p.0, word_ascii b p.0), low_word bytes p.1)

segment_word : (s : List ℕ) → is_segment s ≡ true → list_all is_word_byte s ≡ true
segment_word s h = (and_parts (not (length s == 0)) (list_all is_word_byte s) h).1

low_joined : (segments : List (List ℕ)) → list_all is_segment segments ≡ true → Low (join_with_byte 47 segments)
low_joined [] h = tt
low_joined (s ∷ []) h = low_word s (segment_word s (and_parts (is_segment s) true h).0)
low_joined (s ∷ t ∷ segments) h =
    let p = and_parts (is_segment s) (list_all is_segment (t ∷ segments)) h in
    low_append s (47 ∷ join_with_byte 47 (t ∷ segments)) (low_word s (segment_word s p.0)) ((omega arith, omega arith), low_joined (t ∷ segments) p.1)

low_one : (b : ℕ) → 1 ≤ b → b < 128 → is_one b ≡ true
low_one b l h = and_from _ _ (le-leb 1 b l) (le-leb b 127 (omega (arith, h)))

low_units : (bytes : List ℕ) → Low bytes → units_of bytes ≡ Some bytes
unfolding units_of
low_units [] h = refl
low_units (b ∷ bytes) h =
    goes (b ∷ bytes) b bytes (ap (λ (t : Bool). cond t (Some (b, bytes)) (second_at b bytes)) (low_one b h.0.0 h.0.1)) ∙ ap (before b) (low_units bytes h.1)

low_lone : (u : ℕ) → u < 128 → lone_unit_char u ≡ Some u
low_lone u h = rw (lt-leb 0xD800 u (omega (arith, h))) refl

some_each : List ℕ → List (Option ℕ)
some_each [] = []
some_each (c ∷ cs) = Some c ∷ some_each cs

low_chars : (units : List ℕ) → Low units → utf16_chars units ≡ some_each units
unfolding some_each
low_chars [] h = utf16_chars-nil
low_chars (u ∷ units) h =
    utf16_chars_lone u units (λ p. omega (arith, p.0, h.0.1)) ∙ ap (λ (o : Option ℕ). o ∷ utf16_chars units) (low_lone u h.0.1) ∙ ap (λ (l : List (Option ℕ)). Some u ∷ l) (low_chars units h.1)

all_each : (cs : List ℕ) → names.all_some (some_each cs) ≡ Some cs
unfolding some_each names.all_some
all_each [] = refl
all_each (c ∷ cs) = ap (before c) (all_each cs)

low_characters : (units : List ℕ) → Low units → names.characters_of units ≡ Some units
unfolding names.characters_of
low_characters units h = ap names.all_some (low_chars units h) ∙ all_each units

low_ascii : (bytes : List ℕ) → Low bytes → IsAscii bytes
low_ascii [] h = IsAscii-nil
low_ascii (b ∷ bytes) h = IsAscii-cons b bytes h.0.1 (low_ascii bytes h.1)

no_null : (bytes : List ℕ) → Low bytes → names.has_null bytes ≡ false
no_null [] h = refl
no_null (b ∷ bytes) h = ap (λ (t : Bool). t || names.has_null bytes) (ne_eqb b 0 (λ e. omega (arith, e, h.0.0))) ∙ no_null bytes h.1

-- ---- segments between slashes

no_slash : (bytes : List ℕ) → list_all is_word_byte bytes ≡ true → All (λ b. (b == 47) ≡ false) bytes
no_slash [] h = All-nil (λ b. (b == 47) ≡ false)
no_slash (b ∷ bytes) h =
    let p = and_parts (is_word_byte b) (list_all is_word_byte bytes) h in
    All-cons (λ c. (c == 47) ≡ false) b bytes (word_apart b p.0) (no_slash bytes p.1)

split_joined : (s : List ℕ) (segments : List (List ℕ)) → list_all is_segment (s ∷ segments) ≡ true → slice_split (λ b. b == 47) (join_with_byte 47 (s ∷ segments)) ≡ s ∷ segments
split_joined s [] h = slice_split_none (λ b. b == 47) s (no_slash s (segment_word s (and_parts (is_segment s) true h).0))
split_joined s (t ∷ segments) h =
    let p = and_parts (is_segment s) (list_all is_segment (t ∷ segments)) h in
    slice_split_at (λ b. b == 47) s 47 (join_with_byte 47 (t ∷ segments)) (no_slash s (segment_word s p.0)) refl ∙ ap (λ (l : List (List ℕ)). s ∷ l) (split_joined t segments p.1)

plain_word : (bytes : List ℕ) → list_all is_word_byte bytes ≡ true → list_all classes.is_plain bytes ≡ true
plain_word [] h = refl
plain_word (b ∷ bytes) h =
    let p = and_parts (is_word_byte b) (list_all is_word_byte bytes) h in
    and_from (classes.is_plain b) (list_all classes.is_plain bytes) (word_plain b p.0) (plain_word bytes p.1)

class_segments : (segments : List (List ℕ)) → list_all is_segment segments ≡ true → list_all classes.is_segment segments ≡ true
class_segments [] h = refl
class_segments (s ∷ segments) h =
    let p = and_parts (is_segment s) (list_all is_segment segments) h in
    let q = and_parts (not (length s == 0)) (list_all is_word_byte s) p.0 in
    and_from (classes.is_segment s) (list_all classes.is_segment segments) (and_from (not (length s == 0)) (list_all classes.is_plain s) q.0 (plain_word s q.1)) (class_segments segments p.1)

joined_name : (s : List ℕ) (segments : List (List ℕ)) → list_all is_segment (s ∷ segments) ≡ true → classes.is_class_name (join_with_byte 47 (s ∷ segments)) ≡ true
unfolding classes.is_class_name
joined_name s segments h = ap (list_all classes.is_segment) (split_joined s segments h) ∙ class_segments (s ∷ segments) h

-- ---- the path

joined_path : (s : List ℕ) (segments : List (List ℕ)) (folder : List ℕ) → list_all is_segment (s ∷ segments) ≡ true
    → names.path_of folder (join_with_byte 47 (s ∷ segments)) ≡ Some (folder ++ codes "/" ++ join_with_byte 47 (s ∷ segments) ++ codes ".class")
unfolding names.path_of
joined_path s segments folder h =
    let name = join_with_byte 47 (s ∷ segments) in
    let low : Low name = low_joined (s ∷ segments) h in
    let plain : names.is_path_name name name ≡ true = and_from (classes.is_class_name name) (not (names.has_null name)) (joined_name s segments h) (ap not (no_null name low)) in
    let text : names.text_of name ≡ Some name = whole_text name name name (low_units name low) (low_characters name low) plain ∙ ap (λ (l : List ℕ). Some l) (encodes-IsAscii name (low_ascii name low)) in
    ap (λ (o : Option (List ℕ)). o >>= λ t. Some (folder ++ codes "/" ++ t ++ codes ".class")) text

segments_path : (segments : List (List ℕ)) (n : ℕ) (name folder : List ℕ) (t : Bool) → length segments ≡ n + 1 → list_all is_segment segments ≡ t → cond t (Some (join_with_byte 47 segments)) None ≡ Some name
    → names.path_of folder name ≡ Some (folder ++ codes "/" ++ name ++ codes ".class")
segments_path [] n name folder t len is e = absurd (omega (arith, len))
segments_path (s ∷ segments) n name folder false len is e = absurd cc
segments_path (s ∷ segments) n name folder true len is e =
    let same : join_with_byte 47 (s ∷ segments) ≡ name = cc in
    subst (λ (m : List ℕ). names.path_of folder m ≡ Some (folder ++ codes "/" ++ m ++ codes ".class")) same (joined_path s segments folder is)

-- The path of a main class's name is FOLDER/NAME.class.
pub ascii_path : (word name folder : List ℕ) → internal_name word ≡ Some name → names.path_of folder name ≡ Some (folder ++ codes "/" ++ name ++ codes ".class")
ascii_path word name folder e = segments_path (segments_of word) (count_by (λ b. b == 46) word) name folder (list_all is_segment (segments_of word)) (length-slice_split (λ b. b == 46) word) refl e
