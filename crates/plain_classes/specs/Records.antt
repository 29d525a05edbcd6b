-- The classes of a plain archive: how they are written and read, and what their names are.
use Rattle.std.specs.Prelude.{◌≡◌, ℕ, List, [], ◌∷◌, ◌++◌, length, Bool, true, false, not, ◌&&◌, ◌||◌, nat_lt, if◌then◌else◌, Option, Some, None}
use Rattle.std.specs.List.{flat_map, list_all, AllByRecursion}
use Rattle.std.specs.Str.{bytes_eq}
use Rattle.std.specs.Borrow.{Bor}
use Rattle.jsa_base.specs.Reading.{Read, pair_at, made, times, all_read}
use Rattle.jsa_base.specs.Spelling.{FitsLongText}
use Rattle.jsa_base.specs.LowFirst.{low_text, low_text_at}
use Rattle.first_form.specs.FirstForm.{IsClassNamed}
use Rattle.plain_classes.specs.declared.class.PlainClass.{PlainClass}

-- ---- how they are written

-- the name and the class file, each behind its length in four bytes, the low byte first
abbrev pub class_text : PlainClass → List ℕ
class_text c = low_text c.name ++ low_text c.bytes

-- one class after the other
abbrev pub classes_text : List PlainClass → List ℕ
classes_text cs = flat_map class_text cs

-- ---- which fit where they are written

-- fewer than 2^32 bytes each
abbrev pub FitsRecord : PlainClass → Type 0
FitsRecord c = FitsLongText c.name × FitsLongText c.bytes

abbrev pub has_short_texts : PlainClass → Bool
has_short_texts c = nat_lt (length c.name) 0x1_0000_0000 && nat_lt (length c.bytes) 0x1_0000_0000

abbrev pub have_short_texts : List PlainClass → Bool
have_short_texts cs = list_all has_short_texts cs

-- The bytes are those of these classes, which are so many.
pub record SpellsClasses (bytes : List ℕ) (count : ℕ) (classes : List PlainClass) : Type 0 where
  pub written : bytes ≡ classes_text classes
  pub many : length classes ≡ count
  pub fits : AllByRecursion FitsRecord classes

-- ---- how they are read

unfoldable pub class_at : List ℕ → Read PlainClass
class_at = made (λ p. record { name = p.0; bytes = p.1 }) (pair_at low_text_at low_text_at)

-- so many classes, behind which nothing is left
abbrev pub classes_of : ℕ → List ℕ → Option (List PlainClass)
classes_of count bytes = all_read (times class_at count bytes)

-- ---- names

abbrev pub names_of : List PlainClass → List (List ℕ)
names_of [] = []
names_of (c ∷ cs) = c.name ∷ names_of cs

abbrev pub is_among : List ℕ → List (List ℕ) → Bool
is_among name [] = false
is_among name (n ∷ names) = bytes_eq name n || is_among name names

-- a class file (JVMS 4) of which an archive may hold the class, and this is the class's name (4.1, 4.2.1): today the class
-- is of the first form
abbrev pub IsNamed : List ℕ → List ℕ → Type 0
IsNamed bytes name = IsClassNamed bytes name

-- a class with its own name inside
abbrev pub IsRecord : PlainClass → Type 0
IsRecord c = IsNamed c.bytes c.name

-- no name stands twice
abbrev pub are_distinct : List (List ℕ) → Bool
are_distinct [] = true
are_distinct (n ∷ names) = not (is_among n names) && are_distinct names

-- the names that are borrowed
abbrev pub borrowed : List (Bor (List ℕ)) → List (List ℕ)
borrowed [] = []
borrowed (k ∷ ks) = k.now ∷ borrowed ks

-- the class file of the first class of this name
abbrev pub class_in : List PlainClass → List ℕ → Option (List ℕ)
class_in [] name = None
class_in (c ∷ cs) name = if bytes_eq c.name name then Some c.bytes else class_in cs name
