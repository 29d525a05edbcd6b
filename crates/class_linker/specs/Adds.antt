-- How the readings grow by a class file.
use Rattle.std.specs.Prelude.{◌≡◌, ℕ, List, [], ◌∷◌, ◌++◌, length, false, ⊤}
use Rattle.loader_rules.specs.declared.loader.Loader.{Loader}
use Rattle.class_record.specs.Files.{Name}
use Rattle.class_record.specs.Readings.{reading_of}
use Rattle.class_record.specs.Trees.{HasShortLists}
use Rattle.class_linker.specs.declared.readings.Held.{Held}
use Rattle.class_linker.specs.declared.readings.Held.TheVariants.{Tree, Loaded, OtherVersion, NotClass}
use Rattle.class_linker.specs.declared.readings.Reading.{Reading}
use Rattle.class_record.specs.Loading.{is_among}
use Rattle.class_linker.specs.Kept.{names_read}
use Rattle.class_linker.specs.Rights.{IsHeldOf}

-- A tree that is held has short lists, and none is taken.
abbrev pub IsShortHeld : Held → Type 0
IsShortHeld (Tree tree) = HasShortLists tree
IsShortHeld Loaded = ⊥
IsShortHeld OtherVersion = ⊤
IsShortHeld NotClass = ⊤

abbrev pub read_as : Name → Loader → ℕ → Held → Reading
read_as name loader folder held = record { name = name; loader = loader; folder = folder; held = held }

-- At the end, which is this place, stands what the bytes that were found for a name are.
pub record Adds (before after : List Reading) (place : ℕ) (name : Name) (loader : Loader) (folder : ℕ) (bytes : List ℕ) : Type 0 where
  pub held : Held
  pub at_end : place ≡ length before
  pub is_new : is_among name (names_read before) ≡ false
  pub readings : after ≡ before ++ read_as name loader folder held ∷ []
  pub is_held : IsHeldOf (reading_of bytes) held
  pub short : IsShortHeld held
