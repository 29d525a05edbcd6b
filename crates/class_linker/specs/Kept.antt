-- What is kept of the class files that were read, and of the classes that are loaded, whatever the store of files tells.
use Rattle.std.specs.Prelude.{◌≡◌, ℕ, ◌+◌, ◌≤◌, zero, suc, List, [], ◌∷◌, ◌++◌, length, map, take, drop, true, false, Option, Some, None, slice_get, ⊤}
use Rattle.std.specs.List.{AllByRecursion}
use Rattle.std.specs.Str.{bytes_eq}
use Rattle.class_tree.specs.declared.tree.ClassTree.{ClassTree}
use Rattle.class_record.specs.declared.bases.Base.{Base}
use Rattle.class_record.specs.Files.{Name}
use Rattle.class_tree.specs.ClassNames.{own_name}
use Rattle.class_record.specs.Trees.{bases_of, HasShortLists}
use Rattle.class_record.specs.Loading.{is_among}
use Rattle.class_record.specs.Laws.{AreDistinct}
use Rattle.class_record.specs.Facts.{Facts, names_of}
use Rattle.loaded_classes.specs.Table.{ClassTable, linked_at, word_at}
use Rattle.class_linker.specs.declared.readings.Held.{Held}
use Rattle.class_linker.specs.declared.readings.Held.TheVariants.{Tree, Loaded, OtherVersion, NotClass}
use Rattle.class_linker.specs.declared.readings.Reading.{Reading}
use Rattle.class_linker.specs.declared.under_way.Frame.{Frame}

-- ---- the class files that were read

abbrev pub name_read : Reading → Name
name_read r = r.name

abbrev pub names_read : List Reading → List Name
names_read rs = map name_read rs

-- It is the place of the name, and there is none exactly where the name isn't among them.
abbrev pub IsPlaceOf : List Reading → Name → Option ℕ → Type 0
IsPlaceOf rs name None = is_among name (names_read rs) ≡ false
IsPlaceOf rs name (Some place) = slice_get (names_read rs) place ≡ Some name

abbrev pub held_as : Held → Reading → Reading
held_as held r = record { name = r.name; loader = r.loader; folder = r.folder; held = held }

-- the list where this is held at a place
abbrev pub with_held : List Reading → ℕ → Held → List Reading
with_held [] place held = []
with_held (r ∷ rs) zero held = held_as held r ∷ rs
with_held (r ∷ rs) (suc place) held = r ∷ with_held rs place held

abbrev pub names_loaded : ClassTable → List Name
names_loaded t = names_of t.classes

-- A tree that is held has short lists, and where none is held because its class is loaded, it is.
abbrev pub IsHeld : ClassTable → Name → Held → Type 0
IsHeld t name (Tree tree) = HasShortLists tree
IsHeld t name Loaded = is_among name (names_loaded t) ≡ true
IsHeld t name OtherVersion = ⊤
IsHeld t name NotClass = ⊤

pub record IsKept (readings : List Reading) (t : ClassTable) : Type 0 where
  -- the class file of each loaded class was read
  pub read : (name : Name) → is_among name (names_loaded t) ≡ true → is_among name (names_read readings) ≡ true
  pub distinct : AreDistinct (names_read readings)
  pub held : AllByRecursion (λ (r : Reading). IsHeld t r.name r.held) readings

-- ---- the classes whose loading is under way

abbrev pub name_of_frame : Frame → Name
name_of_frame f = f.name

-- the innermost first
abbrev pub names_under : List Frame → List Name
names_under fs = map name_of_frame fs

-- what it is based on and isn't loaded or tested yet
abbrev pub bases_left : Frame → List Base
bases_left f = drop f.done f.bases

abbrev pub with_done : Frame → ℕ → Frame
with_done f done = record { name = f.name; place = f.place; loader = f.loader; bases = f.bases; done = done }

-- the innermost class has one base less left
abbrev pub advanced : List Frame → List Frame
advanced [] = []
advanced (f ∷ fs) = with_done f (f.done + 1) ∷ fs

-- The class at a place waits for its tree's bases.
pub record IsFrame (readings : List Reading) (t : ClassTable) (below : List Name) (f : Frame) : Type 0 where
  pub reading : Reading
  pub tree : ClassTree
  pub at : slice_get readings f.place ≡ Some reading
  pub name : reading.name ≡ f.name
  pub loader : reading.loader ≡ f.loader
  pub held : reading.held ≡ Tree tree
  pub own : bytes_eq (own_name tree) f.name ≡ true
  pub bases : f.bases ≡ bases_of tree
  pub few : length f.bases ≤ 65_536
  pub done : AllByRecursion (λ (b : Base). is_among b.name (names_loaded t) ≡ true) (take f.done f.bases)
  pub is_new : is_among f.name (names_loaded t) ≡ false
  pub apart : is_among f.name below ≡ false

-- Each class under way but the innermost waits for the next one further in.
abbrev pub Waits : Name → Frame → Type 0
Waits name f = (base : Base) × (rest : List Base) × (bases_left f ≡ base ∷ rest) × (base.name ≡ name)

abbrev pub AreWaiting : Name → List Frame → Type 0
AreWaiting name [] = Unit {0}
AreWaiting name (f ∷ fs) = Waits name f × AreWaiting f.name fs

abbrev pub AreFrames : List Reading → ClassTable → List Frame → Type 0
AreFrames readings t [] = Unit {0}
AreFrames readings t (f ∷ fs) = IsFrame readings t (names_under fs) f × AreFrames readings t fs

-- the classes from the innermost out
abbrev pub IsPath : List Reading → ClassTable → List Frame → Type 0
IsPath readings t [] = Unit {0}
IsPath readings t (f ∷ fs) = AreFrames readings t (f ∷ fs) × AreWaiting f.name fs

-- ---- what loading leaves of the table

-- More classes are loaded, which aren't linked and whose cache words are 0, and all else is as before.
pub record GrowsTo (before after : ClassTable) : Type 0 where
  pub more : List Facts
  pub classes : after.classes ≡ before.classes ++ more
  pub linked : (id : ℕ) → linked_at after.linked id ≡ linked_at before.linked id
  pub words : (id k : ℕ) → word_at after.words id k ≡ word_at before.words id k
