-- Loaded classes of which the facts say what their files do: each has a file, and is based on older ones.
use Rattle.std.proofs.Common.{◌≡◌, ◌+◌, ◌<◌, ◌≤◌, List, [], ◌∷◌, ◌++◌, length, true, Option, Some, None, refl, sym, ap, subst, arith}
use Rattle.std.specs.List.{AllByRecursion}
use Rattle.std.specs.Option.{IfSome, option_map}
use Rattle.std.specs.Str.{bytes_eq}
use Rattle.std.specs.FinMap.{len}
use Rattle.std.proofs.lemmas.List.{reverse-append}
use Rattle.jsa_base.proofs.Codecs.{some_is}
use Rattle.class_tree.specs.declared.tree.ClassTree.{ClassTree}
use Rattle.loader_rules.specs.declared.loader.Loader.TheVariants.{App}
use Rattle.class_record.specs.Files.{Name, RunFiles, ClassFile, file_of}
use Rattle.class_record.specs.Readings.{Reading, IsClass, OtherVersion, NotClass, reading_of, tree_in}
use Rattle.class_tree.specs.ClassNames.{own_name}
use Rattle.class_record.specs.Loading.{FoundClass, found_in, class_of, is_among}
use Rattle.class_record.specs.Ancestors.{newest, sup_in, interfaces_in}
use Rattle.class_record.specs.Facts.{Facts, names_of}
use Rattle.class_record.specs.Records.{facts_of, size_above, record_of}
use Rattle.class_record.specs.Built.{IsBuiltOn, AreBuilt}
use Rattle.class_record.specs.Laws.{AreRecorded}
use Rattle.class_record.proofs.Orders.{itself_equal}
use Rattle.class_record.proofs.Room.{left, left_falls, left_small}

-- ---- what names are based on

abbrev pub IsAmong : List Name → Name → Type 0
IsAmong names n = is_among n names ≡ true

-- what a class is based on is among these names
pub record HasBasesAmong (names : List Name) (sup : Option Name) (interfaces : List Name) : Type 0 where
  pub sup_among : IfSome sup (IsAmong names)
  pub all_among : AllByRecursion (IsAmong names) interfaces

-- The file of each name says that its class is based on older ones.
abbrev pub StandOnOlder : RunFiles → List Name → Type 0
StandOnOlder p [] = Unit {0}
StandOnOlder p (name ∷ older) = HasBasesAmong older (sup_in (class_of p App name)) (interfaces_in (class_of p App name)) × StandOnOlder p older

-- ---- one class

-- Its file spells a class of this name.
record HasFile (p : RunFiles) (name : Name) : Type 0 where
  file : ClassFile
  tree : ClassTree
  found : file_of p App name ≡ Some file
  spells : reading_of file.bytes ≡ IsClass tree
  named : bytes_eq (own_name tree) name ≡ true

module _ (p : RunFiles) (f : Facts) where
  abbrev told : FoundClass → Facts
  told c = facts_of c.file.loader c.file.folder (size_above p f.name) c.tree

  by_reading : (file : ClassFile) → file_of p App f.name ≡ Some file → (r : Reading) → reading_of file.bytes ≡ r
      → option_map told (option_map (λ (tree : ClassTree). record { file = file; tree = tree }) (tree_in r)) ≡ Some f → HasFile p f.name
  unfolding facts_of
  by_reading file found OtherVersion is h = absurd cc
  by_reading file found NotClass is h = absurd cc
  by_reading file found (IsClass tree) is h =
      let own : own_name tree ≡ f.name = ap (λ (x : Facts). x.name) (some_is _ f h) in
      record { file = file; tree = tree; found = found; spells = is; named = subst (λ (n : Name). bytes_eq (own_name tree) n ≡ true) own (itself_equal (own_name tree)) }

  by_file : (o : Option ClassFile) → file_of p App f.name ≡ o → option_map told (found_in o) ≡ Some f → HasFile p f.name
  by_file None found h = absurd cc
  by_file (Some file) found h = by_reading file found (reading_of file.bytes) refl h

  has_file : record_of p f.name ≡ Some f → HasFile p f.name
  has_file h = by_file (file_of p App f.name) refl h

  by_class : (o : Option FoundClass) → option_map told o ≡ Some f → (f.sup ≡ sup_in o) × (f.interfaces ≡ interfaces_in o)
  unfolding facts_of
  by_class None h = absurd cc
  by_class (Some c) h = let e : told c ≡ f = some_is (told c) f h in (sym (ap (λ (x : Facts). x.sup) e), sym (ap (λ (x : Facts). x.interfaces) e))

  -- The facts name the superclass and the direct superinterfaces as the file does.
  pub recorded_bases : record_of p f.name ≡ Some f → (f.sup ≡ sup_in (class_of p App f.name)) × (f.interfaces ≡ interfaces_in (class_of p App f.name))
  recorded_bases h = by_class (class_of p App f.name) h

  newest_stands : (older : List Facts) → IsBuiltOn older f → record_of p f.name ≡ Some f
      → HasBasesAmong (names_of older) (sup_in (class_of p App f.name)) (interfaces_in (class_of p App f.name))
  newest_stands older b h =
      let e = recorded_bases h in
      record {
        sup_among = subst (λ (s : Option Name). IfSome s (IsAmong (names_of older))) e.0 b.sup;
        all_among = subst (λ (ns : List Name). AllByRecursion (IsAmong (names_of older)) ns) e.1 b.interfaces;
      }

-- ---- all of them

pub built_stand : (p : RunFiles) (facts : List Facts) → AreBuilt facts → AreRecorded p facts → StandOnOlder p (names_of facts)
built_stand p [] b r = tt
built_stand p (f ∷ older) b r = (newest_stands p f older b.0 r.0, built_stand p older b.1 r.1)

-- Each has a file that the others leave.
built_small : (p : RunFiles) (facts : List Facts) → AreBuilt facts → AreRecorded p facts → length (names_of facts) + left p (names_of facts) ≤ left p []
built_small p [] b r = omega arith
built_small p (f ∷ older) b r =
    let k = has_file p f r.0 in
    let before : length (names_of older) + left p (names_of older) ≤ left p [] = built_small p older b.1 r.1 in
    let falls : left p (f.name ∷ names_of older) < left p (names_of older) = left_falls p (names_of older) App f.name k.file k.tree k.found b.0.is_new k.spells k.named in
    omega arith

pub built_within : (p : RunFiles) (facts : List Facts) → AreBuilt facts → AreRecorded p facts → length (names_of facts) ≤ len p.contents
built_within p facts b r =
    let small : length (names_of facts) + left p (names_of facts) ≤ left p [] = built_small p facts b r in
    let all : left p [] ≤ len p.contents = left_small p [] in
    omega arith

-- ---- the classes of a run, which are told in load order

recorded_behind : (p : RunFiles) (fs : List Facts) (f : Facts) → AreRecorded p fs → record_of p f.name ≡ Some f → AreRecorded p (fs ++ f ∷ [])
recorded_behind p [] f r h = (h, tt)
recorded_behind p (g ∷ fs) f r h = (r.0, recorded_behind p fs f r.1 h)

-- What is so of the classes of a run in load order (`AreOf` the world of the files) is so of them from the newest on.
pub newest_recorded : (p : RunFiles) (fs : List Facts) → AreRecorded p fs → AreRecorded p (newest fs)
newest_recorded p [] r = tt
newest_recorded p (f ∷ fs) r =
    subst (λ (gs : List Facts). AreRecorded p gs) (sym (reverse-append (f ∷ []) fs)) (recorded_behind p (newest fs) f (newest_recorded p fs r.1) r.0)
