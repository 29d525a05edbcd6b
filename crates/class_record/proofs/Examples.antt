-- Worked examples: a run with no files, and two classes of which each extends the other.
use Rattle.std.proofs.Common.{◌≡◌, ℕ, List, [], ◌∷◌, Bool, true, false, if◌then◌else◌, Option, Some, None, is_some, refl, ◌∙◌, ap}
use Rattle.std.specs.Prelude.{codes}
use Rattle.std.specs.Option.{option_map}
use Rattle.std.specs.Ordering.{nat_cmp}
use Rattle.std.specs.Cmp.Lexicographic.{slice_cmp, nat_list_cmp_total}
use Rattle.std.specs.FinMap.{get, empty, insert, get-empty, get-insert}
use Rattle.std.specs.Str.{bytes_eq}
use Rattle.std.specs.Char.Utf16.{utf16_chars}
use Rattle.std.proofs.Math.Utf8.{encode}
use Rattle.jsa_base.specs.Reading.{◌>>=◌, times, text_at}
use Rattle.jsa_names.specs.Names.{is_class_name}
use Rattle.jsa_names.specs.Texts.{units_of}
use Rattle.jsa_names.specs.Paths.{all_some, characters_of, text_of, path_of}
use Rattle.jsa_files.specs.Store.{Contents}
use Rattle.loader_rules.specs.declared.loader.Loader.{Loader}
use Rattle.loader_rules.specs.declared.loader.Loader.TheVariants.{App}
use Rattle.loader_rules.specs.Lists.{FolderLists}
use Rattle.loader_rules.specs.Finding.{Place, files_of, first_of}
use Rattle.class_tree.specs.declared.constant_pool.PoolEntry.TheVariants.{Unusable, Utf8, Class}
use Rattle.class_tree.specs.declared.tree.ClassTree.{ClassTree}
use Rattle.class_tree.specs.Flags.{are_class_flags}
use Rattle.class_tree.specs.Reading.{entry_by, entry_at, slot_at, entries_at, pool_at}
use Rattle.class_tree.specs.Pools.{linked_pool_at}
use Rattle.class_tree.specs.Links.{is_linked}
use Rattle.class_tree.specs.Trees.{have_names, each, tree_of}
use Rattle.class_tree.specs.WellFormed.{are_distinct, is_class_declaration, are_declared, has_distinct_parts, is_well_formed}
use Rattle.class_tree.specs.ClassReading.{attribute_at, member_at, parts_at, version_at}
use Rattle.class_tree.specs.Spells.{tree_behind}
use Rattle.class_record.specs.declared.fault.JavaFault.TheVariants.{NoClassDefFoundError, ClassCircularityError}
use Rattle.class_record.specs.Files.{Name, RunFiles, ClassFile, file_at, file_of}
use Rattle.class_record.specs.Readings.{Reading, IsClass, reading_of}
use Rattle.class_record.specs.declared.bases.BaseKind.TheVariants.{Superclass}
use Rattle.class_tree.specs.ClassNames.{own_name}
use Rattle.class_record.specs.Trees.{base_of, bases_of}
use Rattle.class_record.specs.Loading.{Begins, Outcome, nothing, fails, and_then, begins, completes, is_among, loads_bases, on_reading, on_found, load_under, load_of, tests, Event, order_after, begun_after, Loaded, Loads, BeginsBy}
use Rattle.class_record.proofs.Room.{load_level}

-- ---- no files

abbrev no_contents : Contents
no_contents = empty

none_there : (files : List Place) → first_of no_contents files ≡ None
none_there [] = refl
none_there (f ∷ files) =
    ap (λ (o : Option (List ℕ)). if is_some o then Some f else first_of no_contents files) (get-empty (slice_cmp nat_cmp) f.path) ∙ none_there files

abbrev no_files : FolderLists → RunFiles
no_files folders = record { contents = no_contents; folders = folders }

-- no class is found, and nothing begins
pub nothing_loads : (folders : FolderLists) (from : Loader) (name : Name) → load_of (no_files folders) from name ≡ fails NoClassDefFoundError
nothing_loads folders from name =
    load_level (no_files folders) [] from name
    ∙ ap (λ (o : Option Place). on_found (load_under (no_files folders)) (no_files folders) [] name (o >>= read)) (none_there (files_of folders from name))
  where
    read : Place → Option ClassFile
    read place = option_map (file_at place) (get no_contents place.path)

pub nothing_is_loaded : (folders : FolderLists) (from : Loader) (name : Name) (order : List Name) → Loads (no_files folders) from name order ≡ order
nothing_is_loaded folders from name order = ap (λ (o : Outcome). after o.events) (nothing_loads folders from name)
  where
    after : List Event → List Name
    after events = order_after order events

pub nothing_has_begun : (folders : FolderLists) (from : Loader) (name : Name) (begun : List Name) → BeginsBy (no_files folders) from name begun ≡ begun
nothing_has_begun folders from name begun = ap (λ (o : Outcome). after o.events) (nothing_loads folders from name)
  where
    after : List Event → List Name
    after events = begun_after begun events

-- ---- two class files

-- the file of a public class with a name of one byte, whose superclass has a name of one byte
abbrev file_bytes : ℕ → ℕ → List ℕ
file_bytes name sup =
    0xCA ∷ 0xFE ∷ 0xBA ∷ 0xBE ∷ 0 ∷ 0 ∷ 0 ∷ 50 ∷ 0 ∷ 5 ∷ 1 ∷ 0 ∷ 1 ∷ name ∷ 7 ∷ 0 ∷ 1 ∷ 1 ∷ 0 ∷ 1 ∷ sup ∷ 7 ∷ 0 ∷ 3
    ∷ 0 ∷ 0x21 ∷ 0 ∷ 2 ∷ 0 ∷ 4 ∷ 0 ∷ 0 ∷ 0 ∷ 0 ∷ 0 ∷ 0 ∷ 0 ∷ 0 ∷ []

abbrev class_tree : ℕ → ℕ → ClassTree
class_tree name sup = record {
  major = 50;
  flags = 0x21;
  pool = Unusable ∷ Utf8 (name ∷ []) ∷ Class 1 ∷ Utf8 (sup ∷ []) ∷ Class 3 ∷ [];
  this = 2;
  sup = 4;
  interfaces = [];
  fields = [];
  methods = [];
}

a_is_read : reading_of (file_bytes 65 66) ≡ IsClass (class_tree 65 66)
unfolding reading_of tree_behind version_at parts_at linked_pool_at pool_at entries_at slot_at entry_at entry_by text_at times member_at attribute_at is_linked tree_of have_names each is_well_formed is_class_declaration are_class_flags are_declared has_distinct_parts are_distinct is_class_name units_of
a_is_read = refl

b_is_read : reading_of (file_bytes 66 65) ≡ IsClass (class_tree 66 65)
unfolding reading_of tree_behind version_at parts_at linked_pool_at pool_at entries_at slot_at entry_at entry_by text_at times member_at attribute_at is_linked tree_of have_names each is_well_formed is_class_declaration are_class_flags are_declared has_distinct_parts are_distinct is_class_name units_of
b_is_read = refl

abbrev a : Name
a = codes "A"

abbrev b : Name
b = codes "B"

abbrev folders : FolderLists
folders = record { boot = []; platform = []; app = codes "c" ∷ [] }

abbrev place : List ℕ → Place
place path = record { loader = App; folder = 2; path = path }

abbrev a_place : Place
a_place = place (codes "c/A.class")

abbrev b_place : Place
b_place = place (codes "c/B.class")

abbrev contents : Contents
contents = insert (insert empty (codes "c/A.class") (file_bytes 65 66)) (codes "c/B.class") (file_bytes 66 65)

abbrev each_other : RunFiles
each_other = record { contents = contents; folders = folders }

a_there : get contents (codes "c/A.class") ≡ Some (file_bytes 65 66)
a_there =
    get-insert nat_list_cmp_total (insert empty (codes "c/A.class") (file_bytes 65 66)) (codes "c/B.class") (file_bytes 66 65) (codes "c/A.class")
    ∙ get-insert nat_list_cmp_total empty (codes "c/A.class") (file_bytes 65 66) (codes "c/A.class")

b_there : get contents (codes "c/B.class") ≡ Some (file_bytes 66 65)
b_there = get-insert nat_list_cmp_total (insert empty (codes "c/A.class") (file_bytes 65 66)) (codes "c/B.class") (file_bytes 66 65) (codes "c/B.class")

a_asked : files_of folders App a ≡ a_place ∷ []
unfolding path_of text_of characters_of all_some units_of is_class_name utf16_chars encode
a_asked = refl

b_asked : files_of folders App b ≡ b_place ∷ []
unfolding path_of text_of characters_of all_some units_of is_class_name utf16_chars encode
b_asked = refl

-- the file at the first place that is asked
pub file_there : (p : RunFiles) (name : Name) (file : Place) (others : List Place) (bytes : List ℕ) → files_of p.folders App name ≡ file ∷ others → get p.contents file.path ≡ Some bytes
    → file_of p App name ≡ Some (file_at file bytes)
file_there p name file others bytes e h =
    ap (λ (files : List Place). first_of p.contents files >>= read) e
    ∙ ap (λ (o : Option (List ℕ)). (if is_some o then Some file else first_of p.contents others) >>= read) h
    ∙ ap (option_map (file_at file)) h
  where
    read : Place → Option ClassFile
    read place = option_map (file_at place) (get p.contents place.path)

-- ---- one level of a load

-- the load of a class that is found and spelled, and whose name is its own
pub loads_level : (p : RunFiles) (under : List Name) (from : Loader) (name : Name) (file : ClassFile) (tree : ClassTree) → file_of p from name ≡ Some file
    → is_among name under ≡ false → reading_of file.bytes ≡ IsClass tree → bytes_eq (own_name tree) name ≡ true
    → load_under p under from name ≡ begins name (and_then (loads_bases (load_under p) p under name file.loader (bases_of tree)) (completes name))
loads_level p under from name file tree found new spells named =
    load_level p under from name
    ∙ ap (on_found (load_under p) p under name) found
    ∙ ap (λ (t : Bool). if t then fails ClassCircularityError else begins name (on_reading (load_under p) p under name file.loader (reading_of file.bytes))) new
    ∙ ap (λ (r : Reading). begins name (on_reading (load_under p) p under name file.loader r)) spells
    ∙ ap (λ (t : Bool). begins name (if t then and_then (loads_bases (load_under p) p under name file.loader (bases_of tree)) (completes name) else fails NoClassDefFoundError)) named

meets_itself : (p : RunFiles) (under : List Name) (from : Loader) (name : Name) (file : ClassFile) → file_of p from name ≡ Some file
    → is_among name under ≡ true → load_under p under from name ≡ fails ClassCircularityError
meets_itself p under from name file found met =
    load_level p under from name
    ∙ ap (on_found (load_under p) p under name) found
    ∙ ap (λ (t : Bool). if t then fails ClassCircularityError else begins name (on_reading (load_under p) p under name file.loader (reading_of file.bytes))) met

-- ---- each extends the other

a_met : load_under each_other (b ∷ a ∷ []) App a ≡ fails ClassCircularityError
a_met = meets_itself each_other (b ∷ a ∷ []) App a (file_at a_place (file_bytes 65 66)) (file_there each_other a a_place [] (file_bytes 65 66) a_asked a_there) refl

b_below : load_under each_other (a ∷ []) App b ≡ record { fault = Some ClassCircularityError; events = Begins b ∷ [] }
b_below =
    loads_level each_other (a ∷ []) App b (file_at b_place (file_bytes 66 65)) (class_tree 66 65) (file_there each_other b b_place [] (file_bytes 66 65) b_asked b_there) refl b_is_read refl
    ∙ ap (λ (o : Outcome). begins b (and_then (and_then (and_then o (tests each_other b App (base_of Superclass a))) nothing) (completes b))) a_met

-- The load of the one ends with a ClassCircularityError, when both have begun.
pub circular : load_of each_other App a ≡ record { fault = Some ClassCircularityError; events = Begins a ∷ Begins b ∷ [] }
circular =
    loads_level each_other [] App a (file_at a_place (file_bytes 65 66)) (class_tree 65 66) (file_there each_other a a_place [] (file_bytes 65 66) a_asked a_there) refl a_is_read refl
    ∙ ap (λ (o : Outcome). begins a (and_then (and_then (and_then o (tests each_other a App (base_of Superclass b))) nothing) (completes a))) b_below

pub circular_fault : Loaded each_other App a ≡ Some ClassCircularityError
circular_fault = ap (λ (o : Outcome). o.fault) circular

pub circular_order : Loads each_other App a [] ≡ []
circular_order = ap (λ (o : Outcome). order_after [] o.events) circular

pub circular_begun : BeginsBy each_other App a [] ≡ a ∷ b ∷ []
circular_begun = ap (λ (o : Outcome). begun_after [] o.events) circular
