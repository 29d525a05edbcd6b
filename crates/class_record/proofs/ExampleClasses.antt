-- A worked example: java/lang/Object, and a class A with an instance field and a static field.
use Rattle.std.proofs.Common.{◌≡◌, ℕ, zero, suc, add-one, List, [], ◌∷◌, ◌++◌, map, false, if◌then◌else◌, Option, Some, None, is_some, refl, ◌∙◌, ap}
use Rattle.std.specs.Prelude.{codes, sum}
use Rattle.std.specs.Option.{option_map}
use Rattle.std.specs.Ordering.{nat_cmp}
use Rattle.std.specs.Cmp.Lexicographic.{slice_cmp, nat_list_cmp_total}
use Rattle.std.specs.FinMap.{get, len, empty, insert, get-empty, get-insert}
use Rattle.std.specs.Char.Utf16.{utf16_chars}
use Rattle.std.proofs.Math.Utf8.{encode}
use Rattle.jsa_base.specs.Reading.{◌>>=◌, times, text_at}
use Rattle.jsa_names.specs.Names.{is_class_name}
use Rattle.jsa_names.specs.Texts.{units_of}
use Rattle.jsa_names.specs.Types.{base_type, class_type_of, element_type_of, field_type_of}
use Rattle.jsa_names.specs.Paths.{all_some, characters_of, text_of, path_of}
use Rattle.jsa_files.specs.Store.{Contents}
use Rattle.loader_rules.specs.declared.loader.Loader.TheVariants.{Boot, App}
use Rattle.loader_rules.specs.Lists.{FolderLists}
use Rattle.loader_rules.specs.Finding.{Place, files_of, first_of}
use Rattle.class_tree.specs.declared.constant_pool.PoolEntry.TheVariants.{Unusable, Utf8, Class}
use Rattle.class_tree.specs.declared.tree.FieldTree.{FieldTree}
use Rattle.class_tree.specs.declared.tree.ClassTree.{ClassTree}
use Rattle.class_tree.specs.Flags.{are_class_flags, are_field_flags}
use Rattle.class_tree.specs.Reading.{entry_by, entry_at, slot_at, entries_at, pool_at}
use Rattle.class_tree.specs.Pools.{linked_pool_at}
use Rattle.class_tree.specs.Links.{is_linked}
use Rattle.class_tree.specs.Trees.{have_names, content_of, constant_of, field_of, each, tree_of}
use Rattle.class_tree.specs.WellFormed.{are_distinct, is_class_declaration, are_declared, has_distinct_parts, is_well_formed}
use Rattle.class_tree.specs.ClassReading.{attribute_at, member_at, parts_at, version_at}
use Rattle.class_tree.specs.Spells.{tree_behind}
use Rattle.class_record.specs.declared.record.PoolName.TheVariants as names
use Rattle.class_record.specs.Files.{Name, RunFiles, ClassFile, file_at, file_of}
use Rattle.class_record.specs.Readings.{Reading, IsClass, reading_of, tree_in}
use Rattle.class_record.specs.declared.bases.Base.{Base}
use Rattle.class_record.specs.declared.bases.BaseKind.TheVariants.{Superclass}
use Rattle.class_record.specs.Trees.{base_of, suits}
use Rattle.class_record.specs.Loading.{Event, Begins, Completes, Outcome, nothing, unless, and_then, begins, completes, FoundClass, found_in, class_of, is_class_that, is_accessible, load_under, load_of, tests, appended, order_after, begun_after, Loads, BeginsBy}
use Rattle.class_record.specs.declared.fault.JavaFault.TheVariants.{IllegalAccessError, IncompatibleClassChangeError}
use Rattle.class_record.specs.Ancestors.{supers_by, superinterfaces_by, sup_in, interfaces_in, supers_up, superinterfaces_up, supers, superinterfaces}
use Rattle.class_record.specs.Facts.{Facts}
use Rattle.class_record.specs.Records.{field_records, facts_of, own_size_in, own_size, size_above, record_of}
use Rattle.class_record.specs.Linking.{link_of}
use Rattle.class_record.specs.Worlds.{is_larger, world_of_files}
use Rattle.class_record.specs.Calls.{passed}
use Rattle.class_record.proofs.Above.{supers_next, superinterfaces_next}
use Rattle.class_record.proofs.Links.{link_is_nothing}
use Rattle.class_record.proofs.Examples.{file_there, loads_level}

-- ---- two class files

abbrev object : Name
object = codes "java/lang/Object"

abbrev a : Name
a = codes "A"

-- a public class with no superclass and no members
abbrev object_bytes : List ℕ
object_bytes =
    0xCA ∷ 0xFE ∷ 0xBA ∷ 0xBE ∷ 0 ∷ 0 ∷ 0 ∷ 50 ∷ 0 ∷ 3 ∷ 1 ∷ 0 ∷ 16 ∷ codes "java/lang/Object"
    ++ 7 ∷ 0 ∷ 1 ∷ 0 ∷ 0x21 ∷ 0 ∷ 2 ∷ 0 ∷ 0 ∷ 0 ∷ 0 ∷ 0 ∷ 0 ∷ 0 ∷ 0 ∷ 0 ∷ 0 ∷ []

abbrev object_tree : ClassTree
object_tree = record { major = 50; flags = 0x21; pool = Unusable ∷ Utf8 object ∷ Class 1 ∷ []; this = 2; sup = 0; interfaces = []; fields = []; methods = [] }

-- a public class that extends it, with the fields `public int x` and `public static int s`
abbrev a_bytes : List ℕ
a_bytes =
    0xCA ∷ 0xFE ∷ 0xBA ∷ 0xBE ∷ 0 ∷ 0 ∷ 0 ∷ 50 ∷ 0 ∷ 8 ∷ 1 ∷ 0 ∷ 1 ∷ 65 ∷ 7 ∷ 0 ∷ 1 ∷ 1 ∷ 0 ∷ 16 ∷ codes "java/lang/Object"
    ++ 7 ∷ 0 ∷ 3 ∷ 1 ∷ 0 ∷ 1 ∷ 120 ∷ 1 ∷ 0 ∷ 1 ∷ 73 ∷ 1 ∷ 0 ∷ 1 ∷ 115 ∷ 0 ∷ 0x21 ∷ 0 ∷ 2 ∷ 0 ∷ 4 ∷ 0 ∷ 0
    ∷ 0 ∷ 2 ∷ 0 ∷ 1 ∷ 0 ∷ 5 ∷ 0 ∷ 6 ∷ 0 ∷ 0 ∷ 0 ∷ 9 ∷ 0 ∷ 7 ∷ 0 ∷ 6 ∷ 0 ∷ 0 ∷ 0 ∷ 0 ∷ 0 ∷ 0 ∷ []

abbrev field : ℕ → ℕ → FieldTree
field flags name = record { flags = flags; name = name; desc = 6; value = 0 }

abbrev a_tree : ClassTree
a_tree = record {
  major = 50;
  flags = 0x21;
  pool = Unusable ∷ Utf8 a ∷ Class 1 ∷ Utf8 object ∷ Class 3 ∷ Utf8 (codes "x") ∷ Utf8 (codes "I") ∷ Utf8 (codes "s") ∷ [];
  this = 2;
  sup = 4;
  interfaces = [];
  fields = field 0x0001 5 ∷ field 0x0009 7 ∷ [];
  methods = [];
}

object_is_read : reading_of object_bytes ≡ IsClass object_tree
unfolding reading_of tree_behind version_at parts_at linked_pool_at pool_at entries_at slot_at entry_at entry_by text_at times member_at attribute_at is_linked tree_of have_names each is_well_formed is_class_declaration are_class_flags are_declared has_distinct_parts are_distinct is_class_name units_of
object_is_read = refl

a_is_read : reading_of a_bytes ≡ IsClass a_tree
unfolding reading_of tree_behind version_at parts_at linked_pool_at pool_at entries_at slot_at entry_at entry_by text_at times member_at attribute_at is_linked tree_of have_names content_of constant_of field_of each is_well_formed is_class_declaration are_class_flags are_field_flags are_declared has_distinct_parts are_distinct is_class_name units_of base_type class_type_of element_type_of field_type_of
a_is_read = refl

abbrev folders : FolderLists
folders = record { boot = codes "b" ∷ []; platform = []; app = codes "c" ∷ [] }

abbrev object_place : Place
object_place = record { loader = Boot; folder = 0; path = codes "b/java/lang/Object.class" }

-- where the class A is asked for first, and isn't
abbrev boot_place : Place
boot_place = record { loader = Boot; folder = 0; path = codes "b/A.class" }

abbrev a_place : Place
a_place = record { loader = App; folder = 2; path = codes "c/A.class" }

abbrev with_object : Contents
with_object = insert empty (codes "b/java/lang/Object.class") object_bytes

abbrev contents : Contents
contents = insert with_object (codes "c/A.class") a_bytes

abbrev two : RunFiles
two = record { contents = contents; folders = folders }

object_there : get contents (codes "b/java/lang/Object.class") ≡ Some object_bytes
object_there =
    get-insert nat_list_cmp_total with_object (codes "c/A.class") a_bytes (codes "b/java/lang/Object.class")
    ∙ get-insert nat_list_cmp_total empty (codes "b/java/lang/Object.class") object_bytes (codes "b/java/lang/Object.class")

a_there : get contents (codes "c/A.class") ≡ Some a_bytes
a_there = get-insert nat_list_cmp_total with_object (codes "c/A.class") a_bytes (codes "c/A.class")

not_there : get contents (codes "b/A.class") ≡ None
not_there =
    get-insert nat_list_cmp_total with_object (codes "c/A.class") a_bytes (codes "b/A.class")
    ∙ get-insert nat_list_cmp_total empty (codes "b/java/lang/Object.class") object_bytes (codes "b/A.class")
    ∙ get-empty (slice_cmp nat_cmp) (codes "b/A.class")

object_asked : files_of folders App object ≡ object_place ∷ []
unfolding path_of text_of characters_of all_some units_of is_class_name utf16_chars encode
object_asked = refl

a_asked : files_of folders App a ≡ boot_place ∷ a_place ∷ []
unfolding path_of text_of characters_of all_some units_of is_class_name utf16_chars encode
a_asked = refl

abbrev object_file : ClassFile
object_file = file_at object_place object_bytes

abbrev a_file : ClassFile
a_file = file_at a_place a_bytes

object_found : file_of two App object ≡ Some object_file
object_found = file_there two object object_place [] object_bytes object_asked object_there

a_found : file_of two App a ≡ Some a_file
a_found =
    ap (λ (files : List Place). first_of contents files >>= read) a_asked
    ∙ ap (λ (o : Option (List ℕ)). (if is_some o then Some boot_place else first_of contents (a_place ∷ [])) >>= read) not_there
    ∙ ap (λ (o : Option (List ℕ)). (if is_some o then Some a_place else None) >>= read) a_there
    ∙ ap (option_map (file_at a_place)) a_there
  where
    read : Place → Option ClassFile
    read place = option_map (file_at place) (get contents place.path)

-- ---- the classes

class_there : (name : Name) (file : ClassFile) (tree : ClassTree) → file_of two App name ≡ Some file → reading_of file.bytes ≡ IsClass tree
    → class_of two App name ≡ Some (record { file = file; tree = tree })
class_there name file tree found spells =
    ap found_in found ∙ ap (λ (r : Reading). option_map (λ (tree : ClassTree). the_class tree) (tree_in r)) spells
  where
    the_class : ClassTree → FoundClass
    the_class tree = record { file = file; tree = tree }

object_class : class_of two App object ≡ Some (record { file = object_file; tree = object_tree })
object_class = class_there object object_file object_tree object_found object_is_read

a_class : class_of two App a ≡ Some (record { file = a_file; tree = a_tree })
a_class = class_there a a_file a_tree a_found a_is_read

-- ---- the load

abbrev on_object : Base
on_object = base_of Superclass object

object_passes : tests two a App on_object ≡ nothing
object_passes =
    ap (λ (c : Option FoundClass). and_then (unless (is_class_that (is_accessible a App object) c) IllegalAccessError)
    (unless (is_class_that (λ (c : FoundClass). suits Superclass c.tree.flags) c) IncompatibleClassChangeError)) object_class

object_below : load_under two (a ∷ []) App object ≡ record { fault = None; events = Begins object ∷ Completes object ∷ [] }
object_below = loads_level two (a ∷ []) App object object_file object_tree object_found refl object_is_read refl

abbrev events : List Event
events = Begins a ∷ Begins object ∷ Completes object ∷ Completes a ∷ []

-- The superclass is loaded in the course of the load of the class.
pub loads : load_of two App a ≡ record { fault = None; events = events }
loads =
    loads_level two [] App a a_file a_tree a_found refl a_is_read refl
    ∙ ap (λ (o : Outcome). begins a (and_then (and_then (and_then o (tests two a App on_object)) nothing) (completes a))) object_below
    ∙ ap (λ (o : Outcome). begins a (and_then (and_then (and_then (record { fault = None; events = Begins object ∷ Completes object ∷ [] }) o) nothing) (completes a))) object_passes

-- It stands before the class in the load order, though its loading began later.
pub loads_in_order : Loads two App a [] ≡ object ∷ a ∷ []
loads_in_order = ap (λ (o : Outcome). order_after [] o.events) loads

pub begins_in_order : BeginsBy two App a [] ≡ a ∷ object ∷ []
begins_in_order = ap (λ (o : Outcome). begun_after [] o.events) loads

-- ---- what stands above the class

object_alone : (n : ℕ) → supers_up n two object ≡ []
unfolding supers_up
object_alone zero = refl
object_alone (suc n) = ap (λ (c : Option FoundClass). supers_by (supers_up n two) (sup_in c)) object_class

pub a_supers : supers two a ≡ object ∷ []
a_supers =
    ap (λ (n : ℕ). supers_up n two a) (add-one (len contents))
    ∙ supers_next (len contents) two a
    ∙ ap (λ (c : Option FoundClass). supers_by (supers_up (len contents) two) (sup_in c)) a_class
    ∙ ap (λ (ns : List Name). object ∷ ns) (object_alone (len contents))

object_implements_none : (n : ℕ) → superinterfaces_up n two object ≡ []
unfolding superinterfaces_up
object_implements_none zero = refl
object_implements_none (suc n) = ap (λ (c : Option FoundClass). superinterfaces_by (superinterfaces_up n two) (sup_in c) (interfaces_in c)) object_class

pub a_superinterfaces : superinterfaces two a ≡ []
a_superinterfaces =
    ap (λ (n : ℕ). superinterfaces_up n two a) (add-one (len contents))
    ∙ superinterfaces_next (len contents) two a
    ∙ ap (λ (c : Option FoundClass). superinterfaces_by (superinterfaces_up (len contents) two) (sup_in c) (interfaces_in c)) a_class
    ∙ ap (λ (ns : List Name). appended [] (ns ++ [])) (object_implements_none (len contents))

-- ---- its record

nothing_above : size_above two a ≡ 0
nothing_above = ap (λ (ns : List Name). sum (map (own_size two) ns)) a_supers ∙ ap (λ (c : Option FoundClass). sum (own_size_in c ∷ [])) object_class

abbrev a_facts : Facts
a_facts = record {
  name = a;
  flags = 0x21;
  loader = App;
  folder = 2;
  major = 50;
  sup = Some object;
  interfaces = [];
  pool =
      names.Unusable ∷ names.Utf8 a ∷ names.Class a ∷ names.Utf8 object ∷ names.Class object ∷ names.Utf8 (codes "x") ∷ names.Utf8 (codes "I")
      ∷ names.Utf8 (codes "s") ∷ [];
  fields =
      record { name = codes "x"; desc = codes "I"; flags = 0x0001; slot = 0; value = 0 }
      ∷ record { name = codes "s"; desc = codes "I"; flags = 0x0009; slot = 0; value = 0 } ∷ [];
  methods = [];
  instance_size = 1;
  static_size = 1;
}

pub a_record : record_of two a ≡ Some a_facts
unfolding facts_of field_records
a_record =
    ap (option_map (λ (c : FoundClass). facts_of c.file.loader c.file.folder (size_above two a) c.tree)) a_class
    ∙ ap (λ (size : ℕ). Some (facts_of App 2 size a_tree)) nothing_above

-- ---- its link, and the limits

pub a_links : link_of two a ≡ nothing
a_links = link_is_nothing two a

a_small : is_larger (file_of two App a) ≡ false
a_small = ap is_larger a_found

object_small : is_larger (file_of two App object) ≡ false
object_small = ap is_larger object_found

pub no_limit : passed (world_of_files two) [] events ≡ None
no_limit = rw (a_small, object_small) refl
