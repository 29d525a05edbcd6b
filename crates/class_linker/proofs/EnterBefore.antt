-- Entering a name that is loaded, or whose class file was read, whether the store of files tells or not.
use Rattle.std.proofs.Common.{◌≡◌, ℕ, ◌<◌, List, length, refl, sym, ◌∙◌, ap, subst, Bool, true, false}
use Rattle.std.specs.Prelude.{Option, None, Some, Ok, slice_get, if◌then◌else◌}
use Rattle.std.specs.Option.{option_map}
use Rattle.std.proofs.lemmas.Bool.{le-ltb}
use Rattle.std.proofs.lemmas.Option.{slice_get_within}
use Rattle.jsa_files.specs.declared.TheConstants.{MAX_FILE}
use Rattle.jsa_files.specs.Store.{Store}
use Rattle.loader_rules.specs.Lists.{FolderLists}
use Rattle.loader_rules.specs.declared.loader.Loader.{Loader}
use Rattle.loader_rules.specs.declared.loader.Loader.TheVariants.{App}
use Rattle.class_record.specs.declared.fault.JavaFault.TheVariants.{NoClassDefFoundError}
use Rattle.class_record.specs.Facts.{Facts, name_of}
use Rattle.class_record.specs.Files.{Name, RunFiles, file_of, sees}
use Rattle.class_record.specs.Loading.{is_among}
use Rattle.class_record.specs.Records.{record_of}
use Rattle.class_record.specs.Worlds.{is_larger, world_of_files}
use Rattle.class_record.specs.Calls.{Progress}
use Rattle.class_record.proofs.Leaving.{leaves_nothing}
use Rattle.loaded_classes.specs.Table.{ClassTable}
use Rattle.class_linker.specs.declared.entering.Entered.{Entered}
use Rattle.class_linker.specs.declared.entering.Entered.TheVariants.{Present, Fails}
use Rattle.class_linker.specs.declared.readings.Reading.{Reading}
use Rattle.class_linker.specs.declared.under_way.Frame.{Frame}
use Rattle.class_linker.specs.Adds.{IsShortHeld}
use Rattle.class_linker.specs.Entries.{Entry, entry_of}
use Rattle.class_linker.specs.Kept.{name_read, names_read, names_loaded, IsKept, IsPath}
use Rattle.class_linker.specs.Rights.{ForFiles, IsRead, IsRight, IsPathOf, files_in, progress_of}
use Rattle.class_linker.specs.Steps.{ForStores, IsAsked, Enters, KeepsPath}
use Rattle.class_linker.proofs.EnterLists.{get_mapped, all_at, among_at}
use Rattle.class_linker.proofs.EnterPaths.{short_at, keeps_read, path_read}
use Rattle.class_linker.proofs.EnterTold.{leaves_begun, enters_read, path_told}
use Rattle.class_linker.proofs.EnterLoaded.{enters_loaded}

-- ---- a loaded class

present_keeps : (name : Name) (t : ClassTable) (path : List Frame) (seen : Bool) → is_among name (names_loaded t) ≡ true
    → KeepsPath name t path path (Ok (if seen then Present else Fails NoClassDefFoundError))
present_keeps name t path true h = (refl, h)
present_keeps name t path false h = refl

pub keeps_loaded : (name : Name) (t : ClassTable) (path : List Frame) (id : ℕ) (seen : Bool) (result : Entered) → slice_get (names_loaded t) id ≡ Some name
    → result ≡ (if seen then Present else Fails NoClassDefFoundError) → KeepsPath name t path path (Ok result)
keeps_loaded name t path id seen result at is =
    subst (λ (e : Entered). KeepsPath name t path path (Ok e)) (sym is) (present_keeps name t path seen (among_at name (names_loaded t) id at))

module _ (rs : List Reading) (t : ClassTable) (path : List Frame) (from : Loader) (name : Name) where
  told_by : (store : Store) (lists : FolderLists) (id : ℕ) (f : Facts) (loader : Loader) (result : Entered) → IsRight (files_in store lists) rs t → IsKept rs t → IsPath rs t path
      → slice_get (names_loaded t) id ≡ Some name → slice_get t.classes id ≡ Some f → f.name ≡ name → option_map (λ (f : Facts). f.loader) (slice_get t.classes id) ≡ Some loader
      → result ≡ (if sees from loader then Present else Fails NoClassDefFoundError)
      → Enters (files_in store lists) from name path path (progress_of store rs t) (progress_of store rs t) (Ok result)
  told_by store lists id f loader result right kept on_path at there named of is =
      let told : record_of (files_in store lists) f.name ≡ Some f = all_at (λ (f : Facts). (world_of_files (files_in store lists)).class f.name ≡ Some f) t.classes id f right.facts there in
      let here : record_of (files_in store lists) name ≡ Some f = subst (λ (n : Name). record_of (files_in store lists) n ≡ Some f) named told in
      let same : Some f.loader ≡ Some loader = sym (ap (option_map (λ (f : Facts). f.loader)) there) ∙ of in
      let l : f.loader ≡ loader = cc in
      subst (λ (e : Entered). Enters (files_in store lists) from name path path (progress_of store rs t) (progress_of store rs t) (Ok e)) (sym is)
      (enters_loaded (files_in store lists) rs t path from name store.reads right kept on_path (among_at name (names_loaded t) id at) f here (sees from loader) (ap (sees from) l))

  pub loaded_told : (o : Option Store) (lists : FolderLists) (id : ℕ) (loader : Loader) (result : Entered) → ForFiles o lists (λ p. IsRight p rs t) → IsKept rs t → IsPath rs t path
      → slice_get (names_loaded t) id ≡ Some name → option_map (λ (f : Facts). f.loader) (slice_get t.classes id) ≡ Some loader
      → result ≡ (if sees from loader then Present else Fails NoClassDefFoundError)
      → ForStores o o lists (λ p s u. Enters p from name path path (progress_of s rs t) (progress_of u rs t) (Ok result))
  loaded_told None lists id loader result right kept on_path at of is = tt
  loaded_told (Some store) lists id loader result right kept on_path at of is =
      let f = get_mapped name_of t.classes id name at in
      told_by store lists id f.0 loader result right kept on_path at f.1 f.2 of is

-- ---- a class file that was read

-- what was read for a name
pub record WasRead (rs : List Reading) (t : ClassTable) (name : Name) (place : ℕ) : Type 0 where
  pub reading : Reading
  pub at : slice_get rs place ≡ Some reading
  pub named : reading.name ≡ name
  pub short : IsShortHeld reading.held
  pub new : is_among name (names_loaded t) ≡ false
  pub among : is_among name (names_read rs) ≡ true

pub was_read : (rs : List Reading) (t : ClassTable) (name : Name) (place : ℕ) → IsKept rs t → is_among name (names_loaded t) ≡ false → slice_get (names_read rs) place ≡ Some name → WasRead rs t name place
was_read rs t name place kept new at =
    let r = get_mapped name_read rs place name at in
    record {
      reading = r.0;
      at = r.1;
      named = r.2;
      short = short_at rs t place r.0 kept r.1 (subst (λ (n : Name). is_among n (names_loaded t) ≡ false) (sym r.2) new);
      new = new;
      among = among_at name (names_read rs) place at;
    }

pub place_within : (rs : List Reading) (t : ClassTable) (name : Name) (place : ℕ) → WasRead rs t name place → place < length rs
place_within rs t name place w = slice_get_within rs place w.reading w.at

pub held_within : (rs : List Reading) (t : ClassTable) (name : Name) (place : ℕ) → WasRead rs t name place → (r : Reading) → slice_get rs place ≡ Some r → IsShortHeld r.held
held_within rs t name place w r at =
    let same : Some w.reading ≡ Some r = sym w.at ∙ at in
    let i : w.reading ≡ r = cc in
    subst (λ (r : Reading). IsShortHeld r.held) i w.short

small_read : (p : RunFiles) (r : Reading) (name : Name) → IsRead p r → r.name ≡ name → (world_of_files p).is_large name ≡ false
small_read p r name k same = ap (λ (n : Name). is_larger (file_of p App n)) (sym same) ∙ ap is_larger k.found ∙ le-ltb MAX_FILE (length k.file.bytes) k.small

module _ (rs : List Reading) (t : ClassTable) (from : Loader) (name : Name) (place : ℕ) (path : List Frame) (w : WasRead rs t name place) (e : Entry) (is : entry_of from name place w.reading path ≡ e) where
  pub read_keeps : KeepsPath name t path e.path (Ok e.answer)
  read_keeps = keeps_read rs t from name place w.reading path w.short e is

  pub read_path : IsPath rs t path → IsAsked name from path → IsPath rs t e.path
  read_path k asked = path_read rs t from name place w.reading path w.short e is k asked w.at w.named w.new

  read_by : (p : RunFiles) (a : Progress) → a.begun ≡ names_read rs → IsRight p rs t → Enters p from name path e.path a a (Ok e.answer)
  read_by p a begun right =
      let k = all_at (IsRead p) rs place w.reading right.readings w.at in
      enters_read p from name place w.reading path k w.named w.short a a (λ unseen. leaves_nothing (world_of_files p) a) (λ under. leaves_nothing (world_of_files p) a)
      (leaves_begun (world_of_files p) name a (ap (is_among name) begun ∙ w.among) (small_read p w.reading name k w.named)) e is

  pub read_told : (o : Option Store) (lists : FolderLists) → ForFiles o lists (λ p. IsRight p rs t)
      → ForStores o o lists (λ p s u. Enters p from name path e.path (progress_of s rs t) (progress_of u rs t) (Ok e.answer))
  read_told None lists right = tt
  read_told (Some store) lists right = read_by (files_in store lists) (progress_of store rs t) refl right

  pub read_path_told : (o : Option Store) (lists : FolderLists) → ForFiles o lists (λ p. IsRight p rs t) → IsAsked name from path
      → ForFiles o lists (λ p. IsPathOf p t path) → ForFiles o lists (λ p. IsPathOf p t e.path)
  read_path_told None lists right asked k = tt
  read_path_told (Some store) lists right asked k =
      path_told (files_in store lists) from name place w.reading path (all_at (IsRead (files_in store lists)) rs place w.reading right.readings w.at) w.named w.short t e is k asked
