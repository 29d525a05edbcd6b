-- Entering a name, whether the store of files tells or not.
use Rattle.std.proofs.Common.{◌≡◌, inl, inr, List, sym, subst, false}
use Rattle.std.specs.Prelude.{Option, None, Some, Ok, Err}
use Rattle.jsa_files.specs.declared.fault.FilesFault.{FilesFault}
use Rattle.jsa_files.specs.Store.{Store}
use Rattle.loader_rules.specs.declared.loader.Found.{Found}
use Rattle.loader_rules.specs.declared.loader.Loader.{Loader}
use Rattle.loader_rules.specs.Lists.{FolderLists}
use Rattle.loader_rules.specs.Finding.{found}
use Rattle.loader_rules.specs.Outcomes.{FindAnswer, FindsAsTold, FindsSmall, store_after_find, reads_after}
use Rattle.class_record.specs.declared.fault.JavaFault.TheVariants.{NoClassDefFoundError}
use Rattle.class_record.specs.declared.fault.ClassesFault.{ClassesFault}
use Rattle.class_record.specs.Files.{Name, RunFiles}
use Rattle.class_record.specs.Loading.{is_among}
use Rattle.class_record.specs.Worlds.{world_of_files}
use Rattle.class_record.specs.Calls.{Stops}
use Rattle.loaded_classes.specs.Table.{ClassTable}
use Rattle.class_linker.specs.declared.entering.Entered.TheVariants.{Fails}
use Rattle.class_linker.specs.declared.readings.Reading.{Reading}
use Rattle.class_linker.specs.declared.under_way.Frame.{Frame}
use Rattle.class_linker.specs.Entries.{Entry, AddsEntry, MayAdd, fault_after}
use Rattle.class_linker.specs.Kept.{names_read, IsPath}
use Rattle.class_linker.specs.Rights.{ForFiles, IsRight, IsPathOf, files_in, progress_of}
use Rattle.class_linker.specs.Steps.{ForStores, IsAsked, Enters, load_in}
use Rattle.class_linker.proofs.EnterPaths.{unread_apart}
use Rattle.class_linker.proofs.EnterFinds.{enters_missing, stops_found, enters_found, path_found, right_added}

-- ---- a search

-- what a search has answered and left
pub record Searched (o n : Option Store) (lists : FolderLists) (from : Loader) (name : Name) (answer : FindAnswer) : Type 0 where
  pub told : FindsAsTold o lists from name answer
  pub small : FindsSmall answer
  pub store : n ≡ store_after_find o lists from name answer

pub searched : (o n : Option Store) (lists : FolderLists) (from : Loader) (name : Name) (x y : Option Found) → x ≡ y → FindsAsTold o lists from name (Ok x) → FindsSmall (Ok x)
    → n ≡ store_after_find o lists from name (Ok x) → Searched o n lists from name (Ok y)
searched o n lists from name x y is told small store =
    subst (λ (x : Option Found). Searched o n lists from name (Ok x)) is (record { told = told; small = small; store = store })

-- Nothing is found.
pub none_told : (o n : Option Store) (lists : FolderLists) (from : Loader) (name : Name) (rs : List Reading) (t : ClassTable) (path : List Frame) → Searched o n lists from name (Ok None)
    → ForStores o n lists (λ p s u. Enters p from name path path (progress_of s rs t) (progress_of u rs t) (Ok (Fails NoClassDefFoundError)))
none_told None n lists from name rs t path s = tt
none_told (Some store) n lists from name rs t path s =
    subst (λ (n : Option Store). ForStores (Some store) n lists (λ p s u. Enters p from name path path (progress_of s rs t) (progress_of u rs t) (Ok (Fails NoClassDefFoundError)))) (sym s.store)
    (enters_missing store lists from name path (progress_of store rs t) s.told)

-- The search ends with a fault.
pub err_told : (o n : Option Store) (lists : FolderLists) (from : Loader) (name : Name) (rs : List Reading) (t : ClassTable) (path : List Frame) (fault : FilesFault) (end : ClassesFault)
    → Searched o n lists from name (Err fault) → end ≡ fault_after fault → IsPath rs t path → is_among name (names_read rs) ≡ false
    → ForStores o n lists (λ p s u. Stops (world_of_files p) (load_in p path from name) (progress_of s rs t) end)
err_told None n lists from name rs t path fault end s e k new = tt
err_told (Some store) n lists from name rs t path fault end s e k new =
    subst (λ (n : Option Store). ForStores (Some store) n lists (λ p s u. Stops (world_of_files p) (load_in p path from name) (progress_of s rs t) end)) (sym s.store)
    (subst (λ (end : ClassesFault). Stops (world_of_files (files_in store lists)) (load_in (files_in store lists) path from name) (progress_of store rs t) end) (sym e)
    (stops_found store lists from name path (progress_of store rs t) fault s.told s.small (unread_apart rs t path name k new)))

-- A class file is found.
module _ (from : Loader) (name : Name) (file : Found) (before after : List Reading) (t u : ClassTable) (same : u ≡ t) where
  abbrev RightAfter : RunFiles → Type 0
  RightAfter p = IsRight p after u

  right_by : (store : Store) (lists : FolderLists) → FindsAsTold (Some store) lists from name (Ok (Some file)) → FindsSmall (Ok (Some file)) → MayAdd before after name file.loader file.folder file.bytes.items
      → IsRight (files_in store lists) before t → IsRight (files_in store lists) after t
  right_by store lists h small (inl e) k = subst (λ (rs : List Reading). IsRight (files_in store lists) rs t) (sym e) k
  right_by store lists h small (inr a) k = right_added store lists from name file h small before after a.0 a.1 t k

  pub right_found : (o n : Option Store) (lists : FolderLists) → Searched o n lists from name (Ok (Some file)) → MayAdd before after name file.loader file.folder file.bytes.items
      → ForFiles o lists (λ p. IsRight p before t) → ForFiles n lists RightAfter
  right_found None n lists s a k = subst (λ (n : Option Store). ForFiles n lists RightAfter) (sym s.store) tt
  right_found (Some store) n lists s a k = subst (λ (n : Option Store). ForFiles n lists RightAfter) (sym s.store)
      (subst (λ (u : ClassTable). IsRight (files_in store lists) after u) (sym same) (right_by store lists s.told s.small a k))

  module _ (path : List Frame) (e : Entry) (a : AddsEntry before after from name file.loader file.folder file.bytes.items path e) where
    abbrev EntersSo : RunFiles → Store → Store → Type 0
    EntersSo p s now = Enters p from name path e.path (progress_of s before t) (progress_of now after u) (Ok e.answer)

    pub found_told : (o n : Option Store) (lists : FolderLists) → Searched o n lists from name (Ok (Some file)) → IsPath before t path → is_among name (names_read before) ≡ false
        → ForStores o n lists EntersSo
    found_told None n lists s k new = tt
    found_told (Some store) n lists s k new = subst (λ (n : Option Store). ForStores (Some store) n lists EntersSo) (sym s.store)
        (subst (λ (u : ClassTable). Enters (files_in store lists) from name path e.path (progress_of store before t)
        (progress_of (record { contents = store.contents; reads = reads_after store.reads (found store.contents lists from name) (Ok (Some file)) }) after u) (Ok e.answer)) (sym same)
        (enters_found store lists from name file s.told s.small before after t path e a k new))

    pub found_path : (o n : Option Store) (lists : FolderLists) → Searched o n lists from name (Ok (Some file)) → IsAsked name from path
        → ForFiles o lists (λ p. IsPathOf p t path) → ForFiles n lists (λ p. IsPathOf p u e.path)
    found_path None n lists s asked k = subst (λ (n : Option Store). ForFiles n lists (λ p. IsPathOf p u e.path)) (sym s.store) tt
    found_path (Some store) n lists s asked k = subst (λ (n : Option Store). ForFiles n lists (λ p. IsPathOf p u e.path)) (sym s.store)
        (subst (λ (u : ClassTable). IsPathOf (files_in store lists) u e.path) (sym same) (path_found store lists from name file s.told s.small before after t path e a k asked))
