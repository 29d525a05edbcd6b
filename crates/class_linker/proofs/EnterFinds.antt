-- Entering a name whose class file is found now, where the store of files tells.
use Rattle.std.proofs.Common.{◌≡◌, ℕ, ◌<◌, ◌≤◌, List, [], ◌∷◌, ◌++◌, length, refl, sym, ◌∙◌, ap, subst, Bool, true, false}
use Rattle.std.specs.Prelude.{Option, None, Some, Ok, Err, nat_lt, if◌then◌else◌}
use Rattle.std.specs.List.{AllByRecursion}
use Rattle.std.specs.Option.{option_map, option_to_list}
use Rattle.std.specs.FinMap.{get}
use Rattle.std.proofs.lemmas.Bool.{le-ltb, lt-ltb}
use Rattle.jsa_base.specs.declared.quantity.Quantity.TheVariants.{FileSize}
use Rattle.jsa_files.specs.declared.TheConstants.{MAX_FILE}
use Rattle.jsa_files.specs.declared.fault.FilesFault.{FilesFault}
use Rattle.jsa_files.specs.declared.fault.FilesFault.TheVariants as files
use Rattle.jsa_files.specs.Store.{Store}
use Rattle.loader_rules.specs.declared.loader.Found.{Found}
use Rattle.loader_rules.specs.declared.loader.Loader.{Loader}
use Rattle.loader_rules.specs.declared.loader.Loader.TheVariants.{App}
use Rattle.loader_rules.specs.Lists.{FolderLists}
use Rattle.loader_rules.specs.Finding.{Place, found}
use Rattle.loader_rules.specs.Outcomes.{Finds, FindsSmall, place_of, reads_after}
use Rattle.class_record.specs.declared.fault.JavaFault.TheVariants.{NoClassDefFoundError}
use Rattle.class_record.specs.Files.{Name, RunFiles, ClassFile, file_at, file_of, sees}
use Rattle.class_record.specs.Readings.{reading_of}
use Rattle.class_record.specs.Loading.{Begins, Outcome, fails, begins, is_among, on_reading, load_under}
use Rattle.class_record.specs.Worlds.{is_larger, world_of_files}
use Rattle.class_record.specs.Calls.{Progress, Leaves, Stops, passed}
use Rattle.class_record.proofs.Finding.{file_there, file_seen, file_from_app}
use Rattle.class_record.proofs.Leaving.{leaves_nothing}
use Rattle.loaded_classes.specs.Table.{ClassTable}
use Rattle.class_linker.specs.declared.entering.Entered.TheVariants.{Fails}
use Rattle.class_linker.specs.declared.readings.Reading.{Reading}
use Rattle.class_linker.specs.declared.under_way.Frame.{Frame}
use Rattle.class_linker.specs.Adds.{Adds, read_as}
use Rattle.class_linker.specs.Entries.{Entry, AddsEntry, fault_after}
use Rattle.class_linker.specs.Kept.{names_read, names_loaded, names_under, IsPath}
use Rattle.class_linker.specs.Rights.{IsRead, IsRight, IsPathOf, files_in, progress_of, progress_at}
use Rattle.class_linker.specs.Steps.{IsAsked, Enters, load_in}
use Rattle.class_linker.proofs.EnterLists.{all_end}
use Rattle.class_linker.proofs.EnterPaths.{names_more, unread_apart}
use Rattle.class_linker.proofs.EnterTold.{load_missing, load_begins, comes_by, leaves_read, enters_read, path_told}

-- ---- the class file at a place

module _ (s : Store) (lists : FolderLists) (from : Loader) (name : Name) where
  abbrev p : RunFiles
  p = files_in s lists

  file_is : (place : Place) (bytes : List ℕ) → found s.contents lists from name ≡ Some place → get s.contents place.path ≡ Some bytes → file_of p from name ≡ Some (file_at place bytes)
  file_is place bytes e h = ap (file_there s.contents) e ∙ ap (option_map (file_at place)) h

  large_is : (file : ClassFile) (b : Bool) → file_of p from name ≡ Some file → nat_lt MAX_FILE (length file.bytes) ≡ b → (world_of_files p).is_large name ≡ b
  large_is file b e h = ap is_larger (file_from_app p from name file e) ∙ h

  -- ---- none is found

  missing : found s.contents lists from name ≡ None → file_of p from name ≡ None
  missing e = ap (file_there s.contents) e

  pub enters_missing : (path : List Frame) (a : Progress) → found s.contents lists from name ≡ None → Enters p from name path path a a (Ok (Fails NoClassDefFoundError))
  enters_missing path a e = comes_by (world_of_files p) (fails NoClassDefFoundError) _ _ a a (load_missing p path from name (missing e)) refl (leaves_nothing (world_of_files p) a)

  -- ---- one is found that is too large

  large_first : (order : List Name) (o : Outcome) → (world_of_files p).is_large name ≡ true → passed (world_of_files p) order (begins name o).events ≡ Some (FileSize, MAX_FILE)
  large_first order o h = ap (λ (b : Bool). if b then Some (FileSize, MAX_FILE) else passed (world_of_files p) order o.events) h

  stops_large : (path : List Frame) (a : Progress) (place : Place) (bytes : List ℕ) → found s.contents lists from name ≡ Some place → get s.contents place.path ≡ Some bytes
      → MAX_FILE < length bytes → is_among name (names_under path) ≡ false → passed (world_of_files p) a.order (load_in p path from name).events ≡ Some (FileSize, MAX_FILE)
  stops_large path a place bytes e h large apart =
      let at = file_is place bytes e h in
      ap (λ (o : Outcome). passed (world_of_files p) a.order o.events) (load_begins p path from name (file_at place bytes) at apart)
      ∙ large_first a.order (on_reading (load_under p) p (names_under path) name place.loader (reading_of bytes)) (large_is (file_at place bytes) true at (lt-ltb MAX_FILE (length bytes) large))

  pub stops_found : (path : List Frame) (a : Progress) (fault : FilesFault) → Finds s.contents (found s.contents lists from name) (Err fault) → FindsSmall (Err fault)
      → is_among name (names_under path) ≡ false → Stops (world_of_files p) (load_in p path from name) a (fault_after fault)
  stops_found path a files.Failed h small apart = tt
  stops_found path a (files.TooLarge size) h small apart = stops_large path a h.0 h.2 h.1 h.3 (subst (λ (n : ℕ). MAX_FILE < n) (sym h.4) small) apart
  stops_found path a (files.TooMany count) h small apart = tt
  stops_found path a files.Memory h small apart = tt

-- ---- one is found that is small enough

module _ (s : Store) (lists : FolderLists) (from : Loader) (name : Name) (file : Found) (h : Finds s.contents (found s.contents lists from name) (Ok (Some file))) (small : length file.bytes.items ≤ MAX_FILE) where
  abbrev q : RunFiles
  q = files_in s lists

  abbrev class_file : ClassFile
  class_file = file_at (place_of file h.0) file.bytes.items

  found_here : file_of q from name ≡ Some class_file
  found_here = file_is s lists from name (place_of file h.0) file.bytes.items h.1 h.2

  found_app : file_of q App name ≡ Some class_file
  found_app = file_from_app q from name class_file found_here

  seen_here : sees from file.loader ≡ true
  seen_here = by_case (sees from file.loader) refl (sym found_here ∙ file_seen q from name class_file found_app)
    where
      by_case : (b : Bool) → sees from file.loader ≡ b → Some class_file ≡ (if b then Some class_file else None) → b ≡ true
      by_case true e k = refl
      by_case false e k = absurd (cc)

  module _ (before after : List Reading) (place : ℕ) (a : Adds before after place name file.loader file.folder file.bytes.items) where
    pub is_read : IsRead q (read_as name file.loader file.folder a.held)
    is_read = record { file = class_file; found = found_app; loader = refl; folder = refl; small = small; held = a.is_held }

    pub right_added : (t : ClassTable) → IsRight q before t → IsRight q after t
    right_added t k = record {
      readings = subst (AllByRecursion (IsRead q)) (sym a.readings) (all_end (IsRead q) before (read_as name file.loader file.folder a.held) k.readings is_read);
      order = k.order;
      facts = k.facts;
      trees = k.trees;
    }

    leaves_found : (t : ClassTable) → is_among name (names_read before) ≡ false
        → Leaves (world_of_files q) (Begins name ∷ []) (progress_of s before t) (progress_at (reads_after s.reads (found s.contents lists from name) (Ok (Some file))) after t)
    leaves_found t new =
        subst (λ (ns : List Name). Leaves (world_of_files q) (Begins name ∷ []) (progress_of s before t)
        (record { order = names_loaded t; begun = ns; reads = s.reads ++ option_to_list (option_map (λ (place : Place). place.path) (found s.contents lists from name)) }))
        (sym (names_more before after place name file.loader file.folder file.bytes.items a))
        (subst (λ (o : Option Place). Leaves (world_of_files q) (Begins name ∷ []) (progress_of s before t)
        (record { order = names_loaded t; begun = names_read before ++ name ∷ []; reads = s.reads ++ option_to_list (option_map (λ (place : Place). place.path) o) }))
        (sym h.1)
        (leaves_read (world_of_files q) name h.0 (names_loaded t) (names_read before) s.reads new (ap (option_map (λ (f : ClassFile). f.path)) found_app)
        (large_is s lists from name class_file false found_here (le-ltb MAX_FILE (length file.bytes.items) small))))

  pub enters_found : (before after : List Reading) (t : ClassTable) (path : List Frame) (e : Entry) → AddsEntry before after from name file.loader file.folder file.bytes.items path e
      → IsPath before t path → is_among name (names_read before) ≡ false
      → Enters q from name path e.path (progress_of s before t) (progress_at (reads_after s.reads (found s.contents lists from name) (Ok (Some file))) after t) (Ok e.answer)
  enters_found before after t path e a k new =
      let apart : is_among name (names_under path) ≡ false = unread_apart before t path name k new in
      enters_read q from name a.place (read_as name file.loader file.folder a.adds.held) path (is_read before after a.place a.adds) refl a.adds.short
      (progress_of s before t) (progress_at (reads_after s.reads (found s.contents lists from name) (Ok (Some file))) after t)
      (λ unseen. let i = seen_here in absurd (cc)) (λ under. absurd (cc)) (leaves_found before after a.place a.adds t new) e a.entry_is

  pub path_found : (before after : List Reading) (t : ClassTable) (path : List Frame) (e : Entry) → AddsEntry before after from name file.loader file.folder file.bytes.items path e
      → IsPathOf q t path → IsAsked name from path → IsPathOf q t e.path
  path_found before after t path e a k asked =
      path_told q from name a.place (read_as name file.loader file.folder a.adds.held) path (is_read before after a.place a.adds) refl a.adds.short t e a.entry_is k asked
