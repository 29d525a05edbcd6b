-- What the load of a name comes to where its class file is told.
use Rattle.std.proofs.Common.{◌≡◌, ℕ, List, [], ◌∷◌, ◌++◌, refl, sym, ◌∙◌, ap, subst, Bool, true, false}
use Rattle.std.specs.Prelude.{Option, None, Some, Ok, if◌then◌else◌}
use Rattle.std.specs.Str.{bytes_eq}
use Rattle.class_tree.specs.declared.tree.ClassTree.{ClassTree}
use Rattle.loader_rules.specs.declared.loader.Loader.{Loader}
use Rattle.loader_rules.specs.declared.loader.Loader.TheVariants.{App}
use Rattle.class_record.specs.declared.fault.JavaFault.{JavaFault}
use Rattle.class_record.specs.declared.fault.JavaFault.TheVariants.{NoClassDefFoundError, ClassFormatError, UnsupportedClassVersionError, ClassCircularityError}
use Rattle.class_record.specs.Files.{Name, RunFiles, ClassFile, file_of, sees}
use Rattle.class_record.specs.Readings as readings
use Rattle.class_record.specs.Readings.{reading_of}
use Rattle.class_tree.specs.ClassNames.{own_name}
use Rattle.class_record.specs.Loading.{Begins, Outcome, fails, begins, is_among, on_found, on_reading, load_under}
use Rattle.class_record.specs.Worlds.{ClassWorld, world_of_files}
use Rattle.class_record.specs.Calls.{Progress, Leaves}
use Rattle.class_record.proofs.Finding.{file_seen}
use Rattle.class_record.proofs.Room.{load_level}
use Rattle.class_record.proofs.Leaving.{leaves_within}
use Rattle.loaded_classes.specs.Table.{ClassTable}
use Rattle.class_linker.specs.declared.readings.Held.{Held}
use Rattle.class_linker.specs.declared.readings.Held.TheVariants.{Tree, OtherVersion, NotClass}
use Rattle.class_linker.specs.declared.readings.Reading.{Reading}
use Rattle.class_linker.specs.declared.under_way.Frame.{Frame}
use Rattle.class_linker.specs.Adds.{IsShortHeld}
use Rattle.class_linker.specs.Entries.{Entry, frame_of, entry_of_held, entry_of}
use Rattle.class_linker.specs.Kept.{names_under, bases_left}
use Rattle.class_linker.specs.Rights.{IsHeldOf, IsRead, IsSeen, AreFramesOf, AreSeen, IsPathOf}
use Rattle.class_linker.specs.Steps.{IsAsked, Comes, Enters, load_in, loads_rest}
use Rattle.class_linker.proofs.EnterPaths.{held_by, entry_by}

-- ---- how a load begins

module _ (p : RunFiles) (path : List Frame) (from : Loader) (name : Name) where
  abbrev under : List Name
  under = names_under path

  abbrev by_file : Option ClassFile → Outcome
  by_file file = on_found (load_under p) p under name file

  pub load_missing : file_of p from name ≡ None → load_in p path from name ≡ fails NoClassDefFoundError
  load_missing e = load_level p under from name ∙ ap by_file e

  load_found : (file : ClassFile) → file_of p from name ≡ Some file
      → load_in p path from name ≡ (if is_among name under then fails ClassCircularityError else begins name (on_reading (load_under p) p under name file.loader (reading_of file.bytes)))
  load_found file e = load_level p under from name ∙ ap by_file e

  load_circular : (file : ClassFile) → file_of p from name ≡ Some file → is_among name under ≡ true → load_in p path from name ≡ fails ClassCircularityError
  load_circular file e h = load_found file e ∙ ap (λ (b : Bool). if b then fails ClassCircularityError else begins name (on_reading (load_under p) p under name file.loader (reading_of file.bytes))) h

  -- The load begins with the name.
  pub load_begins : (file : ClassFile) → file_of p from name ≡ Some file → is_among name under ≡ false
      → load_in p path from name ≡ begins name (on_reading (load_under p) p under name file.loader (reading_of file.bytes))
  load_begins file e h = load_found file e ∙ ap (λ (b : Bool). if b then fails ClassCircularityError else begins name (on_reading (load_under p) p under name file.loader (reading_of file.bytes))) h

  load_reading : (file : ClassFile) (r : readings.Reading) → file_of p from name ≡ Some file → is_among name under ≡ false → reading_of file.bytes ≡ r
      → load_in p path from name ≡ begins name (on_reading (load_under p) p under name file.loader r)
  load_reading file r e h k = load_begins file e h ∙ ap (λ (r : readings.Reading). begins name (on_reading (load_under p) p under name file.loader r)) k

  load_misnamed : (file : ClassFile) (tree : ClassTree) → file_of p from name ≡ Some file → is_among name under ≡ false → reading_of file.bytes ≡ readings.IsClass tree
      → bytes_eq (own_name tree) name ≡ false → load_in p path from name ≡ begins name (fails NoClassDefFoundError)
  load_misnamed file tree e h k own = load_reading file (readings.IsClass tree) e h k ∙ rw own refl

  load_named : (place : ℕ) (file : ClassFile) (tree : ClassTree) → file_of p from name ≡ Some file → is_among name under ≡ false → reading_of file.bytes ≡ readings.IsClass tree
      → bytes_eq (own_name tree) name ≡ true → load_in p path from name ≡ begins name (loads_rest p path (frame_of name place file.loader tree) (bases_left (frame_of name place file.loader tree)))
  load_named place file tree e h k own = load_reading file (readings.IsClass tree) e h k ∙ rw own refl

-- ---- what it comes to

module _ (w : ClassWorld) where
  pub comes_by : (o : Outcome) (from : Outcome) (fault : Option JavaFault) (before after : Progress) → from ≡ o → o.fault ≡ fault → Leaves w o.events before after → Comes w from fault before after
  comes_by o from fault before after e f l = subst (λ (o : Outcome). Comes w o fault before after) (sym e) (record { fault_is = f; leaves = l })

  -- a name that has begun begins again
  pub leaves_begun : (name : Name) (a : Progress) → is_among name a.begun ≡ true → w.is_large name ≡ false → Leaves w (Begins name ∷ []) a a
  leaves_begun name a at small = leaves_within w (Begins name ∷ []) a tt ((at, small), tt)

  -- a name whose loading begins now, and whose class file was read
  pub leaves_read : (name : Name) (path : List ℕ) (order begun : List Name) (reads : List (List ℕ)) → is_among name begun ≡ false → w.path name ≡ Some path → w.is_large name ≡ false
      → Leaves w (Begins name ∷ []) (record { order = order; begun = begun; reads = reads }) (record { order = order; begun = begun ++ name ∷ []; reads = reads ++ path ∷ [] })
  leaves_read name path order begun reads new at small = record {
    order = refl;
    begun = rw new refl;
    reads = rw (new, at) refl;
    limits = rw small refl;
  }

-- ---- what is told of the classes under way

frames_told : (p : RunFiles) (t : ClassTable) (fs : List Frame) → IsPathOf p t fs → AreFramesOf p t fs
frames_told p t [] h = tt
frames_told p t (f ∷ fs) h = h.0

sees_asked : (p : RunFiles) (t : ClassTable) (fs : List Frame) (name : Name) (from : Loader) → IsAsked name from fs → IsPathOf p t fs → file_of p from name ≡ file_of p App name → AreSeen p fs
sees_asked p t [] name from asked h same = tt
sees_asked p t (f ∷ fs) name from asked h same =
    let waits = asked.0 in
    let seen : file_of p f.loader waits.0.name ≡ file_of p App waits.0.name =
    subst (λ (n : Name). file_of p f.loader n ≡ file_of p App n) (sym waits.3) (subst (λ (l : Loader). file_of p l name ≡ file_of p App name) asked.1 same) in
    (subst (IsSeen p f.loader) (sym waits.2) seen, h.1)

-- Entering a name whose class file was read comes to what its load comes to.
module _ (p : RunFiles) (from : Loader) (name : Name) (place : ℕ) (r : Reading) (path : List Frame) (k : IsRead p r) (same : r.name ≡ name) (short : IsShortHeld r.held) where
  by_sight : file_of p from name ≡ (if sees from k.file.loader then Some k.file else None)
  by_sight = file_seen p from name k.file (ap (file_of p App) (sym same) ∙ k.found)

  not_seen : sees from r.loader ≡ false → file_of p from name ≡ None
  not_seen h = by_sight ∙ ap (λ (b : Bool). if b then Some k.file else None) (ap (sees from) k.loader ∙ h)

  is_seen : sees from r.loader ≡ true → file_of p from name ≡ Some k.file
  is_seen h = by_sight ∙ ap (λ (b : Bool). if b then Some k.file else None) (ap (sees from) k.loader ∙ h)

  held_is : (held : Held) → r.held ≡ held → IsHeldOf (reading_of k.file.bytes) held
  held_is held e = subst (IsHeldOf (reading_of k.file.bytes)) e k.held

  path_begun_of : (t : ClassTable) → IsPathOf p t path → IsAsked name from path → file_of p from name ≡ Some k.file → (tree : ClassTree) → IsPathOf p t (frame_of name place r.loader tree ∷ path)
  path_begun_of t h asked seen tree = ((tt, frames_told p t path h), sees_asked p t path name from asked h (seen ∙ sym (ap (file_of p App) (sym same) ∙ k.found)))

  told_path : (t : ClassTable) → IsPathOf p t path → IsAsked name from path → IsPathOf p t (entry_of from name place r path).path
  told_path t h asked = entry_by (λ e. IsPathOf p t e.path) from name place path r
      (λ unseen. h) (λ seen under. h)
      (λ seen apart. held_by (λ e. IsPathOf p t e.path) from name place path r.loader r.held short
      (λ tree held lists own. path_begun_of t h asked (is_seen seen) tree) (λ tree held other. h) (λ held. h) (λ held. h))

  pub path_told : (t : ClassTable) (e : Entry) → entry_of from name place r path ≡ e → IsPathOf p t path → IsAsked name from path → IsPathOf p t e.path
  path_told t e is h asked = subst (λ (e : Entry). IsPathOf p t e.path) is (told_path t h asked)

  module _ (before after : Progress) (unseen : sees from r.loader ≡ false → Leaves (world_of_files p) [] before after)
      (circular : is_among name (names_under path) ≡ true → Leaves (world_of_files p) [] before after)
      (begun : Leaves (world_of_files p) (Begins name ∷ []) before after) where
    abbrev Told : Entry → Type 0
    Told e = Enters p from name path e.path before after (Ok e.answer)

    there : sees from r.loader ≡ true → is_among name (names_under path) ≡ false → Told (entry_of_held name place r.loader r.held path)
    there seen apart = held_by Told from name place path r.loader r.held short
        (λ tree held lists own. (
          subst (λ (l : Loader). load_in p path from name ≡ begins name (loads_rest p path (frame_of name place l tree) (bases_left (frame_of name place l tree)))) k.loader
              (load_named p path from name place k.file tree (is_seen seen) apart (held_is (Tree tree) held) own),
          begun,
        ))
        (λ tree held other. comes_by (world_of_files p) (begins name (fails NoClassDefFoundError)) _ _ before after (load_misnamed p path from name k.file tree (is_seen seen) apart (held_is (Tree tree) held) other) refl begun)
        (λ held. comes_by (world_of_files p) (begins name (fails UnsupportedClassVersionError)) _ _ before after (load_reading p path from name k.file readings.OtherVersion (is_seen seen) apart (held_is OtherVersion held)) refl begun)
        (λ held. comes_by (world_of_files p) (begins name (fails ClassFormatError)) _ _ before after (load_reading p path from name k.file readings.NotClass (is_seen seen) apart (held_is NotClass held)) refl begun)

    enters : Told (entry_of from name place r path)
    enters = entry_by Told from name place path r
        (λ h. comes_by (world_of_files p) (fails NoClassDefFoundError) _ _ before after (load_missing p path from name (not_seen h)) refl (unseen h))
        (λ seen h. comes_by (world_of_files p) (fails ClassCircularityError) _ _ before after (load_circular p path from name k.file (is_seen seen) h) refl (circular h))
        there

    pub enters_read : (e : Entry) → entry_of from name place r path ≡ e → Enters p from name path e.path before after (Ok e.answer)
    enters_read e is = subst Told is enters
