-- Entering the name of a loaded class, or one whose class file was read before.
use Rattle.std.proofs.Common.{◌≡◌, ℕ, List, [], ◌∷◌, length, refl, sym, ◌∙◌, ap, subst, Bool, true, false, ◌||◌}
use Rattle.std.specs.Prelude.{Option, None, Some, Ok, if◌then◌else◌}
use Rattle.std.specs.Option.{option_map}
use Rattle.std.specs.Str.{bytes_eq}
use Rattle.std.proofs.lemmas.Bool.{le-ltb}
use Rattle.std.proofs.lemmas.Slice.Eq.{bytes_eq-Decides}
use Rattle.jsa_files.specs.declared.TheConstants.{MAX_FILE}
use Rattle.loader_rules.specs.declared.loader.Loader.{Loader}
use Rattle.loader_rules.specs.declared.loader.Loader.TheVariants.{App}
use Rattle.class_record.specs.declared.fault.JavaFault.TheVariants.{NoClassDefFoundError}
use Rattle.class_record.specs.Facts.{Facts}
use Rattle.class_record.specs.Files.{Name, RunFiles, ClassFile, file_of, sees}
use Rattle.class_record.specs.Readings.{Reading, tree_in}
use Rattle.class_record.specs.Loading.{FoundClass, found_in, fails, is_among, begun_in, completed_in}
use Rattle.class_record.specs.Orders.{IsLoaded, IsOrder, StaysIn}
use Rattle.class_record.specs.Records.{facts_of, size_above, record_of}
use Rattle.class_record.specs.Worlds.{is_larger, world_of_files}
use Rattle.class_record.specs.Calls.{Progress}
use Rattle.class_record.proofs.Again.{all_weaker, loads_again}
use Rattle.class_record.proofs.Finding.{file_seen}
use Rattle.class_record.proofs.Leaving.{leaves_within, leaves_nothing}
use Rattle.loaded_classes.specs.Table.{ClassTable}
use Rattle.class_linker.specs.declared.entering.Entered.TheVariants.{Present, Fails}
use Rattle.class_linker.specs.declared.readings.Reading as held
use Rattle.class_linker.specs.declared.under_way.Frame.{Frame}
use Rattle.class_linker.specs.Kept.{names_read, names_loaded, names_under, IsKept, IsPath}
use Rattle.class_linker.specs.Rights.{IsRight, order_of}
use Rattle.class_linker.specs.Steps.{Comes, Enters, load_in}
use Rattle.class_linker.proofs.EnterLists.{among_order}
use Rattle.class_linker.proofs.EnterPaths.{path_apart}
use Rattle.class_linker.proofs.EnterTold.{load_missing, comes_by}

-- ---- a class of an order

abbrev pub IsOneOf : RunFiles → List Name → Name → Type 0
IsOneOf p order name = (older : List Name) × IsLoaded p older name

one_by : (p : RunFiles) (x n : Name) (older : List Name) (b : Bool) → bytes_eq n x ≡ b → IsLoaded p older x → (is_among n older ≡ true → IsOneOf p older n) → (b || is_among n older) ≡ true → IsOneOf p (x ∷ older) n
one_by p x n older true e k below h = (older, subst (IsLoaded p older) (sym ((bytes_eq-Decides n x).0 e)) k)
one_by p x n older false e k below h = below h

loaded_of : (p : RunFiles) (order : List Name) (n : Name) → IsOrder p order → is_among n order ≡ true → IsOneOf p order n
loaded_of p [] n o h = absurd (cc)
loaded_of p (x ∷ older) n o h = one_by p x n older (bytes_eq n x) refl o.0 (λ k. loaded_of p older n o.1 k) h

-- What the world tells of a loaded class has the loader that its file is found by.
loader_is : (p : RunFiles) (older : List Name) (name : Name) (k : IsLoaded p older name) (f : Facts) → record_of p name ≡ Some f → k.file.loader ≡ f.loader
unfolding facts_of
loader_is p older name k f h =
    let there : found_in (file_of p App name) ≡ Some (record { file = k.file; tree = k.tree }) =
    ap found_in k.found ∙ ap (λ (r : Reading). option_map (λ tree. record { file = k.file; tree = tree }) (tree_in r)) k.spells in
    let told : record_of p name ≡ Some (facts_of k.file.loader k.file.folder (size_above p name) k.tree) =
    ap (λ (o : Option FoundClass). option_map (λ (c : FoundClass). facts_of c.file.loader c.file.folder (size_above p name) c.tree) o) there in
    some_loader (facts_of k.file.loader k.file.folder (size_above p name) k.tree) f (sym told ∙ h)
  where
    some_loader : (a b : Facts) → Some a ≡ Some b → a.loader ≡ b.loader
    some_loader a b e = let i : a ≡ b = cc in ap (λ (f : Facts). f.loader) i

small_of : (p : RunFiles) (order : List Name) (n : Name) → IsOrder p order → is_among n order ≡ true → (world_of_files p).is_large n ≡ false
small_of p order n o h =
    let k = loaded_of p order n o h in
    ap is_larger k.1.found ∙ le-ltb MAX_FILE (length k.1.file.bytes) k.1.small

-- ---- the name of a loaded class

module _ (p : RunFiles) (rs : List held.Reading) (t : ClassTable) (path : List Frame) (from : Loader) (name : Name) (reads : List (List ℕ))
    (right : IsRight p rs t) (kept : IsKept rs t) (on_path : IsPath rs t path) (at : is_among name (names_loaded t) ≡ true) where
  abbrev here : Progress
  here = record { order = names_loaded t; begun = names_read rs; reads = reads }

  in_order : is_among name (order_of t) ≡ true
  in_order = among_order name t ∙ at

  in_load_order : (n : Name) → is_among n (order_of t) ≡ true → is_among n (names_loaded t) ≡ true
  in_load_order n h = sym (among_order n t) ∙ h

  stays_here : file_of p from name ≡ file_of p App name → StaysIn (order_of t) (load_in p path from name)
  stays_here same = loads_again p (order_of t) (names_under path) from name right.order (λ n h. path_apart rs t path n on_path (in_load_order n h)) in_order same

  comes_here : file_of p from name ≡ file_of p App name → Comes (world_of_files p) (load_in p path from name) None here here
  comes_here same =
      let s = stays_here same in
      record {
        fault_is = s.ok;
        leaves = leaves_within (world_of_files p) (load_in p path from name).events here
            (all_weaker (λ n. is_among n (order_of t) ≡ true) (λ n. is_among n (names_loaded t) ≡ true) in_load_order (completed_in (load_in p path from name).events) s.completed)
            (all_weaker (λ n. is_among n (order_of t) ≡ true) (λ n. (is_among n (names_read rs) ≡ true) × ((world_of_files p).is_large n ≡ false))
            (λ n h. (kept.read n (in_load_order n h), small_of p (order_of t) n right.order h)) (begun_in (load_in p path from name).events) s.begun);
      }

  -- It is present where the loader sees it, and else there is no class of this name.
  pub enters_loaded : (f : Facts) → record_of p name ≡ Some f → (b : Bool) → sees from f.loader ≡ b
      → Enters p from name path path here here (Ok (if b then Present else Fails NoClassDefFoundError))
  enters_loaded f told b e =
      let k = loaded_of p (order_of t) name right.order in_order in
      let l = loader_is p k.0 name k.1 f told in
      let seen = file_seen p from name k.1.file k.1.found ∙ ap (λ (b : Bool). if b then Some k.1.file else None) (ap (sees from) l ∙ e) in
      by_sight b k.1.file k.1.found seen
    where
      by_sight : (b : Bool) (file : ClassFile) → file_of p App name ≡ Some file → file_of p from name ≡ (if b then Some file else None)
          → Enters p from name path path here here (Ok (if b then Present else Fails NoClassDefFoundError))
      by_sight true file found seen = comes_here (seen ∙ sym found)
      by_sight false file found seen = comes_by (world_of_files p) (fails NoClassDefFoundError) _ _ here here (load_missing p path from name seen) refl (leaves_nothing (world_of_files p) here)
