-- What completing the innermost class comes to, in the files that a store tells.
use Rattle.std.proofs.Common.{◌≡◌, ℕ, ◌<◌, ◌≤◌, List, [], ◌∷◌, ◌++◌, length, Bool, true, false, Option, Some, refl, sym, ◌∙◌, ap, subst}
use Rattle.std.specs.Prelude.{if◌then◌else◌, reverse, nat_lt}
use Rattle.std.specs.List.{AllByRecursion}
use Rattle.std.specs.Option.{option_map}
use Rattle.std.proofs.lemmas.Bool.{lt-ltb, le-ltb}
use Rattle.std.proofs.lemmas.List.{append-nil, reverse-append, length-map}
use Rattle.jsa_base.specs.declared.quantity.Quantity.TheVariants as quantities
use Rattle.loader_rules.specs.declared.loader.Loader.{Loader}
use Rattle.loader_rules.specs.declared.loader.Loader.TheVariants.{App}
use Rattle.class_tree.specs.declared.tree.ClassTree.{ClassTree}
use Rattle.class_record.specs.declared.bases.Base.{Base}
use Rattle.class_record.specs.declared.fault.TheConstants.{MAX_LOADED}
use Rattle.class_record.specs.declared.fault.ClassesFault.TheVariants.{Limit}
use Rattle.class_record.specs.Files.{Name, RunFiles, ClassFile, file_of}
use Rattle.class_record.specs.Readings as readings
use Rattle.class_tree.specs.ClassNames.{own_name, sup_name}
use Rattle.class_record.specs.Trees.{bases_of}
use Rattle.class_record.specs.Loading.{Completes, FoundClass, Outcome, and_then, found_in, is_among}
use Rattle.class_record.specs.Facts.{Facts, name_of, names_of}
use Rattle.class_record.specs.Ancestors.{newest}
use Rattle.class_record.specs.Built.{size_of_super}
use Rattle.class_record.specs.Records.{facts_of, record_of}
use Rattle.class_record.specs.Orders.{IsBase, IsLoaded, IsOrder}
use Rattle.class_record.specs.Worlds.{world_of_files}
use Rattle.class_record.specs.Calls.{Progress, Stops, AreOf, passed}
use Rattle.class_record.proofs.Sizes.{record_is}
use Rattle.loaded_classes.specs.Table.{ClassTable, added}
use Rattle.class_linker.specs.declared.readings.Held.TheVariants.{Loaded}
use Rattle.class_linker.specs.declared.readings.Reading.{Reading}
use Rattle.class_linker.specs.declared.under_way.Frame.{Frame}
use Rattle.class_linker.specs.Kept.{names_loaded, names_under, held_as, with_held, bases_left, IsFrame}
use Rattle.class_linker.specs.Rights.{order_of, tree_of, AreTreesOf, IsHeldOf, IsRead, IsRight, IsFrameOf, progress_at}
use Rattle.class_linker.specs.Steps.{Leads, left_of, left_after, loads_rest}
use Rattle.class_linker.proofs.PassTests.{all_at}
use Rattle.class_linker.proofs.PassTold.{all_more}
use Rattle.class_linker.proofs.StepGrown.{among_order}
use Rattle.class_linker.proofs.CompleteHeld.{names_held, all_held}
use Rattle.class_linker.proofs.CompleteKept.{take_all, own_is, names_added}

-- ---- what is left

-- a class without bases left completes, and then the others go on
abbrev then_after : RunFiles → Frame → List Frame → Outcome
then_after p f fs = record { fault = (left_after p fs).fault; events = Completes f.name ∷ (left_after p fs).events }

left_done : (p : RunFiles) (f : Frame) (fs : List Frame) → bases_left f ≡ [] → left_of p (f ∷ fs) ≡ then_after p f fs
left_done p f fs none = ap (λ (bs : List Base). and_then (loads_rest p fs f bs) (left_after p fs)) none

-- ---- limits

when_full : {A : Type 0} (among room : Bool) (x y z : A) → among ≡ false → room ≡ false → (if among then x else if room then y else z) ≡ z
when_full true room x y z h k = absurd cc
when_full false true x y z h k = absurd cc
when_full false false x y z h k = refl

when_room : {A : Type 0} (among room : Bool) (x y z : A) → among ≡ false → room ≡ true → (if among then x else if room then y else z) ≡ y
when_room true room x y z h k = absurd cc
when_room false true x y z h k = refl
when_room false false x y z h k = absurd cc

when_new : {A : Type 0} (among : Bool) (x y : A) → among ≡ false → (if among then x else y) ≡ y
when_new true x y h = absurd cc
when_new false x y h = refl

count_is : (t : ClassTable) → length (names_loaded t) ≡ length t.classes
count_is t = length-map t.classes name_of

-- Where the table is full, one class more passes the limit.
pub full_stops : (p : RunFiles) (rs : List Reading) (t : ClassTable) (f : Frame) (fs : List Frame) (at : Progress) → at.order ≡ names_loaded t → bases_left f ≡ [] → is_among f.name (names_loaded t) ≡ false
    → MAX_LOADED ≤ length t.classes → Stops (world_of_files p) (left_of p (f ∷ fs)) at (Limit quantities.Loaded MAX_LOADED)
full_stops p rs t f fs at o none new full =
    ap (λ (x : Outcome). passed (world_of_files p) at.order x.events) (left_done p f fs none)
    ∙ ap (λ (order : List Name). passed (world_of_files p) order (Completes f.name ∷ (left_after p fs).events)) o
    ∙ when_full (is_among f.name (names_loaded t)) (nat_lt (length (names_loaded t)) MAX_LOADED) _ _ _ new (le-ltb _ _ (subst (λ (n : ℕ). MAX_LOADED ≤ n) (sym (count_is t)) full))

-- ---- trees

trees_more : (p : RunFiles) (fs : List Facts) (ts : List ClassTree) (f : Facts) (tree : ClassTree) → AreTreesOf p fs ts → tree_of p f.name ≡ Some tree → AreTreesOf p (fs ++ f ∷ []) (ts ++ tree ∷ [])
trees_more p [] [] f tree h e = (e, tt)
trees_more p [] (t ∷ ts) f tree h e = absurd h
trees_more p (g ∷ fs) [] f tree h e = absurd h
trees_more p (g ∷ fs) (t ∷ ts) f tree h e = (h.0, trees_more p fs ts f tree h.1 e)

-- ---- the class is loaded

module _ (p : RunFiles) (rs : List Reading) (t : ClassTable) (fs : List Frame) (f : Frame) (k : IsFrame rs t (names_under fs) f) (none : bases_left f ≡ []) where
  abbrev after : ClassTable
  after = added f.loader k.reading.folder k.tree t

  abbrev left : List Reading
  left = with_held rs f.place Loaded

  own_name_is : own_name k.tree ≡ f.name
  own_name_is = own_is rs t (names_under fs) f k

  after_names : names_loaded after ≡ names_loaded t ++ f.name ∷ []
  after_names = names_added f.loader k.reading.folder k.tree t ∙ ap (λ (n : Name). names_loaded t ++ n ∷ []) own_name_is

  pub completes_leads : (reads : List (List ℕ)) → length t.classes < MAX_LOADED → Leads (world_of_files p) (left_of p (f ∷ fs)) (left_after p fs) (progress_at reads rs t) (progress_at reads left after)
  completes_leads reads room = record {
    events = Completes f.name ∷ [];
    fault = ap (λ (o : Outcome). o.fault) (left_done p f fs none);
    whole = ap (λ (o : Outcome). o.events) (left_done p f fs none);
    leaves = record {
      order = after_names ∙ sym (when_new (is_among f.name (names_loaded t)) (names_loaded t) (names_loaded t ++ f.name ∷ []) k.is_new);
      begun = names_held rs f.place Loaded;
      reads = sym (append-nil reads);
      limits = when_room (is_among f.name (names_loaded t)) (nat_lt (length (names_loaded t)) MAX_LOADED) _ _ _ k.is_new (lt-ltb _ _ (subst (λ (n : ℕ). n < MAX_LOADED) (sym (count_is t)) room));
    };
  }

  -- ---- what was read

  read_as_loaded : (r : Reading) → IsRead p r → IsRead p (held_as Loaded r)
  read_as_loaded r h = record { file = h.file; found = h.found; loader = h.loader; folder = h.folder; small = h.small; held = tt }

  readings_after : AllByRecursion (IsRead p) rs → AllByRecursion (IsRead p) left
  readings_after h = all_held (IsRead p) (IsRead p) rs f.place k.reading Loaded (λ r x. x) k.at (read_as_loaded k.reading (all_at (IsRead p) rs f.place k.reading h k.at)) h

  -- ---- the order

  tree_read : (h : IsRead p k.reading) → readings.reading_of h.file.bytes ≡ readings.IsClass k.tree
  tree_read h = subst (IsHeldOf (readings.reading_of h.file.bytes)) k.held h.held

  bases_done : (h : IsRead p k.reading) → IsFrameOf p t f → AllByRecursion (IsBase p (order_of t) f.name h.file.loader) (bases_of k.tree)
  bases_done h done =
      subst (λ (l : Loader). AllByRecursion (IsBase p (order_of t) f.name l) (bases_of k.tree)) (sym (h.loader ∙ k.loader))
      (subst (AllByRecursion (IsBase p (order_of t) f.name f.loader)) (take_all f.done f.bases none ∙ k.bases) done)

  abbrev is_loaded : (h : IsRead p k.reading) → IsFrameOf p t f → IsLoaded p (order_of t) f.name
  is_loaded h done = record {
    file = h.file;
    tree = k.tree;
    is_new = among_order f.name t ∙ k.is_new;
    found = subst (λ (n : Name). file_of p App n ≡ Some h.file) k.name h.found;
    small = h.small;
    spells = tree_read h;
    named = k.own;
    bases = bases_done h done;
  }

  abbrev own_facts : Facts
  own_facts = facts_of f.loader k.reading.folder (size_of_super (newest t.classes) (sup_name k.tree)) k.tree

  order_is : order_of after ≡ f.name ∷ order_of t
  unfolding facts_of
  order_is = ap names_of (reverse-append t.classes (own_facts ∷ [])) ∙ ap (λ (n : Name). n ∷ order_of t) own_name_is

  all_reversed : (P : Facts → Type 0) (gs : List Facts) → AllByRecursion P gs → AllByRecursion P (reverse gs)
  all_reversed P [] h = tt
  all_reversed P (g ∷ gs) h = subst (AllByRecursion P) (sym (reverse-append (g ∷ []) gs)) (all_more P (reverse gs) g (all_reversed P gs h.1) h.0)

  -- ---- the facts

  own_record : (h : IsRead p k.reading) → IsFrameOf p t f → IsOrder p (order_of t) → AreOf (world_of_files p) t.classes → record_of p f.name ≡ Some own_facts
  own_record h done order of =
      record_is p f.name (newest t.classes) (is_loaded h done) order (all_reversed (λ (g : Facts). record_of p g.name ≡ Some g) t.classes of)
      ∙ ap (λ (l : Loader). Some (facts_of l h.file.folder (size_of_super (newest t.classes) (sup_name k.tree)) k.tree)) (h.loader ∙ k.loader)
      ∙ ap (λ (n : ℕ). Some (facts_of f.loader n (size_of_super (newest t.classes) (sup_name k.tree)) k.tree)) h.folder

  facts_name : own_facts.name ≡ f.name
  unfolding facts_of
  facts_name = own_name_is

  -- ---- the trees

  own_tree : (h : IsRead p k.reading) → tree_of p f.name ≡ Some k.tree
  own_tree h =
      ap (λ (o : Option ClassFile). option_map (λ (c : FoundClass). c.tree) (found_in o)) (subst (λ (n : Name). file_of p App n ≡ Some h.file) k.name h.found)
      ∙ ap (λ (r : readings.Reading). option_map (λ (c : FoundClass). c.tree) (option_map (λ (tree : ClassTree). let found : FoundClass = record { file = h.file; tree = tree } in found) (readings.tree_in r))) (tree_read h)

  pub right_after : IsRight p rs t → IsFrameOf p t f → IsRight p left after
  right_after right done =
      let h = all_at (IsRead p) rs f.place k.reading right.readings k.at in
      record {
        readings = readings_after right.readings;
        order = subst (IsOrder p) (sym order_is) (is_loaded h done, right.order);
        facts = all_more (λ (g : Facts). record_of p g.name ≡ Some g) t.classes own_facts right.facts
            (ap (record_of p) facts_name ∙ own_record h done right.order right.facts);
        trees = trees_more p t.classes t.trees own_facts k.tree right.trees (ap (tree_of p) facts_name ∙ own_tree h);
      }
