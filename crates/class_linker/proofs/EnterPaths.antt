-- What is kept of the readings and of the classes under way where a name is entered.
use Rattle.std.proofs.Common.{◌≡◌, inl, inr, ℕ, ◌≤◌, List, [], ◌∷◌, ◌++◌, length, refl, sym, ◌∙◌, ap, subst, Bool, true, false, ◌||◌, arith, length-append}
use Rattle.std.specs.Prelude.{Option, None, Some, Result, Ok, Err, IfOk, slice_get, if◌then◌else◌}
use Rattle.std.specs.List.{AllByRecursion}
use Rattle.std.specs.Option.{option_to_list, option_map}
use Rattle.std.specs.Str.{bytes_eq}
use Rattle.std.proofs.lemmas.List.{map-append, length-map}
use Rattle.std.proofs.lemmas.Option.{slice_get-map}
use Rattle.std.proofs.lemmas.Slice.Eq.{bytes_eq-Decides}
use Rattle.jsa_files.proofs.ClassNames.{length-filter_map}
use Rattle.class_tree.specs.declared.tree.ClassTree.{ClassTree}
use Rattle.class_tree.specs.WellFormed.{class_name}
use Rattle.loader_rules.specs.declared.loader.Loader.{Loader}
use Rattle.class_record.specs.Laws.{AreDistinct}
use Rattle.class_record.specs.declared.fault.JavaFault.TheVariants.{NoClassDefFoundError, ClassFormatError, UnsupportedClassVersionError, ClassCircularityError}
use Rattle.class_record.specs.Files.{Name, sees}
use Rattle.class_tree.specs.ClassNames.{own_name, sup_name}
use Rattle.class_record.specs.Trees.{bases_of, HasShortLists}
use Rattle.class_record.specs.Loading.{is_among}
use Rattle.loaded_classes.specs.Table.{ClassTable}
use Rattle.class_record.proofs.Orders.{distinct_end}
use Rattle.class_linker.specs.declared.entering.Entered.{Entered}
use Rattle.class_linker.specs.declared.entering.Entered.TheVariants.{Begun, Fails}
use Rattle.class_linker.specs.declared.readings.Held.{Held}
use Rattle.class_linker.specs.declared.readings.Held.TheVariants.{Tree, Loaded, OtherVersion, NotClass}
use Rattle.class_linker.specs.declared.readings.Reading.{Reading}
use Rattle.class_linker.specs.declared.under_way.Frame.{Frame}
use Rattle.class_linker.specs.Adds.{Adds, IsShortHeld, read_as}
use Rattle.class_linker.specs.Entries.{Entry, AddsEntry, MayAdd, entry, frame_of, entry_of_held, entry_of}
use Rattle.class_linker.specs.Kept.{name_read, names_read, names_loaded, names_under, IsHeld, IsKept, IsFrame, AreFrames, AreWaiting, IsPath}
use Rattle.class_linker.specs.Steps.{IsAsked, KeepsPath}
use Rattle.class_linker.proofs.EnterLists.{get_front, get_end, all_at, all_end, among_front, among_at}

-- ---- what is held

held_short : (t : ClassTable) (name : Name) (h : Held) → IsShortHeld h → IsHeld t name h
held_short t name (Tree tree) s = s
held_short t name Loaded s = absurd s
held_short t name OtherVersion s = tt
held_short t name NotClass s = tt

-- What is held for a class that isn't loaded.
pub short_held : (t : ClassTable) (name : Name) (h : Held) → is_among name (names_loaded t) ≡ false → IsHeld t name h → IsShortHeld h
short_held t name (Tree tree) new k = k
short_held t name Loaded new k = absurd (cc)
short_held t name OtherVersion new k = tt
short_held t name NotClass new k = tt

pub short_at : (rs : List Reading) (t : ClassTable) (place : ℕ) (r : Reading) → IsKept rs t → slice_get rs place ≡ Some r → is_among r.name (names_loaded t) ≡ false → IsShortHeld r.held
short_at rs t place r k at new = short_held t r.name r.held new (all_at (λ (r : Reading). IsHeld t r.name r.held) rs place r k.held at)

-- ---- one class file more was read

module _ (before after : List Reading) (place : ℕ) (name : Name) (loader : Loader) (folder : ℕ) (bytes : List ℕ) (a : Adds before after place name loader folder bytes) where
  abbrev added : Reading
  added = read_as name loader folder a.held

  pub added_at : slice_get after place ≡ Some added
  added_at = rw (a.readings, a.at_end) (get_end before added)

  pub names_more : names_read after ≡ names_read before ++ name ∷ []
  names_more = ap names_read a.readings ∙ map-append name_read before (added ∷ [])

  pub kept_added : (t : ClassTable) → IsKept before t → IsKept after t
  kept_added t k = record {
    read = λ n at. subst (λ (ns : List Name). is_among n ns ≡ true) (sym names_more) (among_front n (names_read before) (name ∷ []) (k.read n at));
    distinct = subst AreDistinct (sym names_more) (distinct_end (names_read before) name k.distinct a.is_new);
    held = subst (AllByRecursion (λ (r : Reading). IsHeld t r.name r.held)) (sym a.readings) (all_end (λ (r : Reading). IsHeld t r.name r.held) before added k.held (held_short t name a.held a.short));
  }

  frame_added : (t : ClassTable) (below : List Name) (f : Frame) → IsFrame before t below f → IsFrame after t below f
  frame_added t below f k = record {
    reading = k.reading;
    tree = k.tree;
    at = subst (λ (rs : List Reading). slice_get rs f.place ≡ Some k.reading) (sym a.readings) (get_front before (added ∷ []) f.place k.reading k.at);
    name = k.name;
    loader = k.loader;
    held = k.held;
    own = k.own;
    bases = k.bases;
    few = k.few;
    done = k.done;
    is_new = k.is_new;
    apart = k.apart;
  }

  frames_added : (t : ClassTable) (fs : List Frame) → AreFrames before t fs → AreFrames after t fs
  frames_added t [] k = tt
  frames_added t (f ∷ fs) k = (frame_added t (names_under fs) f k.0, frames_added t fs k.1)

  pub path_added : (t : ClassTable) (fs : List Frame) → IsPath before t fs → IsPath after t fs
  path_added t [] k = tt
  path_added t (f ∷ fs) k = (frames_added t (f ∷ fs) k.0, k.1)

-- ---- the classes under way

frames_of : (rs : List Reading) (t : ClassTable) (fs : List Frame) → IsPath rs t fs → AreFrames rs t fs
frames_of rs t [] k = tt
frames_of rs t (f ∷ fs) k = k.0

or_split : (a b : Bool) (P : Type 0) → (a ≡ true → P) → (b ≡ true → P) → (a || b) ≡ true → P
or_split true b P f g h = f refl
or_split false b P f g h = g h

frame_read : (rs : List Reading) (t : ClassTable) (below : List Name) (f : Frame) → IsFrame rs t below f → is_among f.name (names_read rs) ≡ true
frame_read rs t below f k =
    let at : slice_get (names_read rs) f.place ≡ Some f.name = slice_get-map name_read rs f.place ∙ ap (option_map name_read) k.at ∙ ap Some k.name in
    among_at f.name (names_read rs) f.place at

frames_read : (rs : List Reading) (t : ClassTable) (fs : List Frame) (n : Name) → AreFrames rs t fs → is_among n (names_under fs) ≡ true → is_among n (names_read rs) ≡ true
frames_read rs t [] n k h = absurd (cc)
frames_read rs t (f ∷ fs) n k h = or_split (bytes_eq n f.name) (is_among n (names_under fs)) (is_among n (names_read rs) ≡ true)
    (λ e. subst (λ (m : Name). is_among m (names_read rs) ≡ true) (sym ((bytes_eq-Decides n f.name).0 e)) (frame_read rs t (names_under fs) f k.0))
    (λ e. frames_read rs t fs n k.1 e) h

-- A name that wasn't read isn't under way.
pub unread_apart : (rs : List Reading) (t : ClassTable) (fs : List Frame) (n : Name) → IsPath rs t fs → is_among n (names_read rs) ≡ false → is_among n (names_under fs) ≡ false
unread_apart rs t fs n k h = by_case (is_among n (names_under fs)) refl
  where
    by_case : (b : Bool) → is_among n (names_under fs) ≡ b → b ≡ false
    by_case true e = let i = frames_read rs t fs n (frames_of rs t fs k) e in absurd (cc)
    by_case false e = refl

frames_new : (rs : List Reading) (t : ClassTable) (fs : List Frame) (n : Name) → AreFrames rs t fs → is_among n (names_under fs) ≡ true → is_among n (names_loaded t) ≡ false
frames_new rs t [] n k h = absurd (cc)
frames_new rs t (f ∷ fs) n k h = or_split (bytes_eq n f.name) (is_among n (names_under fs)) (is_among n (names_loaded t) ≡ false)
    (λ e. subst (λ (m : Name). is_among m (names_loaded t) ≡ false) (sym ((bytes_eq-Decides n f.name).0 e)) k.0.is_new)
    (λ e. frames_new rs t fs n k.1 e) h

-- No class under way is loaded.
pub path_apart : (rs : List Reading) (t : ClassTable) (fs : List Frame) (n : Name) → IsPath rs t fs → is_among n (names_loaded t) ≡ true → is_among n (names_under fs) ≡ false
path_apart rs t fs n k h = by_case (is_among n (names_under fs)) refl
  where
    by_case : (b : Bool) → is_among n (names_under fs) ≡ b → b ≡ false
    by_case true e = let i = frames_new rs t fs n (frames_of rs t fs k) e in absurd (cc)
    by_case false e = refl

one_at_most : {A : Type 0} (o : Option A) → length (option_to_list o) ≤ 1
one_at_most None = omega arith
one_at_most (Some x) = omega arith

few_bases : (tree : ClassTree) → HasShortLists tree → length (bases_of tree) ≤ 65536
few_bases tree s =
    let a = one_at_most (sup_name tree) in
    let b = length-filter_map (class_name tree.pool) tree.interfaces in
    let c = s.interfaces in
    simp (length-append, length-map) (omega arith)

waits_too : (rs : List Reading) (t : ClassTable) (fs : List Frame) (name : Name) (from : Loader) → IsPath rs t fs → IsAsked name from fs → AreWaiting name fs
waits_too rs t [] name from k asked = tt
waits_too rs t (f ∷ fs) name from k asked = (asked.0, k.1)

-- The loading of a class whose tree is held begins.
path_begun : (rs : List Reading) (t : ClassTable) (path : List Frame) (name : Name) (from : Loader) (place : ℕ) (r : Reading) (tree : ClassTree) → IsPath rs t path → IsAsked name from path
    → slice_get rs place ≡ Some r → r.name ≡ name → r.held ≡ Tree tree → HasShortLists tree → bytes_eq (own_name tree) name ≡ true
    → is_among name (names_loaded t) ≡ false → is_among name (names_under path) ≡ false → IsPath rs t (frame_of name place r.loader tree ∷ path)
path_begun rs t path name from place r tree k asked at same held short own new apart = (
  (
    record {
      reading = r;
      tree = tree;
      at = at;
      name = same;
      loader = refl;
      held = held;
      own = own;
      bases = refl;
      few = few_bases tree short;
      done = tt;
      is_new = new;
      apart = apart;
    },
    frames_of rs t path k,
  ),
  waits_too rs t path name from k asked,
)

-- ---- what entering a name whose class file was read comes to, by cases

if_by : {A : Type 0} (Q : A → Type 0) (b : Bool) (x y : A) → (b ≡ true → Q x) → (b ≡ false → Q y) → Q (if b then x else y)
if_by Q true x y f g = f refl
if_by Q false x y f g = g refl

module _ (Q : Entry → Type 0) (from : Loader) (name : Name) (place : ℕ) (path : List Frame) where
  pub held_by : (loader : Loader) (held : Held) → IsShortHeld held
      → ((tree : ClassTree) → held ≡ Tree tree → HasShortLists tree → bytes_eq (own_name tree) name ≡ true → Q (entry Begun (frame_of name place loader tree ∷ path)))
      → ((tree : ClassTree) → held ≡ Tree tree → bytes_eq (own_name tree) name ≡ false → Q (entry (Fails NoClassDefFoundError) path))
      → (held ≡ OtherVersion → Q (entry (Fails UnsupportedClassVersionError) path))
      → (held ≡ NotClass → Q (entry (Fails ClassFormatError) path))
      → Q (entry_of_held name place loader held path)
  held_by loader (Tree tree) s begun misnamed version format =
      if_by Q (bytes_eq (own_name tree) name) (entry Begun (frame_of name place loader tree ∷ path)) (entry (Fails NoClassDefFoundError) path) (begun tree refl s) (misnamed tree refl)
  held_by loader Loaded s begun misnamed version format = absurd s
  held_by loader OtherVersion s begun misnamed version format = version refl
  held_by loader NotClass s begun misnamed version format = format refl

  pub entry_by : (r : Reading)
      → (sees from r.loader ≡ false → Q (entry (Fails NoClassDefFoundError) path))
      → (sees from r.loader ≡ true → is_among name (names_under path) ≡ true → Q (entry (Fails ClassCircularityError) path))
      → (sees from r.loader ≡ true → is_among name (names_under path) ≡ false → Q (entry_of_held name place r.loader r.held path))
      → Q (entry_of from name place r path)
  entry_by r unseen circular there =
      if_by Q (sees from r.loader) (if is_among name (names_under path) then entry (Fails ClassCircularityError) path else entry_of_held name place r.loader r.held path) (entry (Fails NoClassDefFoundError) path)
      (λ seen. if_by Q (is_among name (names_under path)) (entry (Fails ClassCircularityError) path) (entry_of_held name place r.loader r.held path) (circular seen) (there seen))
      unseen

-- ---- the classes under way then

module _ (rs : List Reading) (t : ClassTable) (from : Loader) (name : Name) (place : ℕ) (r : Reading) (path : List Frame) (short : IsShortHeld r.held) where
  entry_keeps : KeepsPath name t path (entry_of from name place r path).path (Ok (entry_of from name place r path).answer)
  entry_keeps = entry_by (λ e. KeepsPath name t path e.path (Ok e.answer)) from name place path r
      (λ unseen. refl) (λ seen under. refl)
      (λ seen apart. held_by (λ e. KeepsPath name t path e.path (Ok e.answer)) from name place path r.loader r.held short
      (λ tree held lists own. (frame_of name place r.loader tree, refl, refl, refl, few_bases tree lists)) (λ tree held other. refl) (λ held. refl) (λ held. refl))

  entry_path : IsPath rs t path → IsAsked name from path → slice_get rs place ≡ Some r → r.name ≡ name → is_among name (names_loaded t) ≡ false
      → IsPath rs t (entry_of from name place r path).path
  entry_path k asked at same new = entry_by (λ e. IsPath rs t e.path) from name place path r
      (λ unseen. k) (λ seen under. k)
      (λ seen apart. held_by (λ e. IsPath rs t e.path) from name place path r.loader r.held short
      (λ tree held lists own. path_begun rs t path name from place r tree k asked at same held lists own new apart) (λ tree held other. k) (λ held. k) (λ held. k))

  pub keeps_read : (e : Entry) → entry_of from name place r path ≡ e → KeepsPath name t path e.path (Ok e.answer)
  keeps_read e is = subst (λ (e : Entry). KeepsPath name t path e.path (Ok e.answer)) is entry_keeps

  pub path_read : (e : Entry) → entry_of from name place r path ≡ e → IsPath rs t path → IsAsked name from path → slice_get rs place ≡ Some r → r.name ≡ name
      → is_among name (names_loaded t) ≡ false → IsPath rs t e.path
  path_read e is k asked at same new = subst (λ (e : Entry). IsPath rs t e.path) is (entry_path k asked at same new)

-- Entering a name whose class file was read just now.
pub entry_added : {E : Type 0} (before after : List Reading) (from : Loader) (name : Name) (loader : Loader) (folder : ℕ) (bytes : List ℕ) (path now : List Frame) (place : ℕ)
    → Adds before after place name loader folder bytes → (result : Result Entered E)
    → IfOk result (λ answer. (r : Reading) → slice_get after place ≡ Some r → entry_of from name place r path ≡ entry answer now)
    → IfOk result (λ answer. AddsEntry before after from name loader folder bytes path (entry answer now))
entry_added before after from name loader folder bytes path now place a (Ok answer) h =
    record { place = place; adds = a; entry_is = h (read_as name loader folder a.held) (added_at before after place name loader folder bytes a) }
entry_added before after from name loader folder bytes path now place a (Err e) h = tt

pub path_new : (before after : List Reading) (t u : ClassTable) → u ≡ t → (from : Loader) (name : Name) (loader : Loader) (folder : ℕ) (bytes : List ℕ) (path : List Frame) (e : Entry)
    → AddsEntry before after from name loader folder bytes path e → IsPath before t path → IsAsked name from path → is_among name (names_loaded t) ≡ false → IsPath after u e.path
path_new before after t u same from name loader folder bytes path e a k asked new =
    subst (λ (u : ClassTable). IsPath after u e.path) (sym same)
    (path_read after t from name a.place (read_as name loader folder a.adds.held) path a.adds.short e a.entry_is
    (path_added before after a.place name loader folder bytes a.adds t path k) asked (added_at before after a.place name loader folder bytes a.adds) refl new)

-- Whether the class file is read or nothing is, what is kept stays right.
pub kept_may : (before after : List Reading) (t u : ClassTable) (name : Name) (loader : Loader) (folder : ℕ) (bytes : List ℕ) → u ≡ t
    → MayAdd before after name loader folder bytes → IsKept before t → IsKept after u
kept_may before after t u name loader folder bytes same (inl e) k = subst (λ (v : ClassTable). IsKept after v) (sym same) (subst (λ (rs : List Reading). IsKept rs t) (sym e) k)
kept_may before after t u name loader folder bytes same (inr (place, a)) k = subst (λ (v : ClassTable). IsKept after v) (sym same) (kept_added before after place name loader folder bytes a t k)
