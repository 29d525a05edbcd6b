-- What is kept where the innermost class is loaded, whatever the store tells.
use Rattle.std.proofs.Common.{◌≡◌, ℕ, ◌+◌, zero, suc, List, [], ◌∷◌, ◌++◌, length, take, drop, Bool, true, false, ◌||◌, Some, refl, sym, ◌∙◌, ap, subst}
use Rattle.std.specs.Prelude.{slice_get, replicate}
use Rattle.std.specs.List.{AllByRecursion}
use Rattle.std.specs.Str.{bytes_eq}
use Rattle.std.specs.Borrow.{Bor}
use Rattle.std.proofs.lemmas.List.{map-append, length-append}
use Rattle.class_tree.specs.declared.tree.ClassTree.{ClassTree}
use Rattle.loader_rules.specs.declared.loader.Loader.{Loader}
use Rattle.class_record.specs.Laws.{AreDistinct}
use Rattle.class_record.specs.declared.bases.Base.{Base}
use Rattle.class_record.specs.Files.{Name}
use Rattle.class_tree.specs.ClassNames.{own_name, sup_name}
use Rattle.class_record.specs.Loading.{is_among}
use Rattle.class_record.specs.Facts.{name_of}
use Rattle.class_record.specs.Ancestors.{newest}
use Rattle.class_record.specs.Built.{size_of_super}
use Rattle.class_record.specs.Records.{facts_of}
use Rattle.class_record.proofs.Orders.{same_name, itself_equal, unlike_too, among_appended}
use Rattle.loaded_classes.specs.Table.{ClassTable, added, linked_at, word_at, or_zero}
use Rattle.class_linker.specs.declared.readings.Held.{Held}
use Rattle.class_linker.specs.declared.readings.Held.TheVariants.{Tree, Loaded, OtherVersion, NotClass}
use Rattle.class_linker.specs.declared.readings.Reading.{Reading}
use Rattle.class_linker.specs.declared.under_way.Frame.{Frame}
use Rattle.class_linker.specs.Kept.{names_read, names_loaded, with_held, IsHeld, IsKept, names_under, bases_left, IsFrame, AreFrames, AreWaiting, IsPath, GrowsTo}
use Rattle.class_linker.specs.Paths.{IsTop}
use Rattle.class_linker.specs.Steps.{HasNone, HasNext, IsAwaited}
use Rattle.class_linker.specs.Finishing.{IsReady}
use Rattle.class_linker.proofs.CompleteHeld.{names_held, held_other, all_held, name_there}
use Rattle.class_linker.proofs.PassTests.{all_at}
use Rattle.class_linker.proofs.StepGrown.{loaded_stays}

-- ---- the innermost class

pub take_all : {A : Type 0} (k : ℕ) (xs : List A) → drop k xs ≡ [] → take k xs ≡ xs
take_all zero [] h = refl
take_all zero (x ∷ xs) h = absurd cc
take_all (suc k) [] h = refl
take_all (suc k) (x ∷ xs) h = ap (λ ys. x ∷ ys) (take_all k xs h)

module _ (rs : List Reading) (t : ClassTable) (below : List Name) (f : Frame) (k : IsFrame rs t below f) where
  pub own_is : own_name k.tree ≡ f.name
  own_is = same_name (own_name k.tree) f.name k.own

  -- All bases of a class that has none left are loaded, and its tree has short lists: so it can be loaded.
  pub is_ready : IsKept rs t → bases_left f ≡ [] → IsReady rs t f.place k.reading k.tree
  is_ready kept none = record {
    at = k.at;
    held = k.held;
    is_new = ap (λ (n : Name). is_among n (names_loaded t)) own_is ∙ k.is_new;
    bases = subst (AllByRecursion (λ (b : Base). is_among b.name (names_loaded t) ≡ true)) (take_all f.done f.bases none ∙ k.bases) k.done;
    short = subst (IsHeld t k.reading.name) k.held (all_at (λ (r : Reading). IsHeld t r.name r.held) rs f.place k.reading kept.held k.at);
  }

-- ---- the table with one class more

pub names_added : (loader : Loader) (folder : ℕ) (tree : ClassTree) (t : ClassTable) → names_loaded (added loader folder tree t) ≡ names_loaded t ++ own_name tree ∷ []
unfolding facts_of
names_added loader folder tree t = map-append name_of t.classes (facts_of loader folder (size_of_super (newest t.classes) (sup_name tree)) tree ∷ [])

linked_same : (flags : List Bool) (id : ℕ) → linked_at (flags ++ false ∷ []) id ≡ linked_at flags id
linked_same [] zero = refl
linked_same [] (suc id) = refl
linked_same (b ∷ flags) zero = refl
linked_same (b ∷ flags) (suc id) = linked_same flags id

zeros : (n k : ℕ) → or_zero (slice_get (replicate n 0) k) ≡ 0
zeros zero k = refl
zeros (suc n) zero = refl
zeros (suc n) (suc k) = zeros n k

words_same : (words : List (List ℕ)) (n id k : ℕ) → word_at (words ++ replicate n 0 ∷ []) id k ≡ word_at words id k
words_same [] n zero k = zeros n k
words_same [] n (suc id) k = refl
words_same (w ∷ words) n zero k = refl
words_same (w ∷ words) n (suc id) k = words_same words n id k

pub grows_added : (loader : Loader) (folder : ℕ) (tree : ClassTree) (t : ClassTable) → GrowsTo t (added loader folder tree t)
grows_added loader folder tree t = record {
  more = facts_of loader folder (size_of_super (newest t.classes) (sup_name tree)) tree ∷ [];
  classes = refl;
  linked = linked_same t.linked;
  words = words_same t.words (length tree.pool);
}

pub more_added : (loader : Loader) (folder : ℕ) (tree : ClassTree) (t : ClassTable) → length (added loader folder tree t).classes ≡ length t.classes + 1
more_added loader folder tree t = length-append t.classes (facts_of loader folder (size_of_super (newest t.classes) (sup_name tree)) tree ∷ [])

-- ---- names in it

or_true : (a b : Bool) → b ≡ true → (a || b) ≡ true
or_true true b h = refl
or_true false b h = h

or_neither : (a b : Bool) → a ≡ false → b ≡ false → (a || (b || false)) ≡ false
or_neither a b h k = cc

end_among : (n x : Name) (ns : List Name) → bytes_eq n x ≡ true → is_among n (ns ++ x ∷ []) ≡ true
end_among n x ns h = among_appended n ns (x ∷ []) ∙ or_true (is_among n ns) (bytes_eq n x || false) (ap (λ (b : Bool). b || false) h)

end_apart : (n x : Name) (ns : List Name) → is_among n ns ≡ false → bytes_eq n x ≡ false → is_among n (ns ++ x ∷ []) ≡ false
end_apart n x ns h k = among_appended n ns (x ∷ []) ∙ or_neither (is_among n ns) (bytes_eq n x) h k

by_end : (n x : Name) (ns : List Name) (P : Type 0) → (is_among n ns ≡ true → P) → (bytes_eq n x ≡ true → P) → is_among n (ns ++ x ∷ []) ≡ true → P
by_end n x ns P f g h = go (is_among n ns) (bytes_eq n x) f g (sym (among_appended n ns (x ∷ [])) ∙ h)
  where
    go : (a b : Bool) → (a ≡ true → P) → (b ≡ true → P) → (a || (b || false)) ≡ true → P
    go true b f g h = f refl
    go false true f g h = g refl
    go false false f g h = absurd cc

-- ---- what is kept

held_stays : (t u : ClassTable) (name : Name) (held : Held) → GrowsTo t u → IsHeld t name held → IsHeld u name held
held_stays t u name (Tree tree) g h = h
held_stays t u name Loaded g h = loaded_stays t u g name h
held_stays t u name OtherVersion g h = h
held_stays t u name NotClass g h = h

done_stays : (t u : ClassTable) (bs : List Base) → GrowsTo t u → AllByRecursion (λ (b : Base). is_among b.name (names_loaded t) ≡ true) bs → AllByRecursion (λ (b : Base). is_among b.name (names_loaded u) ≡ true) bs
done_stays t u [] g h = tt
done_stays t u (b ∷ bs) g h = (loaded_stays t u g b.name h.0, done_stays t u bs g h.1)

first_apart : (n x : Name) (ns : List Name) → is_among n (x ∷ ns) ≡ false → bytes_eq n x ≡ false
first_apart n x ns h = go (bytes_eq n x) (is_among n ns) h
  where
    go : (a b : Bool) → (a || b) ≡ false → a ≡ false
    go true b h = absurd cc
    go false b h = refl

rest_apart : (n x : Name) (ns : List Name) → is_among n (x ∷ ns) ≡ false → is_among n ns ≡ false
rest_apart n x ns h = go (bytes_eq n x) (is_among n ns) h
  where
    go : (a b : Bool) → (a || b) ≡ false → b ≡ false
    go true b h = absurd cc
    go false b h = h

module _ (rs : List Reading) (t : ClassTable) (place folder : ℕ) (loader : Loader) (name : Name) (r : Reading) (tree : ClassTree) (at : slice_get rs place ≡ Some r) (named : r.name ≡ name) (own : own_name tree ≡ name) where
  abbrev after : ClassTable
  after = added loader folder tree t

  abbrev left : List Reading
  left = with_held rs place Loaded

  after_names : names_loaded after ≡ names_loaded t ++ name ∷ []
  after_names = names_added loader folder tree t ∙ ap (λ (n : Name). names_loaded t ++ n ∷ []) own

  pub now_loaded : is_among name (names_loaded after) ≡ true
  now_loaded = ap (is_among name) after_names ∙ end_among name name (names_loaded t) (itself_equal name)

  read_too : (n : Name) → is_among n (names_read rs) ≡ true → is_among n (names_read left) ≡ true
  read_too n h = ap (is_among n) (names_held rs place Loaded) ∙ h

  pub kept_after : IsKept rs t → IsKept left after
  kept_after kept = record {
    read = λ n h. read_too n (by_end n name (names_loaded t) (is_among n (names_read rs) ≡ true) (kept.read n)
        (λ e. ap (λ (m : Name). is_among m (names_read rs)) (same_name n name e ∙ sym named) ∙ name_there rs place r at)
        (ap (is_among n) (sym after_names) ∙ h));
    distinct = subst AreDistinct (sym (names_held rs place Loaded)) kept.distinct;
    held = all_held (λ (x : Reading). IsHeld t x.name x.held) (λ (x : Reading). IsHeld after x.name x.held) rs place r Loaded
        (λ x h. held_stays t after x.name x.held (grows_added loader folder tree t) h) at
        (ap (λ (n : Name). is_among n (names_loaded after)) named ∙ now_loaded) kept.held;
  }

  frame_after : (below : List Name) (f : Frame) → bytes_eq name f.name ≡ false → IsFrame rs t below f → IsFrame left after below f
  frame_after below f other k = record {
    reading = k.reading;
    tree = k.tree;
    at = held_other rs place f.place r k.reading Loaded at k.at (ap (λ (n : Name). bytes_eq n k.reading.name) named ∙ ap (bytes_eq name) k.name ∙ other);
    name = k.name;
    loader = k.loader;
    held = k.held;
    own = k.own;
    bases = k.bases;
    few = k.few;
    done = done_stays t after (take f.done f.bases) (grows_added loader folder tree t) k.done;
    is_new = ap (is_among f.name) after_names ∙ end_apart f.name name (names_loaded t) k.is_new (unlike_too name f.name other);
    apart = k.apart;
  }

  frames_after : (fs : List Frame) → is_among name (names_under fs) ≡ false → AreFrames rs t fs → AreFrames left after fs
  frames_after [] apart h = tt
  frames_after (f ∷ fs) apart h =
      (frame_after (names_under fs) f (first_apart name f.name (names_under fs) apart) h.0, frames_after fs (rest_apart name f.name (names_under fs) apart) h.1)

  pub path_after : (fs : List Frame) → is_among name (names_under fs) ≡ false → AreFrames rs t fs → AreWaiting name fs → IsPath left after fs
  path_after [] apart h w = tt
  path_after (f ∷ fs) apart h w = (frames_after (f ∷ fs) apart h, w.1)

  pub next_after : (fs : List Frame) → AreWaiting name fs → HasNext after fs
  next_after [] w = tt
  next_after (f ∷ fs) w = (w.0.0, w.0.1, w.0.2, ap (λ (n : Name). is_among n (names_loaded after)) w.0.3 ∙ now_loaded)

  -- What was awaited still is: the innermost class is among those that are loaded.
  pub awaits_after : (f : Frame) (fs : List Frame) → f.name ≡ name → (n : Name) → IsAwaited n t (f ∷ fs) → IsAwaited n after fs
  awaits_after f fs e n h =
      ap (λ (ns : List Name). is_among n (names_under fs ++ ns)) after_names ∙ moved (names_under fs) (names_loaded t)
      (subst (λ (m : Name). is_among n (m ∷ (names_under fs ++ names_loaded t)) ≡ true) e h)
    where
      ors : (a b c : Bool) → (c || (a || b)) ≡ true → (a || (b || (c || false))) ≡ true
      ors true b c h = refl
      ors false true c h = refl
      ors false false true h = refl
      ors false false false h = absurd cc

      moved : (xs ys : List Name) → is_among n (name ∷ (xs ++ ys)) ≡ true → is_among n (xs ++ (ys ++ name ∷ [])) ≡ true
      moved xs ys h =
          among_appended n xs (ys ++ name ∷ []) ∙ ap (λ (b : Bool). is_among n xs || b) (among_appended n ys (name ∷ []))
          ∙ ors (is_among n xs) (is_among n ys) (bytes_eq n name) (ap (λ (b : Bool). bytes_eq n name || b) (sym (among_appended n xs ys)) ∙ h)

-- ---- where the path is known by its innermost class

pub record ReadyTop (rs : List Reading) (t : ClassTable) (place : ℕ) : Type 0 where
  pub reading : Reading
  pub tree : ClassTree
  pub is : IsReady rs t place reading tree

pub is_ready_of : (rs : List Reading) (t : ClassTable) (path : List Frame) (top : Bor Frame) → IsKept rs t → IsPath rs t path → HasNone path → IsTop path (Some top) → ReadyTop rs t top.now.place
is_ready_of rs t [] top kept k none at = absurd none
is_ready_of rs t (f ∷ fs) top kept k none at =
    subst (λ (g : Frame). ReadyTop rs t g.place) (sym at) (record { reading = k.0.0.reading; tree = k.0.0.tree; is = is_ready rs t (names_under fs) f k.0.0 kept none })

pub same_both : (P : List Reading → ClassTable → Type 0) (rs now : List Reading) (t u : ClassTable) → now ≡ rs → u ≡ t → P rs t → P now u
same_both P rs now t u e i h = subst (λ (ns : List Reading). P ns u) (sym e) (subst (P rs) (sym i) h)
