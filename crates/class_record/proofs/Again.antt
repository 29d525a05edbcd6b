-- What is loaded loads again, and nothing else happens.
use Rattle.std.proofs.Common.{◌≡◌, List, [], ◌∷◌, ◌++◌, refl, sym, ◌∙◌, subst, Bool, true, false, ◌||◌}
use Rattle.std.specs.Prelude.{Option, None, Some}
use Rattle.std.specs.List.{AllByRecursion}
use Rattle.std.specs.Str.{bytes_eq}
use Rattle.std.proofs.lemmas.Slice.Eq.{bytes_eq-Decides}
use Rattle.loader_rules.specs.declared.loader.Loader.{Loader}
use Rattle.loader_rules.specs.declared.loader.Loader.TheVariants.{App}
use Rattle.class_record.specs.declared.fault.JavaFault.{JavaFault}
use Rattle.class_record.specs.declared.fault.JavaFault.TheVariants.{IncompatibleClassChangeError, IllegalAccessError}
use Rattle.class_record.specs.Files.{Name, RunFiles, ClassFile, file_of}
use Rattle.class_record.specs.Readings.{Reading, reading_of}
use Rattle.class_record.specs.declared.bases.Base.{Base}
use Rattle.class_record.specs.Trees.{bases_of}
use Rattle.class_record.specs.Loading.{Outcome, begun_in, completed_in, unless, and_then, each, completes, begins, is_among, tests, loads_base, loads_bases, on_reading, on_found, level, load_under}
use Rattle.class_record.specs.Orders.{IsBase, IsLoaded, IsOrder, Apart, StaysIn}
use Rattle.class_record.proofs.Events.{begun_append, completed_append}
use Rattle.class_record.proofs.Room.{load_level}

-- ---- names among others

pub all_append : (P : Name → Type 0) (xs ys : List Name) → AllByRecursion P xs → AllByRecursion P ys → AllByRecursion P (xs ++ ys)
all_append P [] ys a b = b
all_append P (x ∷ xs) ys a b = (a.0, all_append P xs ys a.1 b)

pub all_weaker : (P Q : Name → Type 0) → ((n : Name) → P n → Q n) → (xs : List Name) → AllByRecursion P xs → AllByRecursion Q xs
all_weaker P Q f [] a = tt
all_weaker P Q f (x ∷ xs) a = (f x a.0, all_weaker P Q f xs a.1)

pub among_more : (x y : Name) (ys : List Name) → is_among x ys ≡ true → is_among x (y ∷ ys) ≡ true
among_more x y ys h = go (bytes_eq x y)
  where
    go : (b : Bool) → (b || is_among x ys) ≡ true
    go true = refl
    go false = h

pub among_head : (x y : Name) (ys : List Name) → bytes_eq x y ≡ true → is_among x (y ∷ ys) ≡ true
among_head x y ys h = rw h refl

pub itself : (name : Name) (names : List Name) → is_among name (name ∷ names) ≡ true
itself name names = among_head name name names ((bytes_eq-Decides name name).1 refl)

pub among_tail : (x y : Name) (ys : List Name) → is_among x (y ∷ ys) ≡ true → bytes_eq x y ≡ false → is_among x ys ≡ true
among_tail x y ys h e = rw e at h

apart_with : (x : Name) (under older : List Name) → is_among x older ≡ false → Apart under (x ∷ older) → Apart (x ∷ under) older
apart_with x under older new h n in_older = go (bytes_eq n x) refl
  where
    go : (b : Bool) → bytes_eq n x ≡ b → (b || is_among n under) ≡ false
    go true e = let i : n ≡ x = (bytes_eq-Decides n x).0 e in let j : is_among n older ≡ false = subst (λ (m : Name). is_among m older ≡ false) (sym i) new in absurd (cc)
    go false e = h n (among_more n x older in_older)

apart_below : (under : List Name) (y : Name) (ys : List Name) → Apart under (y ∷ ys) → Apart under ys
apart_below under y ys h n at = h n (among_more n y ys at)

-- ---- outcomes in which only what is loaded begins and completes

stays_more : (n : Name) (order : List Name) (o : Outcome) → StaysIn order o → StaysIn (n ∷ order) o
stays_more n order o h = record {
  ok = h.ok;
  begun = all_weaker _ _ (λ m. among_more m n order) (begun_in o.events) h.begun;
  completed = all_weaker _ _ (λ m. among_more m n order) (completed_in o.events) h.completed;
}

stays_both : (order : List Name) (a b : Outcome) → StaysIn order a → StaysIn order b → StaysIn order (and_then a b)
stays_both order a b h k = rw h.ok (record {
  ok = k.ok;
  begun = rw (begun_append a.events b.events) (all_append _ (begun_in a.events) (begun_in b.events) h.begun k.begun);
  completed = rw (completed_append a.events b.events) (all_append _ (completed_in a.events) (completed_in b.events) h.completed k.completed);
})

stays_each : (order : List Name) (one : Base → Outcome) (P : Base → Type 0) → ((base : Base) → P base → StaysIn order (one base)) → (bases : List Base) → AllByRecursion P bases → StaysIn order (each one bases)
stays_each order one P f [] a = record { ok = refl; begun = tt; completed = tt }
stays_each order one P f (x ∷ xs) a = stays_both order (one x) (each one xs) (f x a.0) (stays_each order one P f xs a.1)

-- tests that are passed do nothing
quiet : (order : List Name) (a b : Bool) (f g : JavaFault) → (and_then (unless a f) (unless b g)).fault ≡ None → StaysIn order (and_then (unless a f) (unless b g))
quiet order true true f g h = record { ok = refl; begun = tt; completed = tt }
quiet order true false f g h = absurd (cc)
quiet order false b f g h = absurd (cc)

-- an Ok load of what a class is based on, and the class itself
stays_begun : (name : Name) (older : List Name) (a : Outcome) → StaysIn older a → StaysIn (name ∷ older) (begins name (and_then a (completes name)))
stays_begun name older a h =
    let own : StaysIn (name ∷ older) (completes name) = record { ok = refl; begun = tt; completed = (itself name older, tt) } in
    let both = stays_both (name ∷ older) a (completes name) (stays_more name older a h) own in
    record { ok = both.ok; begun = (itself name older, both.begun); completed = both.completed }

-- ---- the level of a loaded name

module _ (deeper : List Name → Loader → Name → Outcome) (p : RunFiles) (under older : List Name) (name : Name) (k : IsLoaded p older name)
    (below : (l : Loader) (m : Name) → is_among m older ≡ true → file_of p l m ≡ file_of p App m → StaysIn older (deeper (name ∷ under) l m)) where
  base_stays : (base : Base) → IsBase p older name k.file.loader base → StaysIn older (loads_base deeper p under name k.file.loader base)
  base_stays base h = stays_both older (deeper (name ∷ under) k.file.loader base.name) (tests p name k.file.loader base) (below k.file.loader base.name h.loaded h.same)
      (quiet older _ _ IllegalAccessError IncompatibleClassChangeError h.passes)

  bases_stay : StaysIn older (loads_bases deeper p under name k.file.loader (bases_of k.tree))
  bases_stay = stays_each older (loads_base deeper p under name k.file.loader) (IsBase p older name k.file.loader) base_stays (bases_of k.tree) k.bases

  reading_stays : StaysIn (name ∷ older) (begins name (on_reading deeper p under name k.file.loader (reading_of k.file.bytes)))
  reading_stays = subst (λ (r : Reading). StaysIn (name ∷ older) (begins name (on_reading deeper p under name k.file.loader r))) (sym k.spells)
      (rw k.named (stays_begun name older _ bases_stay))

  found_stays : is_among name under ≡ false → StaysIn (name ∷ older) (on_found deeper p under name (Some k.file))
  found_stays apart = rw apart reading_stays

  level_stays : (from : Loader) → file_of p from name ≡ file_of p App name → is_among name under ≡ false → StaysIn (name ∷ older) (level deeper p under from name)
  level_stays from same apart = subst (λ (o : Option ClassFile). StaysIn (name ∷ older) (on_found deeper p under name o)) (sym (same ∙ k.found)) (found_stays apart)

-- ---- by the order, from the newest down

-- what is so of the names of an order
abbrev AllStay : RunFiles → List Name → Type 0
AllStay p order = (under : List Name) (from : Loader) (name : Name) → Apart under order → is_among name order ≡ true → file_of p from name ≡ file_of p App name → StaysIn order (load_under p under from name)

newest_stays : (p : RunFiles) (x : Name) (older : List Name) → IsLoaded p older x → AllStay p older
    → (under : List Name) (from : Loader) → Apart under (x ∷ older) → file_of p from x ≡ file_of p App x → StaysIn (x ∷ older) (load_under p under from x)
newest_stays p x older k hyp under from apart same =
    subst (λ (o : Outcome). StaysIn (x ∷ older) o) (sym (load_level p under from x))
    (level_stays (load_under p) p under older x k (λ l m at same. hyp (x ∷ under) l m (apart_with x under older k.is_new apart) at same) from same (apart x (itself x older)))

one_stays : (p : RunFiles) (x : Name) (older : List Name) (under : List Name) (from : Loader) (name : Name) → (x ≡ name → StaysIn (x ∷ older) (load_under p under from name))
    → (is_among name older ≡ true → StaysIn older (load_under p under from name)) → is_among name (x ∷ older) ≡ true → (b : Bool) → bytes_eq name x ≡ b → StaysIn (x ∷ older) (load_under p under from name)
one_stays p x older under from name here below at true e = here (sym ((bytes_eq-Decides name x).0 e))
one_stays p x older under from name here below at false e = stays_more x older _ (below (among_tail name x older at e))

all_stay : (p : RunFiles) (order : List Name) → IsOrder p order → AllStay p order
all_stay p [] o under from name apart at same = absurd (cc)
all_stay p (x ∷ older) o under from name apart at same =
    one_stays p x older under from name
    (λ e. subst (λ (m : Name). StaysIn (x ∷ older) (load_under p under from m)) e
    (newest_stays p x older o.0 (all_stay p older o.1) under from apart (subst (λ (m : Name). file_of p from m ≡ file_of p App m) (sym e) same)))
    (λ in_older. all_stay p older o.1 under from name (apart_below under x older apart) in_older same)
    at (bytes_eq name x) refl

-- What was loaded loads again, whatever is under way beside it.
pub loads_again : (p : RunFiles) (order under : List Name) (from : Loader) (name : Name) → IsOrder p order → Apart under order → is_among name order ≡ true
    → file_of p from name ≡ file_of p App name → StaysIn order (load_under p under from name)
loads_again p order under from name o apart at same = all_stay p order o under from name apart at same
