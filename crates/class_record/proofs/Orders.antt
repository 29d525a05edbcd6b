-- Names that are put at the end of a list, each once: the load order, and the names whose loading has begun.
use Rattle.std.proofs.Common.{◌≡◌, List, [], ◌∷◌, ◌++◌, Bool, true, false, ◌||◌, if◌then◌else◌, refl, sym, ◌∙◌, ap, append_assoc}
use Rattle.std.specs.List.{AllByRecursion}
use Rattle.std.specs.Str.{bytes_eq}
use Rattle.std.proofs.lemmas.List.{append-nil}
use Rattle.std.proofs.lemmas.List.Folds.{list_any-append}
use Rattle.std.proofs.lemmas.Slice.Eq.{bytes_eq-Decides}
use Rattle.class_record.specs.Files.{Name}
use Rattle.class_record.specs.Loading.{is_among, appended, begun_in, completed_in}
use Rattle.class_record.specs.Calls.{newly}
use Rattle.class_record.specs.Laws.{AreDistinct, OrdersGrow}

-- ---- equal names

pub same_name : (a b : Name) → bytes_eq a b ≡ true → a ≡ b
same_name a b h = (bytes_eq-Decides a b).0 h

pub itself_equal : (a : Name) → bytes_eq a a ≡ true
itself_equal a = (bytes_eq-Decides a a).1 refl

pub unlike_too : (a b : Name) → bytes_eq a b ≡ false → bytes_eq b a ≡ false
unlike_too a b h = by_case (bytes_eq b a) refl
  where
    by_case : (t : Bool) → bytes_eq b a ≡ t → t ≡ false
    by_case true e = let i : bytes_eq a b ≡ true = (bytes_eq-Decides a b).1 (sym (same_name b a e)) in absurd cc
    by_case false e = refl

-- ---- which names are among others

pub among_appended : (n : Name) (xs ys : List Name) → is_among n (xs ++ ys) ≡ (is_among n xs || is_among n ys)
among_appended n xs ys = list_any-append (bytes_eq n) xs ys

neither : (a b : Bool) → a ≡ false → b ≡ false → (a || b) ≡ false
neither a b h k = cc

first_false : (a b : Bool) → (a || b) ≡ false → a ≡ false
first_false true b h = absurd cc
first_false false b h = refl

second_false : (a b : Bool) → (a || b) ≡ false → b ≡ false
second_false true b h = absurd cc
second_false false b h = h

-- ---- what is put at the end

newly_adds : (old ns : List Name) (n : Name) (t : Bool) → appended old ns ≡ old ++ newly old ns → appended (old ++ n ∷ []) ns ≡ (old ++ n ∷ []) ++ newly (old ++ n ∷ []) ns
    → appended (if t then old else old ++ n ∷ []) ns ≡ old ++ (if t then newly old ns else n ∷ newly (old ++ n ∷ []) ns)
newly_adds old ns n true h k = h
newly_adds old ns n false h k = k ∙ append_assoc old (n ∷ []) (newly (old ++ n ∷ []) ns)

-- The names that are new stand behind the old ones.
pub appended_newly : (old ns : List Name) → appended old ns ≡ old ++ newly old ns
appended_newly old [] = sym (append-nil old)
appended_newly old (n ∷ ns) = newly_adds old ns n (is_among n old) (appended_newly old ns) (appended_newly (old ++ n ∷ []) ns)

pub appended_append : (old xs ys : List Name) → appended old (xs ++ ys) ≡ appended (appended old xs) ys
appended_append old [] ys = refl
appended_append old (x ∷ xs) ys = appended_append (if is_among x old then old else old ++ x ∷ []) xs ys

newly_more : (old xs ys : List Name) (x : Name) (t : Bool) → newly old (xs ++ ys) ≡ newly old xs ++ newly (appended old xs) ys
    → newly (old ++ x ∷ []) (xs ++ ys) ≡ newly (old ++ x ∷ []) xs ++ newly (appended (old ++ x ∷ []) xs) ys
    → (if t then newly old (xs ++ ys) else x ∷ newly (old ++ x ∷ []) (xs ++ ys))
    ≡ (if t then newly old xs else x ∷ newly (old ++ x ∷ []) xs) ++ newly (appended (if t then old else old ++ x ∷ []) xs) ys
newly_more old xs ys x true h k = h
newly_more old xs ys x false h k = ap (λ (ns : List Name). x ∷ ns) k

-- The names that are new of one list and then of another.
pub newly_append : (old xs ys : List Name) → newly old (xs ++ ys) ≡ newly old xs ++ newly (appended old xs) ys
newly_append old [] ys = refl
newly_append old (x ∷ xs) ys = newly_more old xs ys x (is_among x old) (newly_append old xs ys) (newly_append (old ++ x ∷ []) xs ys)

-- ---- names that are there already

-- They are put nowhere.
pub appended_known : (old ns : List Name) → AllByRecursion (λ n. is_among n old ≡ true) ns → appended old ns ≡ old
appended_known old [] h = refl
appended_known old (n ∷ ns) h = ap (λ t. appended (if t then old else old ++ n ∷ []) ns) h.0 ∙ appended_known old ns h.1

pub newly_known : (old ns : List Name) → AllByRecursion (λ n. is_among n old ≡ true) ns → newly old ns ≡ []
newly_known old [] h = refl
newly_known old (n ∷ ns) h = ap (λ t. if t then newly old ns else n ∷ newly (old ++ n ∷ []) ns) h.0 ∙ newly_known old ns h.1

-- ---- no name twice

pub distinct_end : (old : List Name) (n : Name) → AreDistinct old → is_among n old ≡ false → AreDistinct (old ++ n ∷ [])
distinct_end [] n d new = (refl, tt)
distinct_end (x ∷ old) n d new =
    let other : bytes_eq x n ≡ false = unlike_too n x (first_false (bytes_eq n x) (is_among n old) new) in (
      among_appended x old (n ∷ []) ∙ neither (is_among x old) (bytes_eq x n || false) d.0 (neither (bytes_eq x n) false other refl),
      distinct_end old n d.1 (second_false (bytes_eq n x) (is_among n old) new),
    )

distinct_next : (old : List Name) (n : Name) (t : Bool) → is_among n old ≡ t → AreDistinct old → AreDistinct (if t then old else old ++ n ∷ [])
distinct_next old n true e d = d
distinct_next old n false e d = distinct_end old n d e

distinct_appended : (old ns : List Name) → AreDistinct old → AreDistinct (appended old ns)
distinct_appended old [] d = d
distinct_appended old (n ∷ ns) d = distinct_appended (if is_among n old then old else old ++ n ∷ []) ns (distinct_next old n (is_among n old) refl d)

pub orders_grow : OrdersGrow
orders_grow order events = record {
  more = newly order (completed_in events);
  at_the_end = appended_newly order (completed_in events);
  distinct = distinct_appended order (completed_in events);
  begun_more = newly order (begun_in events);
  begun_at_the_end = appended_newly order (begun_in events);
  begun_distinct = distinct_appended order (begun_in events);
}
