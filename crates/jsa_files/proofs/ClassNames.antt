-- Laws of the names of class files below a folder.
use Rattle.std.proofs.Common.{◌≡◌, ◌≤◌, ℕ, suc, List, [], ◌∷◌, ◌++◌, length, drop, Option, Some, None, MatchOption, Bor, String, true, false, cond, ◌&&◌, IsTrue, nat_eq, nat_cmp, refl, sym, ap, subst, ◌∙◌, arith, append_assoc}
use Rattle.std.specs.Global.{Global}
use Rattle.std.specs.Option.{option_to_list}
use Rattle.std.specs.List.{cons_option, filter_map, starts_with, AllByRecursion}
use Rattle.std.specs.List.Sorted.{IsStrictlySortedBy}
use Rattle.std.specs.Ordering.{ordering_then}
use Rattle.std.specs.declared.cmp.Ordering.TheVariants.{Less}
use Rattle.std.specs.Cmp.Lexicographic.{slice_cmp}
use Rattle.std.specs.Str.{IsCharBoundary}
use Rattle.std.specs.Str.Pattern.{FindsTextPrefix, StripsPrefix}
use Rattle.std.specs.String.{string_bytes, string_cmp}
use Rattle.std.proofs.lemmas.Bool.Decides.{Decides-eqb}
use Rattle.std.proofs.lemmas.Cmp.{tied_itself, nat_cmp_total}
use Rattle.std.proofs.lemmas.List.{append-nil}
use Rattle.std.proofs.lemmas.List.Elements.{All-cons, All-nil}
use Rattle.std.proofs.lemmas.Slice.Eq.{starts_is}
use Rattle.std.proofs.lemmas.Str.Pattern.{starts_text}
use Rattle.jsa_files.specs.Memory.{paths_of}
use Rattle.jsa_files.specs.Listing.{name_behind, ends_in_class, Ascend, AllEndInClass}

pub strips : (r : Option (Bor (List ℕ))) (n s : List ℕ) → MatchOption r (FindsTextPrefix n s None) (λ x. StripsPrefix (FindsTextPrefix n) s x.now)
    → MatchOption r (starts_with nat_eq s n ≡ false) (λ x. (starts_with nat_eq s n ≡ true) × (x.now ≡ drop (length n) s))
strips None n s h = sym (starts_text false n s h)
strips (Some x) n s h =
    let found = h.1 in
    (sym (starts_text true n s (h.0, found, subst (λ k. IsCharBoundary s k) (sym found.0) found.2)), h.2 ∙ ap (λ k. drop k s) found.0)

-- one more
pub cons_is : {X : Type 0} (o : Option X) (xs : List X) → cons_option o xs ≡ option_to_list o ++ xs
cons_is None xs = refl
cons_is (Some x) xs = refl

pub filter_map_more : {X Y : Type 0} (h : X → Option Y) (front : List Y) (x : X) (xs : List X) (all : List Y) → front ++ filter_map h (x ∷ xs) ≡ all → (front ++ option_to_list (h x)) ++ filter_map h xs ≡ all
filter_map_more h front x xs all is = append_assoc front (option_to_list (h x)) (filter_map h xs) ∙ ap (λ ys. front ++ ys) (sym (cons_is (h x) (filter_map h xs))) ∙ is

few : {Y : Type 0} (o : Option Y) (ys : List Y) (n : ℕ) → length ys ≤ n → length (cons_option o ys) ≤ suc n
few None ys n le = omega arith
few (Some y) ys n le = omega (arith, le)

pub length-filter_map : {X Y : Type 0} (h : X → Option Y) (xs : List X) → length (filter_map h xs) ≤ length xs
length-filter_map h [] = omega arith
length-filter_map h (x ∷ xs) = few (h x) (filter_map h xs) (length xs) (length-filter_map h xs)

None≢Some : {X : Type 0} {x : X} → None ≡ Some x → ⊥
None≢Some e = cc

-- what the name behind a front is
record IsBehind (front path name : List ℕ) : Type 0 where
  begins : starts_with nat_eq path front ≡ true
  rest : name ≡ drop (length front) path
  class_file : IsTrue (ends_in_class name)

is_behind : (front path name : List ℕ) → name_behind front path ≡ Some name → IsBehind front path name
is_behind front path name =
    elim (starts_with nat_eq path front) as (λ b. starts_with nat_eq path front ≡ b → cond (b && ends_in_class (drop (length front) path)) (Some (drop (length front) path)) None ≡ Some name → IsBehind front path name) [
      | true ↦ λ begins. elim (ends_in_class (drop (length front) path)) as (λ b. ends_in_class (drop (length front) path) ≡ b → cond b (Some (drop (length front) path)) None ≡ Some name → IsBehind front path name) [
        | true ↦ λ ends e. let is : name ≡ drop (length front) path = cc in record { begins = begins; rest = is; class_file = subst (λ n. IsTrue (ends_in_class n)) (sym is) ends }
        | false ↦ λ ends e. absurd (None≢Some e)
      ] refl
      | false ↦ λ begins e. absurd (None≢Some e)
    ] refl

-- Paths with one front are in the order of their rests.
same_front : (front a b : List ℕ) → slice_cmp nat_cmp (front ++ a) (front ++ b) ≡ slice_cmp nat_cmp a b
same_front [] a b = refl
same_front (x ∷ front) a b = ap (λ o. ordering_then o (slice_cmp nat_cmp (front ++ a) (front ++ b))) (tied_itself nat_cmp_total x) ∙ same_front front a b

begins_so : (front path : List ℕ) → starts_with nat_eq path front ≡ true → path ≡ front ++ drop (length front) path
begins_so front path e = (starts_is Decides-eqb path front _ refl).0 e

same_order : (front p q : List ℕ) → starts_with nat_eq p front ≡ true → starts_with nat_eq q front ≡ true → slice_cmp nat_cmp p q ≡ slice_cmp nat_cmp (drop (length front) p) (drop (length front) q)
same_order front p q a b = ap (λ x. slice_cmp nat_cmp x q) (begins_so front p a) ∙ ap (λ x. slice_cmp nat_cmp (front ++ drop (length front) p) x) (begins_so front q b) ∙ same_front front (drop (length front) p) (drop (length front) q)

less_behind : (front p : List ℕ) (ps : List (List ℕ)) → starts_with nat_eq p front ≡ true → AllByRecursion (λ y. slice_cmp nat_cmp p y ≡ Less) ps → AllByRecursion (λ y. slice_cmp nat_cmp (drop (length front) p) y ≡ Less) (filter_map (name_behind front) ps)
less_behind front p [] s h = tt
less_behind front p (q ∷ ps) s h =
    let others = less_behind front p ps s h.1 in
    elim (name_behind front q) as (λ o. name_behind front q ≡ o → AllByRecursion (λ y. slice_cmp nat_cmp (drop (length front) p) y ≡ Less) (cons_option o (filter_map (name_behind front) ps))) [
      | None ↦ λ e. others
      | Some name ↦ λ e. let is = is_behind front q name e in (ap (slice_cmp nat_cmp (drop (length front) p)) is.rest ∙ sym (same_order front p q s is.begins) ∙ h.0, others)
    ] refl

pub ascend_behind : (front : List ℕ) (ps : List (List ℕ)) → Ascend ps → Ascend (filter_map (name_behind front) ps)
unfolding IsStrictlySortedBy
ascend_behind front [] h = tt
ascend_behind front (p ∷ ps) h =
    let others = ascend_behind front ps h.1 in
    elim (name_behind front p) as (λ o. name_behind front p ≡ o → Ascend (cons_option o (filter_map (name_behind front) ps))) [
      | None ↦ λ e. others
      | Some name ↦ λ e. let is = is_behind front p name e in (subst (λ n. AllByRecursion (λ y. slice_cmp nat_cmp n y ≡ Less) (filter_map (name_behind front) ps)) (sym is.rest) (less_behind front p ps is.begins h.0), others)
    ] refl

pub classes_behind : (front : List ℕ) (ps : List (List ℕ)) → AllEndInClass (filter_map (name_behind front) ps)
classes_behind front [] = All-nil (λ n. IsTrue (ends_in_class n))
classes_behind front (p ∷ ps) =
    let others = classes_behind front ps in
    elim (name_behind front p) as (λ o. name_behind front p ≡ o → AllEndInClass (cons_option o (filter_map (name_behind front) ps))) [
      | None ↦ λ e. others
      | Some name ↦ λ e. All-cons (λ n. IsTrue (ends_in_class n)) name (filter_map (name_behind front) ps) (is_behind front p name e).class_file others
    ] refl

-- Texts in order are bytes in order.
less_texts : (k : String Global) (ks : List (String Global)) → AllByRecursion (λ y. string_cmp k y ≡ Less) ks → AllByRecursion (λ y. slice_cmp nat_cmp (string_bytes k) y ≡ Less) (paths_of ks)
less_texts k [] h = tt
less_texts k (q ∷ ks) h = (h.0, less_texts k ks h.1)

pub ascend_texts : (ks : List (String Global)) → IsStrictlySortedBy string_cmp ks → Ascend (paths_of ks)
unfolding IsStrictlySortedBy
ascend_texts [] h = tt
ascend_texts (k ∷ ks) h = (less_texts k ks h.0, ascend_texts ks h.1)

-- A loop that gathers the names of paths: one turn, and the end.
pub gathered_more : (front : List ℕ) (names new all : List (List ℕ)) (left rest : List (String Global)) (path : String Global) (text : List ℕ) → text ≡ string_bytes path → left ≡ path ∷ rest
    → new ≡ names ++ option_to_list (name_behind front text) → names ++ filter_map (name_behind front) (paths_of left) ≡ all → new ++ filter_map (name_behind front) (paths_of rest) ≡ all
gathered_more front names new all left rest path text text_is left_is new_is so_far =
    ap (λ n. n ++ filter_map (name_behind front) (paths_of rest)) (new_is ∙ ap (λ t. names ++ option_to_list (name_behind front t)) text_is)
    ∙ filter_map_more (name_behind front) names (string_bytes path) (paths_of rest) all (subst (λ l. names ++ filter_map (name_behind front) (paths_of l) ≡ all) left_is so_far)

pub gathered_all : (front : List ℕ) (names all : List (List ℕ)) (left : List (String Global)) → left ≡ [] → names ++ filter_map (name_behind front) (paths_of left) ≡ all → names ≡ all
gathered_all front names all left none so_far = sym (append-nil names) ∙ subst (λ l. names ++ filter_map (name_behind front) (paths_of l) ≡ all) none so_far
