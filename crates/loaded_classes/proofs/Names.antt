-- Names of classes by their places, and what stands among them.
use Rattle.std.proofs.Common.{◌≡◌, ℕ, zero, suc, Bool, true, false, ◌||◌, List, [], ◌∷◌, Some, slice_get, refl, sym, ap, ◌∙◌}
use Rattle.std.specs.Str.{bytes_eq}
use Rattle.std.proofs.lemmas.Option.{slice_get-map}
use Rattle.std.proofs.lemmas.Slice.Eq.{bytes_eq-Decides}
use Rattle.class_record.specs.Files.{Name}
use Rattle.class_record.specs.Loading.{is_among}
use Rattle.class_record.specs.Facts.{Facts, names_of, name_of}
use Rattle.class_record.specs.Records.{facts_of}
use Rattle.class_tree.specs.ClassNames.{own_name}
use Rattle.loaded_classes.specs.declared.held.HeldClass.{HeldClass}
use Rattle.loaded_classes.specs.Held.{facts_in, facts_list}

pub name_is : (h : HeldClass) → name_of (facts_in h) ≡ own_name h.tree
unfolding facts_of
name_is h = refl

-- what is held at a place, and what is known there
pub facts_at : (held : List HeldClass) (id : ℕ) (h : HeldClass) → slice_get held id ≡ Some h → slice_get (facts_list held) id ≡ Some (facts_in h)
facts_at held id h is = rw slice_get-map (rw is refl)

pub name_at_place : (fs : List Facts) (id : ℕ) (f : Facts) → slice_get fs id ≡ Some f → slice_get (names_of fs) id ≡ Some (name_of f)
name_at_place fs id f is = rw slice_get-map (rw is refl)

pub held_name : (held : List HeldClass) (id : ℕ) (h : HeldClass) → slice_get held id ≡ Some h → slice_get (names_of (facts_list held)) id ≡ Some (own_name h.tree)
held_name held id h is = name_at_place (facts_list held) id (facts_in h) (facts_at held id h is) ∙ ap (λ (n : Name). Some n) (name_is h)

-- ---- among names

pub same_name : (a b : Name) → bytes_eq a b ≡ true → a ≡ b
same_name a b h = (bytes_eq-Decides a b).0 h

pub like_itself : (a : Name) → bytes_eq a a ≡ true
like_itself a = (bytes_eq-Decides a a).1 refl

-- where a name stands that is among them
pub record StandsIn (names : List Name) (name : Name) : Type 0 where
  pub place : ℕ
  pub is : slice_get names place ≡ Some name

stands_by : (b : Bool) (n : Name) (ns : List Name) (name : Name) → bytes_eq name n ≡ b → is_among name (n ∷ ns) ≡ true → (is_among name ns ≡ true → StandsIn ns name) → StandsIn (n ∷ ns) name
stands_by true n ns name e h later = record { place = zero; is = ap (λ (m : Name). Some m) (sym (same_name name n e)) }
stands_by false n ns name e h later =
    let rest : is_among name ns ≡ true = sym (ap (λ (b : Bool). b || is_among name ns) e) ∙ h in
    let s = later rest in
    record { place = suc s.place; is = s.is }

pub stands : (names : List Name) (name : Name) → is_among name names ≡ true → StandsIn names name
stands [] name h = absurd cc
stands (n ∷ ns) name h = stands_by (bytes_eq name n) n ns name refl h (stands ns name)

pub among_at : (names : List Name) (name : Name) (k : ℕ) → slice_get names k ≡ Some name → is_among name names ≡ true
among_at [] name k is = absurd cc
among_at (n ∷ ns) name zero is =
    let same : n ≡ name = cc in
    ap (λ (m : Name). bytes_eq name m || is_among name ns) same ∙ ap (λ (b : Bool). b || is_among name ns) (like_itself name)
among_at (n ∷ ns) name (suc k) is = ap (λ (b : Bool). bytes_eq name n || b) (among_at ns name k is) ∙ or_true (bytes_eq name n)
  where
    or_true : (b : Bool) → (b || true) ≡ true
    or_true true = refl
    or_true false = refl
