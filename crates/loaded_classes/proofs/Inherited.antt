-- The superinterfaces of a class by their places, and its size.
use Rattle.std.proofs.Common.{◌≡◌, ℕ, ◌+◌, ◌*◌, ◌<◌, ◌≤◌, List, [], ◌∷◌, length, Option, Some, None, slice_get, refl, sym, ap, subst, ◌∙◌, arith}
use Rattle.std.specs.List.{flat_map}
use Rattle.class_record.specs.Files.{Name}
use Rattle.class_record.specs.Facts.{names_of}
use Rattle.class_record.specs.Loading.{appended}
use Rattle.class_record.specs.Ancestors as ancestors
use Rattle.class_record.specs.Ancestors.{up_to_interface, superinterfaces_by, superinterfaces_in, newest}
use Rattle.class_record.specs.Built.{size_in, size_of_super}
use Rattle.class_tree.specs.ClassNames.{own_name}
use Rattle.loaded_classes.specs.declared.held.HeldClass.{HeldClass}
use Rattle.loaded_classes.specs.Held.{IsId, AreIds, IsHeld, facts_list}
use Rattle.loaded_classes.specs.Bases.{ids_appended, superinterfaces_at, superinterfaces_held, of_super, interface_appended, interfaces_appended, superinterface_ids, size_at, size_held}
use Rattle.loaded_classes.proofs.Names.{held_name}
use Rattle.loaded_classes.proofs.Grown.{stands_at}
use Rattle.loaded_classes.proofs.Ids.{Unique, appended-append, insert_ids, appended_ids, ids_later}

-- A name wanted at a place below the list's length is there.
none_within : (names : List Name) (n : ℕ) → n < length names → slice_get names n ≡ None → ⊥
none_within names n h none = let s = stands_at names n h in let is : slice_get names n ≡ Some s.item = s.is in cc

module _ (names : List Name) (unique : Unique names) (above : Name → List Name) (held : List HeldClass) (of : ℕ)
    (right : (w : Name) (n : ℕ) → n < of → slice_get names n ≡ Some w → AreIds names of (above w) (superinterfaces_at held n)) where
  interface_ids : (olds : List Name) (old : List ℕ) (w : Name) (n : ℕ) → n < of → slice_get names n ≡ Some w → AreIds names of olds old
      → AreIds names of (appended olds (up_to_interface above w)) (interface_appended held old n)
  interface_ids olds old w n less is before =
      subst (λ (ws : List Name). AreIds names of ws (interface_appended held old n)) (sym (appended-append olds (above w) (w ∷ [])))
      (insert_ids names unique of w n (appended olds (above w)) (ids_appended old (superinterfaces_at held n)) less is
      (appended_ids names unique of olds old (above w) (superinterfaces_at held n) before (right w n less is)))

  interfaces_ids : (olds : List Name) (old : List ℕ) (ws : List Name) (ns : List ℕ) → AreIds names of olds old → AreIds names of ws ns
      → AreIds names of (appended olds (flat_map (up_to_interface above) ws)) (interfaces_appended held old ns)
  interfaces_ids olds old [] [] before all = before
  interfaces_ids olds old [] (n ∷ ns) before all = absurd all
  interfaces_ids olds old (w ∷ ws) [] before all = absurd all
  interfaces_ids olds old (w ∷ ws) (n ∷ ns) before all =
      subst (λ (vs : List Name). AreIds names of vs (interfaces_appended held (interface_appended held old n) ns))
      (sym (appended-append olds (up_to_interface above w) (flat_map (up_to_interface above) ws)))
      (interfaces_ids (appended olds (up_to_interface above w)) (interface_appended held old n) ws ns (interface_ids olds old w n all.0 all.1 before) all.2)

  super_ids : of ≤ length names → (sup : Option Name) (id : Option ℕ) → IsId names of sup id → AreIds names of (ancestors.of_super above sup) (of_super held id)
  super_ids h None None i = tt
  super_ids h (Some w) None i = absurd cc
  super_ids h None (Some n) i = let first : n < of = i.0 in let less : n < length names = omega arith in absurd (none_within names n less i.1)
  super_ids h (Some w) (Some n) i = right w n i.0 i.1

  -- those of the superclass, then each direct one behind its own
  pub superinterfaces_ids : of ≤ length names → (sup : Option Name) (id : Option ℕ) (ws : List Name) (ns : List ℕ) → IsId names of sup id → AreIds names of ws ns
      → AreIds names of (superinterfaces_by above sup ws) (superinterface_ids held id ns)
  superinterfaces_ids h sup id ws ns i all =
      subst (λ (vs : List Name). AreIds names of vs (superinterface_ids held id ns))
      (sym (appended-append [] (ancestors.of_super above sup) (flat_map (up_to_interface above) ws)))
      (interfaces_ids (appended [] (ancestors.of_super above sup)) (ids_appended [] (of_super held id)) ws ns
      (appended_ids names unique of [] [] (ancestors.of_super above sup) (of_super held id) tt (super_ids h sup id i)) all)

-- ---- among the classes that are held

module _ (held : List HeldClass) (right : (id : ℕ) (h : HeldClass) → slice_get held id ≡ Some h → IsHeld (facts_list held) id h) where
  own_is : (w : Name) (n : ℕ) (h : HeldClass) → slice_get held n ≡ Some h → slice_get (names_of (facts_list held)) n ≡ Some w → own_name h.tree ≡ w
  own_is w n h there is = let a : slice_get (names_of (facts_list held)) n ≡ Some (own_name h.tree) = held_name held n h there in cc

  pub held_ids : (w : Name) (n : ℕ) → n < length held → slice_get (names_of (facts_list held)) n ≡ Some w
      → AreIds (names_of (facts_list held)) (length held) (superinterfaces_in (newest (facts_list held)) w) (superinterfaces_at held n)
  held_ids w n less is =
      let s = stands_at held n less in
      let later : n ≤ length held = omega arith in
      let same : own_name s.item.tree ≡ w = own_is w n s.item s.is is in
      subst (λ (o : Option HeldClass). AreIds (names_of (facts_list held)) (length held) (superinterfaces_in (newest (facts_list held)) w) (superinterfaces_held o)) (sym s.is)
      (subst (λ (v : Name). AreIds (names_of (facts_list held)) (length held) (superinterfaces_in (newest (facts_list held)) v) s.item.superinterfaces) same
      (ids_later (names_of (facts_list held)) n (length held) (superinterfaces_in (newest (facts_list held)) (own_name s.item.tree)) s.item.superinterfaces later (right n s.item s.is).superinterfaces))

  pub held_size : length held ≤ length (names_of (facts_list held)) → (sup : Option Name) (id : Option ℕ) → IsId (names_of (facts_list held)) (length held) sup id → size_of_super (newest (facts_list held)) sup ≡ size_at held id
  held_size h None None i = refl
  held_size h (Some w) None i = absurd cc
  held_size h None (Some n) i =
      let first : n < length held = i.0 in
      let less : n < length (names_of (facts_list held)) = omega arith in
      absurd (none_within (names_of (facts_list held)) n less i.1)
  held_size h (Some w) (Some n) i =
      let s = stands_at held n i.0 in
      let same : own_name s.item.tree ≡ w = own_is w n s.item s.is i.1 in
      ap (size_in (newest (facts_list held))) (sym same) ∙ (right n s.item s.is).size ∙ ap size_held (sym s.is)

  -- Sizes are small.
  pub size_small : (id : Option ℕ) → ((n : ℕ) → id ≡ Some n → n < length held) → size_at held id ≤ 65535 * length held
  size_small None within = omega arith
  size_small (Some n) within =
      let less : n < length held = within n refl in
      let s = stands_at held n less in
      let small : s.item.instance_size ≤ 65535 * (n + 1) = (right n s.item s.is).small in
      let is : size_at held (Some n) ≡ s.item.instance_size = ap size_held s.is in
      omega arith
