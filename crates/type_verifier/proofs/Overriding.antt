-- Which methods of superclasses a method overrides, from the lowest up.
use Rattle.std.proofs.Common.{◌≡◌, ℕ, ◌+◌, ◌<◌, ◌≤◌, length, drop, get_or, Bool, true, false, ◌||◌, List, [], ◌∷◌, ◌++◌, Option, Some, None, refl, sym, ap, ◌∙◌}
use Rattle.std.proofs.lemmas.List.{drop_all}
use Rattle.std.specs.List.{list_any}
use Rattle.std.specs.Option.{option_map}
use Rattle.class_tree.specs.declared.tree.ClassTree.{ClassTree}
use Rattle.class_tree.specs.declared.tree.MethodTree.{MethodTree}
use Rattle.verify_rules.specs.Superclasses.{Superclass, Member}
use Rattle.verify_rules.specs.Types.{top_first}
use Rattle.verify_rules.specs.Classes.{Origin, origin, overridden_in, overridden_by, overrides_final}
use Rattle.verify_rules.specs.Walking.{is_final_method}
use Rattle.type_verifier.proofs.Numbering.{drop_here}

-- ---- the lowest first

or_last : (a b : Bool) → a || b ≡ b || a
or_last true true = refl
or_last true false = refl
or_last false true = refl
or_last false false = refl

or_moved : (a b c : Bool) → a || (b || c) ≡ b || (a || c)
or_moved true true c = refl
or_moved true false c = refl
or_moved false true c = refl
or_moved false false c = refl

any_last : {A : Type 0} (p : A → Bool) (xs : List A) (x : A) → list_any p (xs ++ x ∷ []) ≡ p x || list_any p xs
any_last p [] x = refl
any_last p (y ∷ ys) x = ap (λ (b : Bool). p y || b) (any_last p ys x) ∙ or_moved (p y) (p x) (list_any p ys)

pub any_top_first : {A : Type 0} (p : A → Bool) (xs : List A) → list_any p (top_first xs) ≡ list_any p xs
any_top_first p [] = refl
any_top_first p (x ∷ xs) = any_last p (top_first xs) x ∙ ap (λ (b : Bool). p x || b) (any_top_first p xs)

pub top_pushed : {A : Type 0} (xs : List A) (x : A) → top_first (xs ++ x ∷ []) ≡ x ∷ top_first xs
top_pushed [] x = refl
top_pushed (y ∷ ys) x = ap (λ (l : List _). l ++ y ∷ []) (top_pushed ys x)

-- ---- one superclass

module _ (t : ClassTree) (m : MethodTree) (lower : List Origin) (c : Superclass) (supers : List Superclass) where
  final_at : (o : Option Member) (above : List Origin → Bool) → option_map is_final_method o ≡ Some true → overridden_by o c lower above ≡ true
  final_at None above e = absurd cc
  final_at (Some upper) above e = let f : is_final_method upper ≡ true = cc in rw f refl

  plain_at : (o : Option Member) (above : List Origin → Bool) → option_map is_final_method o ≡ Some false → overridden_by o c lower above ≡ above (origin c ∷ lower)
  plain_at None above e = absurd cc
  plain_at (Some upper) above e = let f : is_final_method upper ≡ false = cc in rw f refl

  none_at : (o : Option Member) (above : List Origin → Bool) → option_map is_final_method o ≡ None → overridden_by o c lower above ≡ above lower
  none_at None above e = refl
  none_at (Some upper) above e = absurd cc

  pub over_final : option_map is_final_method (overridden_in t m lower c c.methods) ≡ Some true → overrides_final t m lower (c ∷ supers) ≡ true
  unfolding overrides_final
  over_final e = final_at (overridden_in t m lower c c.methods) (λ classes. overrides_final t m classes supers) e

  pub over_plain : option_map is_final_method (overridden_in t m lower c c.methods) ≡ Some false → overrides_final t m lower (c ∷ supers) ≡ overrides_final t m (origin c ∷ lower) supers
  unfolding overrides_final
  over_plain e = plain_at (overridden_in t m lower c c.methods) (λ classes. overrides_final t m classes supers) e

  pub over_none : option_map is_final_method (overridden_in t m lower c c.methods) ≡ None → overrides_final t m lower (c ∷ supers) ≡ overrides_final t m lower supers
  unfolding overrides_final
  over_none e = none_at (overridden_in t m lower c c.methods) (λ classes. overrides_final t m classes supers) e

-- ---- along the superclasses, with the lowest last

module _ (t : ClassTree) (m : MethodTree) (whole : Bool) (lower ls : List Origin) (supers : List Superclass) (i : ℕ) (c : Superclass) (at : c ≡ get_or supers i c) (lt : i < length supers) (l : ls ≡ lower) where
  answered : (r : Option Bool) → r ≡ option_map is_final_method (overridden_in t m (top_first ls) c c.methods) → option_map is_final_method (overridden_in t m (top_first lower) c c.methods) ≡ r
  answered r e = rw (← l) (sym e)

  so_far : overrides_final t m (top_first lower) (drop i supers) ≡ whole → overrides_final t m (top_first lower) (c ∷ drop (i + 1) supers) ≡ whole
  so_far w = ap (overrides_final t m (top_first lower)) (sym (drop_here supers i c at lt)) ∙ w

  pub step_final : (b : Bool) → Some b ≡ option_map is_final_method (overridden_in t m (top_first ls) c c.methods) → b ≡ true → overrides_final t m (top_first lower) (drop i supers) ≡ whole → true ≡ whole
  step_final b e h w = sym (over_final t m (top_first lower) c (drop (i + 1) supers) (answered (Some b) e ∙ ap (λ (x : Bool). Some x) h)) ∙ so_far w

  pub step_plain : (b : Bool) (new : List Origin) → Some b ≡ option_map is_final_method (overridden_in t m (top_first ls) c c.methods) → b ≡ false → new ≡ lower ++ origin c ∷ [] → overrides_final t m (top_first lower) (drop i supers) ≡ whole → overrides_final t m (top_first new) (drop (i + 1) supers) ≡ whole
  step_plain b new e h p w =
      ap (λ (x : List Origin). overrides_final t m x (drop (i + 1) supers)) (ap top_first p ∙ top_pushed lower (origin c))
      ∙ sym (over_plain t m (top_first lower) c (drop (i + 1) supers) (answered (Some b) e ∙ ap (λ (x : Bool). Some x) h)) ∙ so_far w

  pub step_none : None ≡ option_map is_final_method (overridden_in t m (top_first ls) c c.methods) → overrides_final t m (top_first lower) (drop i supers) ≡ whole → overrides_final t m (top_first lower) (drop (i + 1) supers) ≡ whole
  step_none e w = sym (over_none t m (top_first lower) c (drop (i + 1) supers) (answered None e)) ∙ so_far w

pub steps_end : (t : ClassTree) (m : MethodTree) (whole : Bool) (lower : List Origin) (supers : List Superclass) (i : ℕ) → length supers ≤ i → overrides_final t m lower (drop i supers) ≡ whole → false ≡ whole
unfolding overrides_final
steps_end t m whole lower supers i le w = ap (overrides_final t m lower) (sym (drop_all i supers le)) ∙ w

pub steps_begin : (t : ClassTree) (m : MethodTree) (supers : List Superclass) (new none : List Origin) (x own : Origin) → new ≡ none ++ x ∷ [] → none ≡ [] → x ≡ own → overrides_final t m (top_first new) supers ≡ overrides_final t m (own ∷ []) supers
steps_begin t m supers new none x own e n o =
    let p : new ≡ own ∷ [] = e ∙ ap (λ (l : List Origin). l ++ x ∷ []) n ∙ ap (λ (y : Origin). y ∷ []) o in
    ap (λ (l : List Origin). overrides_final t m (top_first l) supers) p
