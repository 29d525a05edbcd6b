use Rattle.std.proofs.Common.{◌≡◌, ℕ, ◌+◌, Bool, true, false, ◌||◌, List, ◌∷◌, get_or, drop, Some, refl, sym, ap, ◌∙◌}
use Rattle.std.specs.Prelude.{slice_get}
use Rattle.std.specs.List.{list_any}
use Rattle.std.proofs.lemmas.List.{drop_more}
use Rattle.std.proofs.lemmas.Option.{slice_get_within, slice_get-get_or}
use Rattle.verify_rules.specs.declared.types.VType.{VType}
use Rattle.verify_rules.specs.Types.{is_made_at}
use Rattle.type_verifier.proofs.objects.is_any_made_at.Goals as goal

-- what is still to be looked through answers for the whole stack, and one type of it is looked at
module _ (test : VType → Bool) (s : List VType) (k : ℕ) (t : VType) (at : slice_get s k ≡ Some t) (whole : Bool) (so_far : list_any test (drop k s) ≡ whole) where
  item_here : drop k s ≡ t ∷ drop (k + 1) s
  item_here =
      let lt = slice_get_within s k t at in
      let e : Some (get_or s k t) ≡ Some t = sym (slice_get-get_or s k t lt) ∙ at in
      let same : get_or s k t ≡ t = cc in
      drop_more s k t lt ∙ ap (λ y. y ∷ drop (k + 1) s) same

  any_here : list_any test (drop k s) ≡ (test t || list_any test (drop (k + 1) s))
  any_here = rw item_here refl

  any_found : test t ≡ true → true ≡ whole
  any_found e = let h : (test t || list_any test (drop (k + 1) s)) ≡ true = rw e refl in sym h ∙ (sym any_here ∙ so_far)

  any_next : test t ≡ false → list_any test (drop (k + 1) s) ≡ whole
  any_next e = let h : (test t || list_any test (drop (k + 1) s)) ≡ list_any test (drop (k + 1) s) = rw e refl in sym h ∙ (sym any_here ∙ so_far)

pub returns-then-is_copy_of : goal.returns-then-is_copy_of
returns-then-is_copy_of c = any_found (is_made_at c.args.place) c.args.stack.now c.loop-k.k c.item.result.now c.item.ensures (list_any (is_made_at c.args.place) c.args.stack.now) c.loop-k.invariant (sym c.is_copy_of.ensures ∙ c.if-is_copy_of.true)

pub loop-k-preserved : goal.loop-k-preserved
loop-k-preserved c = any_next (is_made_at c.args.place) c.args.stack.now c.loop-k.k c.item.result.now c.item.ensures (list_any (is_made_at c.args.place) c.args.stack.now) c.loop-k.invariant (sym c.is_copy_of.ensures ∙ c.if-is_copy_of.false)
