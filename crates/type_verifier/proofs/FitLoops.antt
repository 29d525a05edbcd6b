-- The loop over the operands of two stacks, from the deepest up.
use Rattle.std.proofs.Common.{◌≡◌, ℕ, zero, suc, ◌+◌, ◌<◌, ◌≤◌, List, [], ◌∷◌, length, get_or, drop, Some, refl, sym, ap, ◌∙◌, subst, arith, slice_get}
use Rattle.std.proofs.lemmas.List.{drop_more}
use Rattle.std.proofs.lemmas.Option.{slice_get_within, slice_get-get_or}
use Rattle.std.specs.Prelude.{Result, Ok, Err}
use Rattle.verify_rules.specs.declared.ask.Ask.{Ask}
use Rattle.verify_rules.specs.declared.types.VType.{VType}
use Rattle.verify_rules.specs.declared.cause.Stop.{Stop}
use Rattle.verify_rules.specs.Asking.{Check, Checked, and_then}
use Rattle.verify_rules.specs.Assign.{assign}
use Rattle.verify_rules.specs.Fits.{operands_fit}
use Rattle.type_verifier.proofs.Asked.{checked_then, checked_stop}

-- what is left of a list from an item on
pub drop_item : {A : Type 0} (xs : List A) (k : ℕ) (x : A) → slice_get xs k ≡ Some x → drop k xs ≡ x ∷ drop (k + 1) xs
drop_item xs k x e =
    let lt : k < length xs = slice_get_within xs k x e in
    let at : Some (get_or xs k x) ≡ Some x = sym (slice_get-get_or xs k x lt) ∙ e in
    let same : get_or xs k x ≡ x = cc in
    drop_more xs k x lt ∙ ap (λ y. y ∷ drop (k + 1) xs) same

module _ (from to : List VType) (k : ℕ) (a b : VType) (at : slice_get from k ≡ Some a) (bt : slice_get to k ≡ Some b) where
  operands_here : operands_fit (drop k from) (drop k to) ≡ and_then (operands_fit (drop (k + 1) from) (drop (k + 1) to)) (assign a b)
  unfolding operands_fit
  operands_here = rw (drop_item from k a at, drop_item to k b bt) refl

  pub operands_on : (old mid new : List Ask) (r : Result (Unit {0}) Stop) → Checked {U = Unit {0}} (operands_fit (drop (k + 1) from) (drop (k + 1) to)) old mid (Ok tt) → Checked (assign a b) mid new r
      → Checked (operands_fit (drop k from) (drop k to)) old new r
  operands_on old mid new r h j =
      let u : Unit {0} = tt in
      subst (λ (c : Check). Checked c old new r) (sym operands_here) (checked_then (operands_fit (drop (k + 1) from) (drop (k + 1) to)) (assign a b) old mid new u r tt h j)

-- what is refused below is refused
pub operands_fail : (U : Type 0) (k : ℕ) (from to : List VType) (old new : List Ask) (e : Stop) → length from ≡ length to → k ≤ length from → Checked {U = U} (operands_fit (drop k from) (drop k to)) old new (Err e)
    → Checked {U = U} (operands_fit from to) old new (Err e)
unfolding operands_fit
operands_fail U zero from to old new e same le h = h
operands_fail U (suc k) [] to old new e same le h = absurd (omega arith)
operands_fail U (suc k) (a ∷ from) [] old new e same le h = absurd (omega arith)
operands_fail U (suc k) (a ∷ from) (b ∷ to) old new e same le h = checked_stop U U (operands_fit from to) (assign a b) old new e tt (operands_fail U k from to old new e (omega arith) (omega arith) h)
