use Rattle.std.proofs.Common.{◌≡◌, Bool, ap, sym, subst, ◌∙◌}
use Rattle.std.specs.Prelude.{IfOk}
use Rattle.std.specs.Ordering.{nat_cmp}
use Rattle.class_tree.specs.TextPlaces.{is_same_key}
use Rattle.class_tree.specs.WellFormed.{are_distinct}
use Rattle.class_tree.proofs.SamePlaces.{classes_by_keys}
use Rattle.class_tree.proofs.distinct.are_distinct_classes.Goals as goal

pub returns : goal.returns
returns c =
    let e = c.deref.ensures.value ∙ c.in_ok-keys.ensures in
    subst (λ (b : Bool). IfOk c.are_distinct.result (λ distinct. distinct ≡ b)) (ap (are_distinct (is_same_key nat_cmp)) e ∙ sym (classes_by_keys c.args.places.now c.args.classes.now)) c.are_distinct.ensures
