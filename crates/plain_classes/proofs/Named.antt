-- Whether a class has its own name inside.
use Rattle.std.proofs.Common.{◌≡◌, ℕ, true, false, List, refl, sym, subst, ◌∙◌}
use Rattle.std.specs.Str.{bytes_eq}
use Rattle.std.proofs.lemmas.Slice.Eq.{bytes_eq-Decides}
use Rattle.first_form.specs.FirstForm.{IsOther}
use Rattle.first_form.proofs.InnerNames.{named_is_form, one_inside}
use Rattle.plain_classes.specs.Outcomes.{Tells}
use Rattle.plain_classes.specs.Records.{IsNamed}

pub named_is : (bytes inside name : List ℕ) → IsNamed bytes inside → Tells (bytes_eq inside name) (IsNamed bytes name)
named_is bytes inside name is =
    elim (bytes_eq inside name) as (λ b. bytes_eq inside name ≡ b → Tells b (IsNamed bytes name)) [
      | true ↦ λ e. subst (IsNamed bytes) ((bytes_eq-Decides inside name).0 e) is
      | false ↦ λ e other. let t : false ≡ true = sym e ∙ (bytes_eq-Decides inside name).1 (one_inside bytes inside name is other) in absurd cc
    ] refl

pub other_is : (bytes name : List ℕ) → IsOther bytes → IsNamed bytes name → ⊥
other_is bytes name other is = other is.0 (named_is_form bytes name is.0 is.1)
