use Rattle.std.proofs.Common.{◌≡◌, Some, refl, ◌∷◌, [], ℕ, List, sym, ◌∙◌}
use Rattle.std.proofs.lemmas.Slice.Eq.{bytes_eq-Decides}
use Rattle.jsa_names.specs.Types.{result_of, field_type_of, element_type_of, base_type}
use Rattle.jsa_names.proofs.methods.is_result.Goals as goal

void : (bytes : List ℕ) → bytes ≡ 86 ∷ [] → result_of bytes ≡ Some (field_type_of bytes)
unfolding result_of field_type_of element_type_of base_type
void bytes h = rw h refl

pub returns-then-eq-clause-some : goal.returns-then-eq-clause-some
returns-then-eq-clause-some c =
    λ _. void c.args.bytes.now ((bytes_eq-Decides c.args.bytes.now (86 ∷ [])).0 (rw c.as_slice.ensures at (sym c.eq.ensures ∙ c.if-eq.true)))
