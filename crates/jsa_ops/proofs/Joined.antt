-- Bytes that are put one after the other.
use Rattle.std.proofs.Common.{◌≡◌, ℕ, List, ◌++◌, Result, ap, subst, ◌∙◌, append_assoc}
use Rattle.std.specs.Prelude.{OnOk}

-- behind padding and a default distance
pub joined : {A E : Type 0} (r : Result A E) (old mid new pad other more : List ℕ) → mid ≡ old ++ (pad ++ other) → OnOk r (new ≡ mid ++ more) → OnOk r (new ≡ old ++ (pad ++ (other ++ more)))
joined r old mid new pad other more e h =
    let k : mid ++ more ≡ old ++ (pad ++ (other ++ more)) = ap (λ (l : List ℕ). l ++ more) e ∙ simp append_assoc in
    subst (λ (l : List ℕ). OnOk r (new ≡ l)) k h
