-- What a vector holds after pieces that are put one after the other.
use Rattle.std.proofs.Common.{◌≡◌, ℕ, List, ◌++◌, Result, Ok, Err, ◌∙◌, append_assoc}
use Rattle.std.specs.Prelude.{OnOk}

pub on_ok_then : {E : Type 0} (r : Result (Unit {0}) E) (new old more all : List ℕ) → OnOk r (new ≡ old ++ more) → old ++ more ≡ all → OnOk r (new ≡ all)
on_ok_then (Ok x) new old more all e f = e ∙ f
on_ok_then (Err x) new old more all e f = tt

-- four pieces, one after the other
pub four : (b0 b1 b2 b3 w x y z all : List ℕ) → b1 ≡ b0 ++ w → b2 ≡ b1 ++ x → b3 ≡ b2 ++ y → all ≡ x ++ (y ++ z) → b3 ++ z ≡ b0 ++ (w ++ all)
four b0 b1 b2 b3 w x y z all e f g h = rw (g, f, e, h) (simp append_assoc)
