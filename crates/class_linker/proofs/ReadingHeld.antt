-- Readings of which one is held otherwise.
use Rattle.std.proofs.Common.{◌≡◌, ℕ, zero, suc, ◌<◌, List, [], ◌∷◌, length, slice_index_or, slice_set, ap, arith}
use Rattle.class_linker.specs.declared.readings.Held.{Held}
use Rattle.class_linker.specs.declared.readings.Reading.{Reading}
use Rattle.class_linker.specs.Kept.{held_as, with_held}

pub set_held : (rs : List Reading) (place : ℕ) (x : Reading) (held : Held) → place < length rs → x ≡ slice_index_or rs place x → slice_set rs place (held_as held x) ≡ with_held rs place held
set_held [] place x held within is = absurd (omega (arith, within))
set_held (r ∷ rs) zero x held within is = ap (λ (y : Reading). held_as held y ∷ rs) is
set_held (r ∷ rs) (suc place) x held within is = let less : place < length rs = omega (arith, within) in ap (λ (ys : List Reading). r ∷ ys) (set_held rs place x held less is)
