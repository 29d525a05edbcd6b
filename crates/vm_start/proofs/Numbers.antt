-- The required classes by their numbers.
use Rattle.std.proofs.Common.{◌≡◌, ℕ, zero, suc, ◌≤◌, length, None, sym, arith}
use Rattle.std.proofs.lemmas.Option.{slice_get_past}
use Rattle.class_record.specs.Required.{required}
use Rattle.vm_start.specs.Table.{numbered}

pub none_past : (n : ℕ) → 39 ≤ n → None ≡ numbered n
none_past zero h = absurd (omega (arith, h))
none_past (suc k) h = let e : length required ≤ k = omega (arith, h) in sym (slice_get_past required k e)
