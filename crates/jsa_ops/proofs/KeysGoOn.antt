-- A switch that some bytes decode to goes on for each key.
use Rattle.std.proofs.Common.{◌≡◌, ℕ, ℤ, ◌<◌, Bool, true, false, cond, List, length, Some, get_or, refl, arith}
use Rattle.std.specs.Prelude.{slice_get, FitsSigned, int_lt, ◌||◌, ◌-ℤ◌, unsigned_abs}
use Rattle.std.specs.Int.{w32}
use Rattle.std.proofs.lemmas.Bool.{or_parts}
use Rattle.std.proofs.lemmas.Int.{ints}
use Rattle.std.proofs.lemmas.Option.{slice_get-get_or}
use Rattle.jsa_ops.specs.Instruction.{Instruction, Plain, Byte, Short, Constant, Local, Iinc, Wide, WideIinc, Branch, Member, Interface, Dynamic, ClassOf, NewArray, MultiArray, TableSwitch, LookupSwitch}
use Rattle.jsa_ops.specs.Spelling.{Fits, distances, pairs, span}
use Rattle.jsa_ops.specs.Switches.{distance_for, pair_distance, is_switch, EachKeyGoesOn}
use Rattle.jsa_ops.proofs.SwitchPlaces.{length-distances}
use Rattle.jsa_ops.proofs.Written.{fits_is}

abbrev GoesOn : Instruction → ℤ → Type 0
GoesOn i key = (d : ℤ) × (distance_for i key ≡ Some d)

-- a key from low to high has a place among as many distances
within : (low high key : ℤ) → FitsSigned w32 low → FitsSigned w32 high → FitsSigned w32 key → (int_lt key low || int_lt high key) ≡ false → unsigned_abs (key -ℤ low) < span low high
within low high key fl fh fk h = let p = or_parts (int_lt key low) (int_lt high key) h in omega (arith, ints, fl.sfits, fh.sfits, fk.sfits, p.0, p.1)

table_by : (b : Bool) (other : ℤ) (all : List ℤ) (place : ℕ) → (b ≡ false → place < length all) → (d : ℤ) × (cond b (Some other) (slice_get all place) ≡ Some d)
table_by true other all place inside = (other, refl)
table_by false other all place inside = (get_or all place other, slice_get-get_or all place other (inside refl))

goes_on_by : (i : Instruction) → Fits i → is_switch i ≡ true → (key : ℤ) → FitsSigned w32 key → GoesOn i key
goes_on_by (TableSwitch op other low high bytes) fits is key fk =
    let outside = int_lt key low || int_lt high key in
    table_by outside other (distances bytes) (unsigned_abs (key -ℤ low))
    (λ h. omega (arith, within low high key fits.2 fits.3 fk h, length-distances bytes, fits.5))
goes_on_by (LookupSwitch op other bytes) fits is key fk = (pair_distance other (pairs bytes) key, refl)
goes_on_by (Plain op) fits is key fk = absurd cc
goes_on_by (Byte op v) fits is key fk = absurd cc
goes_on_by (Short op v) fits is key fk = absurd cc
goes_on_by (Constant op i) fits is key fk = absurd cc
goes_on_by (Local op n) fits is key fk = absurd cc
goes_on_by (Iinc op n v) fits is key fk = absurd cc
goes_on_by (Wide op code n) fits is key fk = absurd cc
goes_on_by (WideIinc op n v) fits is key fk = absurd cc
goes_on_by (Branch op d) fits is key fk = absurd cc
goes_on_by (Member op i) fits is key fk = absurd cc
goes_on_by (Interface op i a b) fits is key fk = absurd cc
goes_on_by (Dynamic op i a b) fits is key fk = absurd cc
goes_on_by (ClassOf op i) fits is key fk = absurd cc
goes_on_by (NewArray op code) fits is key fk = absurd cc
goes_on_by (MultiArray op i d) fits is key fk = absurd cc

pub each_goes_on : EachKeyGoesOn
each_goes_on i decoded is key fk = goes_on_by i (fits_is i decoded) is key fk
