-- What a sink took.
use Rattle.std.specs.Prelude.{◌≡◌, ℕ, List, ◌++◌, Option, Some, None, Result, Ok, Err, ⊤}

-- What was taken grows by these bytes, where the sink tells. Whether it tells stays.
abbrev pub GrowsBy : Option (List ℕ) → Option (List ℕ) → List ℕ → Type 0
GrowsBy None None bytes = ⊤
GrowsBy None (Some new) bytes = ⊥
GrowsBy (Some old) None bytes = ⊥
GrowsBy (Some old) (Some new) bytes = new ≡ old ++ bytes

-- What was taken grows by a front of these bytes: by some of the first, by none or by all.
pub record GrowsByFront (before after : Option (List ℕ)) (bytes : List ℕ) : Type 0 where
  pub front : List ℕ
  pub tail : List ℕ
  pub whole : bytes ≡ front ++ tail
  pub grows : GrowsBy before after front

-- A put takes all of the bytes, or after a fault a front of them.
abbrev pub Takes : {T E : Type 0} → Option (List ℕ) → Option (List ℕ) → List ℕ → Result T E → Type 0
Takes old new bytes (Ok x) = GrowsBy old new bytes
Takes old new bytes (Err fault) = GrowsByFront old new bytes
