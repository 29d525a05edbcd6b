-- What ties the reading of a format to its spelling.
use Rattle.std.specs.Prelude.{◌≡◌, ℕ, List, ◌++◌, Some}
use Rattle.jsa_base.specs.Reading.{IsBytes, Read}

-- The bytes are the value's text and the rest, and the value fits.
pub record Took {A : Type 0} (spell : A → List ℕ) (Fits : A → Type 0) (bytes : List ℕ) (x : A) (rest : List ℕ) : Type 0 where
  pub parts : bytes ≡ spell x ++ rest
  pub rest_bytes : IsBytes rest
  pub fits : Fits x

-- What is read is spelled so, what is spelled so is read, and what is spelled are bytes.
pub record Codec {A : Type 0} (read : List ℕ → Read A) (spell : A → List ℕ) (Fits : A → Type 0) : Type 0 where
  pub takes : (bytes : List ℕ) (x : A) (rest : List ℕ) → IsBytes bytes → read bytes ≡ Some (x, rest) → Took spell Fits bytes x rest
  pub again : (x : A) (rest : List ℕ) → Fits x → read (spell x ++ rest) ≡ Some (x, rest)
  pub bytes : (x : A) → Fits x → IsBytes (spell x)
