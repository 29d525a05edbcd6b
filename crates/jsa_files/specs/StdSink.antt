-- What a writer of std took.
use Rattle.std.specs.Prelude.{◌≡◌, ℕ, List, ◌++◌, Option, Result, Ok, Err}
use Rattle.std.specs.Io.KnownBytes.{Appends}
use Rattle.jsa_files.specs.declared.std_sink.StdSink.{StdSink}

-- the writer that a sink is over
abbrev pub writer_of : {W : Type 0} → StdSink W → W
writer_of sink = sink.writer

-- What a writer holds grew by a front of these bytes, where that is known.
pub record AppendsFront (before after : Option (List ℕ)) (bytes : List ℕ) : Type 0 where
  pub front : List ℕ
  pub tail : List ℕ
  pub whole : bytes ≡ front ++ tail
  pub appends : Appends before after front

-- A writer took all of the bytes, or after a fault a front of them.
abbrev pub Writes : {T E : Type 0} → Option (List ℕ) → Option (List ℕ) → List ℕ → Result T E → Type 0
Writes before after bytes (Ok x) = Appends before after bytes
Writes before after bytes (Err fault) = AppendsFront before after bytes
