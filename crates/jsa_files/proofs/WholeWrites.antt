-- What the writes of a piece have put so far.
use Rattle.std.proofs.Common.{◌≡◌, ◌-◌, ℕ, List, [], ◌++◌, length, Option, refl, sym, ap, ◌∙◌, take, drop, take-append-drop, append_assoc}
use Rattle.std.proofs.lemmas.List.{take_rest}
use Rattle.std.proofs.KnownBytes.{Appends-nil, Appends-trans, Appends-kept}
use Rattle.std.specs.Io.KnownBytes.{Appends, Keeps}
use Rattle.jsa_files.specs.StdSink.{AppendsFront}

-- A front of the bytes was put, and this is the rest.
pub record Wrote (first now : Option (List ℕ)) (bytes rest : List ℕ) : Type 0 where
  pub front : List ℕ
  pub whole : bytes ≡ front ++ rest
  pub appends : Appends first now front

pub wrote_none : (first : Option (List ℕ)) (bytes : List ℕ) → Wrote first first bytes bytes
wrote_none first bytes = record { front = []; whole = refl; appends = Appends-nil first }

pub wrote_more : (first mid now : Option (List ℕ)) (bytes rest : List ℕ) (count : ℕ) → Wrote first mid bytes rest → Appends mid now (take count rest)
    → Wrote first now bytes (take (length rest - count) (drop count rest))
wrote_more first mid now bytes rest count wrote more =
    let split : rest ≡ take count rest ++ take (length rest - count) (drop count rest) = sym (take-append-drop count rest) ∙ ap (λ (r : List ℕ). take count rest ++ r) (sym (take_rest rest count)) in
    record {
      front = wrote.front ++ take count rest;
      whole = wrote.whole ∙ ap (λ (r : List ℕ). wrote.front ++ r) split ∙ sym (append_assoc wrote.front (take count rest) (take (length rest - count) (drop count rest)));
      appends = Appends-trans first mid now wrote.front (take count rest) wrote.appends more;
    }

-- A fault leaves the front.
pub wrote_front : (first mid now : Option (List ℕ)) (bytes rest : List ℕ) → Wrote first mid bytes rest → Keeps mid now → AppendsFront first now bytes
wrote_front first mid now bytes rest wrote kept = record { front = wrote.front; tail = rest; whole = wrote.whole; appends = Appends-kept first mid now wrote.front wrote.appends kept }
