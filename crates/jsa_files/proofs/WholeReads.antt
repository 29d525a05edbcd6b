-- What the reads of a file have taken.
use Rattle.std.proofs.Common.{◌≡◌, ◌≤◌, ◌<◌, ◌+◌, ◌^◌, ℕ, List, [], ◌++◌, length, Option, arith, take, length-append, length-take}
use Rattle.std.proofs.KnownBytes.{Consumes-nil, Consumes-trans}
use Rattle.std.specs.Io.KnownBytes.{Consumes}
use Rattle.sha2.specs.declared.Sha256.{Sha256}
use Rattle.sha2.specs.Hashers.{Holds256}
use Rattle.jsa_files.specs.declared.TheConstants.{MAX_FILE}
use Rattle.jsa_files.specs.Disk.{counted_to}

-- Reads took these many bytes, and the count with those before is so much.
pub record HasSeen (first now : Option (List ℕ)) (before size : ℕ) : Type 0 where
  pub seen : List ℕ
  pub read : Consumes first now seen
  pub count : size ≡ counted_to (before + length seen)

pub seen_none : (first : Option (List ℕ)) (before : ℕ) → before < 2 ^ 64 → HasSeen first first before before
seen_none first before h = record { seen = []; read = Consumes-nil first; count = omega arith }

pub seen_more : (first mid now : Option (List ℕ)) (buffer : List ℕ) (before size count new : ℕ) → HasSeen first mid before size → Consumes mid now (take count buffer)
    → count ≤ length buffer → new ≡ counted_to (size + count) → HasSeen first now before new
seen_more first mid now buffer before size count new seen more fits grown =
    let all : length (seen.seen ++ take count buffer) ≡ length seen.seen + count = omega (arith, length-append seen.seen (take count buffer), length-take count buffer) in
    record { seen = seen.seen ++ take count buffer; read = Consumes-trans first mid now seen.seen (take count buffer) seen.read more; count = omega (arith, seen.count, all, grown) }

-- Reads took these bytes, and the hasher holds them.
pub record HasHashed (first now : Option (List ℕ)) (hasher : Sha256) (size : ℕ) : Type 0 where
  pub seen : List ℕ
  pub read : Consumes first now seen
  pub held : Holds256 hasher seen
  pub count : size ≡ length seen
  pub small : size ≤ MAX_FILE
