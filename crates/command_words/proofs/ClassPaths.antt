-- The pieces of a class path that isn't empty.
use Rattle.std.proofs.Common.{◌≡◌, ℕ, List, [], ◌==◌, length, Bool, false, cond, ap}
use Rattle.std.specs.List.{slice_split}
use Rattle.command_words.specs.HomeWords.{pieces_of}

pub some_pieces : (path : List ℕ) → (length path == 0) ≡ false → pieces_of path ≡ slice_split (λ b. b == 58) path
some_pieces path h = ap (λ (b : Bool). cond b [] (slice_split (λ b. b == 58) path)) h
