-- The name of a run with an archive is that of a word.
use Rattle.std.proofs.Common.{◌≡◌, ℕ, List, [], ◌∷◌, Bool, Option, Some, None, unwrap_or, is_none, ap}
use Rattle.std.specs.Option.{option_map}
use Rattle.jsa_base.specs.Reading.{◌>>=◌, when}
use Rattle.command_words.specs.declared.requests.TheConstants.{STEPS}
use Rattle.command_words.specs.Words.{internal_name, Taken, is_on, run_with, dump_with, options_from, nothing, RunRequest, DumpRequest}
use Rattle.command_words.specs.Grammar.{request_with, request_by_options, request_of, Run, Dump}
use Rattle.command_words.proofs.Options.{run_options}

map_dump : (o : Option DumpRequest) (r : RunRequest) → option_map Dump o ≡ Some (Run r) → ⊥
map_dump None r e = cc
map_dump (Some d) r e = cc

map_run : (o : Option RunRequest) (r : RunRequest) → option_map Run o ≡ Some (Run r) → o ≡ Some r
map_run None r e = absurd cc
map_run (Some x) r e = let same : x ≡ r = cc in ap (λ (y : RunRequest). Some y) same

name_of : Option RunRequest → Option (List ℕ)
name_of o = option_map (λ r. r.name) o

run_name : (t : Taken) (main : Option (List ℕ)) (r : RunRequest) → run_with t main ≡ Some r → main ≡ Some r.name
unfolding run_with name_of
run_name t main r e = parts t.folder (is_on t.sharing) (when (is_none t.list)) t.archive main (ap name_of e)
  where
    parts : (folder : Option (List ℕ)) (on : Option Bool) (listless : Option (Unit {0})) (archive main : Option (List ℕ))
        → name_of (folder >>= λ f. (on >>= λ o. (listless >>= λ l. (archive >>= λ a. (main >>= λ n. Some (record { folder = f; on = o; archive = a; steps = unwrap_or t.steps STEPS; name = n })))))) ≡ Some r.name → main ≡ Some r.name
    parts None on listless archive main h = absurd cc
    parts (Some f) None listless archive main h = absurd cc
    parts (Some f) (Some o) None archive main h = absurd cc
    parts (Some f) (Some o) (Some l) None main h = absurd cc
    parts (Some f) (Some o) (Some l) (Some a) None h = absurd cc
    parts (Some f) (Some o) (Some l) (Some a) (Some n) h = h

with_name : (t : Taken) (left : List (List ℕ)) (r : RunRequest) → request_with t left ≡ Some (Run r) → (word : List ℕ) × (internal_name word ≡ Some r.name)
unfolding request_with
with_name t [] r e = absurd (map_dump (dump_with t) r e)
with_name t (main ∷ []) r e = (main, run_name t (internal_name main) r (map_run (run_with t (internal_name main)) r e))
with_name t (a ∷ b ∷ others) r e = absurd cc

-- The name of a run is that of a word.
options_name : (words : List (List ℕ)) (r : RunRequest) → request_by_options words ≡ Some (Run r) → (word : List ℕ) × (internal_name word ≡ Some r.name)
unfolding request_by_options
options_name words r e = with_name (options_from nothing words).0 (options_from nothing words).1 r e

pub request_name : (words : List (List ℕ)) (r : RunRequest) → request_of words ≡ Some (Run r) → (word : List ℕ) × (internal_name word ≡ Some r.name)
request_name words r e = options_name words r (run_options words r e)
