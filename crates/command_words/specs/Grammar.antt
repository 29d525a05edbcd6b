-- The grammar of the words: what each command's words are, and what they ask for.
use Rattle.std.specs.Prelude.{ℕ, ◌≤◌, ⊤, List, [], ◌∷◌, length, Option, Some, None, ◌==◌, ◌&&◌, not, if◌then◌else◌, codes}
use Rattle.std.specs.Option.{option_map, option_or}
use Rattle.std.specs.Str.{bytes_eq}
use Rattle.command_words.specs.Words.{Taken, nothing, options_from, internal_name, run_with, dump_with, RunRequest, DumpRequest, AsmRequest}
use Rattle.command_words.specs.declared.requests.TheConstants.{MAX_FOLDERS}
use Rattle.command_words.specs.HomeWords.{HomeRequest, home_run_request, make_home_request}

-- What words ask for: a run with an archive, a dump, an assembly, a run over a home, or the making of a home in
-- this folder.
pub data Request : Type 0 where
  Run : RunRequest → Request
  Dump : DumpRequest → Request
  Asm : AsmRequest → Request
  HomeRun : HomeRequest → Request
  MakeHome : List ℕ → Request

-- behind the options: a main class, or nothing for a dump
unfoldable pub request_with : Taken → List (List ℕ) → Option Request
request_with t [] = option_map Dump (dump_with t)
request_with t (main ∷ []) = option_map Run (run_with t (internal_name main))
request_with t (a ∷ b ∷ others) = None

-- The words of a run with an archive, or of a dump. A dump's are its four options; a run's are its options, in any
-- order, and then the main class.
unfoldable pub request_by_options : List (List ℕ) → Option Request
request_by_options words = request_with (options_from nothing words).0 (options_from nothing words).1

-- The three words of an assembly: --asm, the path of the text, and the folder, which isn't empty.
abbrev pub asm_of : List ℕ → List ℕ → List ℕ → Option AsmRequest
asm_of option text folder =
    if bytes_eq option (codes "--asm") && not (length folder == 0) then Some (record { text = text; folder = folder }) else None

unfoldable pub asm_request : List (List ℕ) → Option AsmRequest
asm_request [] = None
asm_request (a ∷ []) = None
asm_request (a ∷ b ∷ []) = None
asm_request (option ∷ text ∷ folder ∷ []) = asm_of option text folder
asm_request (a ∷ b ∷ c ∷ d ∷ others) = None

-- The grammar of the words. No words are those of two commands: --asm and --make-home are options of no other, a dump has
-- -Xshare:dump, and a run over a home names no archive or has -Xshare:off, and every other run names one and has it not.
unfoldable pub request_of : List (List ℕ) → Option Request
request_of words =
    option_or (option_map Asm (asm_request words))
    (option_or (option_map MakeHome (make_home_request words))
    (option_or (option_map HomeRun (home_run_request words))
    (request_by_options words)))

-- the run with an archive that is asked for, where it is one
abbrev pub run_of : Option Request → Option RunRequest
run_of None = None
run_of (Some (Run run)) = Some run
run_of (Some (Dump dump)) = None
run_of (Some (Asm asm)) = None
run_of (Some (HomeRun run)) = None
run_of (Some (MakeHome folder)) = None

-- A run over a home has so many application folders at most.
abbrev pub HasFewFolders : Request → Type 0
HasFewFolders (Run run) = ⊤
HasFewFolders (Dump dump) = ⊤
HasFewFolders (Asm asm) = ⊤
HasFewFolders (HomeRun run) = length run.folders ≤ MAX_FOLDERS
HasFewFolders (MakeHome folder) = ⊤
