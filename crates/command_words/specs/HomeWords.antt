-- The words of a run that takes its classes from files, and of the making of a home.
use Rattle.std.specs.Prelude.{ℕ, List, [], ◌∷◌, map, length, Bool, true, false, Option, Some, None, is_none, ◌==◌, ◌&&◌, ◌||◌, not, nat_le, if◌then◌else◌, codes}
use Rattle.std.specs.List.{list_all, slice_split}
use Rattle.std.specs.Option.{option_and_then, option_map, option_or, unwrap_or}
use Rattle.std.specs.Str.{byte, bytes_eq}
use Rattle.jsa_names.specs.Mutf8.{modified}
use Rattle.command_words.specs.declared.requests.TheConstants.{MAX_FOLDERS, STEPS}
use Rattle.command_words.specs.Words.{is_piece, behind, archive_path, archive_option, steps_option}

-- ---- class paths

-- what stands between the colons; an empty class path has no pieces
abbrev pub pieces_of : List ℕ → List (List ℕ)
pieces_of path = if length path == 0 then [] else slice_split (λ b. b == byte ":") path

-- The folders of a class path: so many at most.
abbrev pub folders_of : List ℕ → Option (List (List ℕ))
folders_of path = if list_all is_piece (pieces_of path) && nat_le (length (pieces_of path)) MAX_FOLDERS then Some (pieces_of path) else None

-- ---- options

-- The options -cp and -classpath, which take a second word: the class path.
abbrev pub path_option : List ℕ → List ℕ → Option (List (List ℕ))
path_option word path = if bytes_eq word (codes "-cp") || bytes_eq word (codes "-classpath") then folders_of path else None

abbrev pub folder_path : List ℕ → Option (List ℕ)
folder_path folder = if length folder == 0 then None else Some folder

-- The option --home=DIR: the home, which has the folders of the boot loader and the platform loader.
abbrev pub home_option : List ℕ → Option (List ℕ)
home_option word = option_and_then folder_path (behind (codes "--home=") word)

-- The option -XX:DumpLoadedClassList=F: the file that the names of the loaded classes are written to.
abbrev pub loaded_list_option : List ℕ → Option (List ℕ)
loaded_list_option word = option_and_then archive_path (behind (codes "-XX:DumpLoadedClassList=") word)

-- The options -Xshare:auto, -Xshare:on and -Xshare:off: whether no archive is used.
abbrev pub off_option : List ℕ → Option Bool
off_option word =
    if bytes_eq word (codes "-Xshare:off") then Some true else
    if bytes_eq word (codes "-Xshare:auto") || bytes_eq word (codes "-Xshare:on") then Some false else None

-- What the options so far ask for. An archive that is named is used unless the last -Xshare is off.
pub record HomeOptions : Type 0 where
  pub home : List ℕ
  pub folders : List (List ℕ)
  pub list : Option (List ℕ)
  pub steps : ℕ
  pub archive : Option (List ℕ)
  pub off : Bool

-- what is asked for where no option says it
abbrev pub defaults : HomeOptions
defaults = record { home = codes "jsa-home"; folders = codes "." ∷ []; list = None; steps = STEPS; archive = None; off = false }

abbrev pub with_home_dir : HomeOptions → List ℕ → HomeOptions
with_home_dir o home = record { home = home; folders = o.folders; list = o.list; steps = o.steps; archive = o.archive; off = o.off }

abbrev pub with_class_path : HomeOptions → List (List ℕ) → HomeOptions
with_class_path o folders = record { home = o.home; folders = folders; list = o.list; steps = o.steps; archive = o.archive; off = o.off }

abbrev pub with_loaded_list : HomeOptions → List ℕ → HomeOptions
with_loaded_list o list = record { home = o.home; folders = o.folders; list = Some list; steps = o.steps; archive = o.archive; off = o.off }

abbrev pub with_step_limit : HomeOptions → ℕ → HomeOptions
with_step_limit o steps = record { home = o.home; folders = o.folders; list = o.list; steps = steps; archive = o.archive; off = o.off }

abbrev pub with_named_archive : HomeOptions → List ℕ → HomeOptions
with_named_archive o archive = record { home = o.home; folders = o.folders; list = o.list; steps = o.steps; archive = Some archive; off = o.off }

abbrev pub with_off : HomeOptions → Bool → HomeOptions
with_off o off = record { home = o.home; folders = o.folders; list = o.list; steps = o.steps; archive = o.archive; off = off }

-- One word more, where it is an option: the last of repeated options counts. No word is two of the options.
unfoldable pub with_option : HomeOptions → List ℕ → Option HomeOptions
with_option o word =
    option_or (option_map (with_home_dir o) (home_option word))
    (option_or (option_map (with_loaded_list o) (loaded_list_option word))
    (option_or (option_map (with_step_limit o) (steps_option word))
    (option_or (option_map (with_named_archive o) (archive_option word))
    (option_map (with_off o) (off_option word)))))

-- Two words more, where they are an option.
unfoldable pub with_path_option : HomeOptions → List ℕ → List ℕ → Option HomeOptions
with_path_option o word second = option_map (with_class_path o) (path_option word second)

-- The options at the front of the words, as far as they go: what they ask for, and the words behind them. A word that is
-- no option, or a faulty one, ends them.
unfoldable pub home_options_from : HomeOptions → List (List ℕ) → HomeOptions × List (List ℕ)
home_options_from o [] = (o, [])
home_options_from o (word ∷ []) = unwrap_or (option_map (λ next. (next, [])) (with_option o word)) (o, word ∷ [])
home_options_from o (word ∷ second ∷ words) =
    unwrap_or (option_or
    (option_map (λ next. home_options_from next words) (with_path_option o word second))
    (option_map (λ next. home_options_from next (second ∷ words)) (with_option o word)))
    (o, word ∷ second ∷ words)

-- ---- requests

-- whether a word is written as an option
abbrev pub is_dashed : List ℕ → Bool
is_dashed [] = false
is_dashed (b ∷ bytes) = b == byte "-"

-- What a run over a home is asked for: the home, the application folders, the file for the names of the loaded classes, the
-- limit of turns, and the internal name of the main class.
pub record HomeRequest : Type 0 where
  pub home : List ℕ
  pub folders : List (List ℕ)
  pub list : Option (List ℕ)
  pub steps : ℕ
  pub name : List ℕ

abbrev pub slashed : List ℕ → List ℕ
slashed name = map (λ b. if b == byte "." then byte "/" else b) name

-- The internal name of the main class (JVMS 4.2.1), in modified UTF-8 (4.4.7): each dot in the word is read as a slash. No
-- main class is written as an option.
abbrev pub main_name : List ℕ → Option (List ℕ)
main_name word = if is_dashed word then None else Some (slashed (modified word))

-- whether the options name an archive that is used: the words of such a run are others
abbrev pub uses_archive : HomeOptions → Bool
uses_archive o = not (is_none o.archive) && not o.off

abbrev pub home_run_of : HomeOptions → List ℕ → HomeRequest
home_run_of o name = record { home = o.home; folders = o.folders; list = o.list; steps = o.steps; name = name }

-- behind the options: the main class
unfoldable pub home_run_with : HomeOptions → List (List ℕ) → Option HomeRequest
home_run_with o [] = None
home_run_with o (main ∷ []) = if uses_archive o then None else option_map (home_run_of o) (main_name main)
home_run_with o (a ∷ b ∷ others) = None

-- The words of a run over a home: options in any order, of which none names an archive that is used, and then the main
-- class.
unfoldable pub home_run_request : List (List ℕ) → Option HomeRequest
home_run_request words = home_run_with (home_options_from defaults words).0 (home_options_from defaults words).1

-- The two words of the making of a home: --make-home, and the folder, which isn't empty.
unfoldable pub make_home_request : List (List ℕ) → Option (List ℕ)
make_home_request [] = None
make_home_request (a ∷ []) = None
make_home_request (option ∷ folder ∷ []) = if bytes_eq option (codes "--make-home") then folder_path folder else None
make_home_request (a ∷ b ∷ c ∷ others) = None
