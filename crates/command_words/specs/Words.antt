-- The words of a run with an archive and of a dump, and the parts of words that other commands share.
use Rattle.std.specs.Prelude.{ℕ, ◌^◌, List, [], ◌∷◌, ◌++◌, length, Bool, Option, Some, None, ◌==◌, ◌&&◌, ◌||◌, not, nat_eq, nat_le, nat_lt, if◌then◌else◌, codes}
use Rattle.std.specs.Char.{is_ascii_alphanumeric, is_digit}
use Rattle.std.specs.List.{list_all, ends_with, slice_split, join_with_byte}
use Rattle.std.specs.Prelude.{true, false, is_none}
use Rattle.std.specs.Option.{option_and_then, option_map, option_or, unwrap_or}
use Rattle.std.specs.Str.{byte, bytes_eq}
use Rattle.std.specs.Str.Parse.{digits_value}
use Rattle.command_words.specs.declared.requests.TheConstants.{STEPS}
use Rattle.command_words.specs.declared.words.Sharing.{Sharing}
use Rattle.command_words.specs.declared.words.Sharing.TheVariants as sharings
use Rattle.jsa_base.specs.Reading.{◌>>=◌, when}

-- Whether a text ends in another.
abbrev pub ends_in : List ℕ → List ℕ → Bool
ends_in end bytes = ends_with nat_eq bytes end

abbrev pub has_no_colon : List ℕ → Bool
has_no_colon bytes = list_all (λ b. not (b == byte ":")) bytes

-- A folder of a class path: not empty, and neither the wildcard nor an archive.
abbrev pub is_piece : List ℕ → Bool
is_piece bytes = not (length bytes == 0) && not (bytes_eq bytes (codes "*")) && not (ends_in (codes ".jar") bytes) && not (ends_in (codes ".zip") bytes)

-- A class path of one folder: a colon would end it.
abbrev pub is_folder : List ℕ → Bool
is_folder bytes = is_piece bytes && has_no_colon bytes

-- The path of an archive or of a class list: not empty, with no colon, which would end it, and not that of a class file.
abbrev pub is_archive_path : List ℕ → Bool
is_archive_path bytes = not (length bytes == 0) && has_no_colon bytes && not (ends_in (codes ".class") bytes)

-- an ASCII letter or digit, _ or $
unfoldable pub is_word_byte : ℕ → Bool
is_word_byte b = is_ascii_alphanumeric b || b == byte "_" || b == byte "$"

-- one segment of a class's name
abbrev pub is_segment : List ℕ → Bool
is_segment bytes = not (length bytes == 0) && list_all is_word_byte bytes

-- the segments between the dots
abbrev pub segments_of : List ℕ → List (List ℕ)
segments_of word = slice_split (λ b. b == byte ".") word

-- The internal name of the main class. A dot in the word separates the segments that a slash separates in the
-- internal name (JVMS 4.2.1).
abbrev pub internal_name : List ℕ → Option (List ℕ)
internal_name word = if list_all is_segment (segments_of word) then Some (join_with_byte (byte "/") (segments_of word)) else None

-- 1 to so many digits of the radix, letters in both cases
abbrev pub is_numeral : ℕ → ℕ → List ℕ → Bool
is_numeral radix most digits = not (length digits == 0) && nat_le (length digits) most && list_all (λ c. is_digit c radix) digits

-- the number that they write, where it is below 2^64
abbrev pub numeral : ℕ → ℕ → List ℕ → Option ℕ
numeral radix most digits = if is_numeral radix most digits && nat_lt (digits_value radix digits) (2 ^ 64) then Some (digits_value radix digits) else None

-- what stands behind the front of a text, where the text begins with that
abbrev pub behind : List ℕ → List ℕ → Option (List ℕ)
behind [] text = Some text
behind (f ∷ front) [] = None
behind (f ∷ front) (b ∷ text) = if f == b then behind front text else None

-- A number: 1 to 16 hexadecimal digits behind 0x, or 1 to 20 decimal digits.
abbrev pub number_by : Option (List ℕ) → List ℕ → Option ℕ
number_by (Some digits) word = numeral 16 16 digits
number_by None word = numeral 10 20 word

abbrev pub number_of : List ℕ → Option ℕ
number_of word = number_by (behind (codes "0x") word) word

-- ---- options

-- The option --steps=N: a run makes at most N turns.
abbrev pub steps_option : List ℕ → Option ℕ
steps_option word = option_and_then number_of (behind (codes "--steps=") word)

abbrev pub archive_path : List ℕ → Option (List ℕ)
archive_path path = if is_archive_path path then Some path else None

-- The option -XX:SharedArchiveFile=A: the archive that a dump writes, or that a run may use.
abbrev pub archive_option : List ℕ → Option (List ℕ)
archive_option word = option_and_then archive_path (behind (codes "-XX:SharedArchiveFile=") word)

-- The option -XX:SharedClassListFile=F: the class list of a dump.
abbrev pub list_option : List ℕ → Option (List ℕ)
list_option word = option_and_then archive_path (behind (codes "-XX:SharedClassListFile=") word)

-- The option -Xshare of a run with an archive or of a dump: whether the archive may be used, is to be used, or is to be
-- dumped.
unfoldable pub sharing_option : List ℕ → Option Sharing
sharing_option word =
    if bytes_eq word (codes "-Xshare:auto") then Some sharings.Auto else
    if bytes_eq word (codes "-Xshare:on") then Some sharings.On else
    if bytes_eq word (codes "-Xshare:dump") then Some sharings.Dump else None

-- The option -cp, which takes a second word: the folder of the class files.
abbrev pub folder_option : List ℕ → List ℕ → Option (List ℕ)
folder_option word folder = if bytes_eq word (codes "-cp") && is_folder folder then Some folder else None

-- what the options so far ask for
pub record Taken : Type 0 where
  pub folder : Option (List ℕ)
  pub archive : Option (List ℕ)
  pub list : Option (List ℕ)
  pub steps : Option ℕ
  pub sharing : Option Sharing

abbrev pub nothing : Taken
nothing = record { folder = None; archive = None; list = None; steps = None; sharing = None }

-- what an option asks for, where it wasn't taken before
abbrev pub once : {A : Type 0} → Option A → Option A → Option A
once None given = given
once (Some before) given = None

abbrev pub with_folder : Taken → Option (List ℕ) → Option Taken
with_folder t folder = option_map (λ x. record { folder = Some x; archive = t.archive; list = t.list; steps = t.steps; sharing = t.sharing }) (once t.folder folder)

abbrev pub with_archive : Taken → Option (List ℕ) → Option Taken
with_archive t archive = option_map (λ x. record { folder = t.folder; archive = Some x; list = t.list; steps = t.steps; sharing = t.sharing }) (once t.archive archive)

abbrev pub with_list : Taken → Option (List ℕ) → Option Taken
with_list t list = option_map (λ x. record { folder = t.folder; archive = t.archive; list = Some x; steps = t.steps; sharing = t.sharing }) (once t.list list)

abbrev pub with_steps : Taken → Option ℕ → Option Taken
with_steps t steps = option_map (λ x. record { folder = t.folder; archive = t.archive; list = t.list; steps = Some x; sharing = t.sharing }) (once t.steps steps)

abbrev pub with_sharing : Taken → Option Sharing → Option Taken
with_sharing t sharing = option_map (λ x. record { folder = t.folder; archive = t.archive; list = t.list; steps = t.steps; sharing = Some x }) (once t.sharing sharing)

-- One word more, where it is an option that wasn't taken before. No word is two of the options.
unfoldable pub with_word : Taken → List ℕ → Option Taken
with_word t word =
    option_or (with_archive t (archive_option word))
    (option_or (with_list t (list_option word))
    (option_or (with_steps t (steps_option word))
    (with_sharing t (sharing_option word))))

-- Two words more, where they are an option that wasn't taken before.
unfoldable pub with_words : Taken → List ℕ → List ℕ → Option Taken
with_words t word second = with_folder t (folder_option word second)

-- The options at the front of the words, as far as they go: what they ask for, and the words behind them. A word that is
-- no option, is a faulty one or was taken before ends them.
unfoldable pub options_from : Taken → List (List ℕ) → Taken × List (List ℕ)
options_from t [] = (t, [])
options_from t (word ∷ []) = unwrap_or (option_map (λ next. (next, [])) (with_word t word)) (t, word ∷ [])
options_from t (word ∷ second ∷ words) =
    unwrap_or (option_or
    (option_map (λ next. options_from next words) (with_words t word second))
    (option_map (λ next. options_from next (second ∷ words)) (with_word t word)))
    (t, word ∷ second ∷ words)

-- ---- requests

-- What a run with an archive is asked for: the folder of the class files, whether the archive is to be used, the archive,
-- the limit of turns, and the internal name of the main class.
pub record RunRequest : Type 0 where
  pub folder : List ℕ
  pub on : Bool
  pub archive : List ℕ
  pub steps : ℕ
  pub name : List ℕ

-- What a dump is asked for: the folder of the class files, the archive to be written, and the class list.
pub record DumpRequest : Type 0 where
  pub folder : List ℕ
  pub archive : List ℕ
  pub list : List ℕ

-- What an assembly is asked for: the path of the text, and the folder that the class files go to.
pub record AsmRequest : Type 0 where
  pub text : List ℕ
  pub folder : List ℕ

-- whether a run with this option is asked to use its archive; a dump is no run
abbrev pub is_on : Option Sharing → Option Bool
is_on None = Some false
is_on (Some sharings.Auto) = Some false
is_on (Some sharings.On) = Some true
is_on (Some sharings.Dump) = None

abbrev pub is_dump : Option Sharing → Bool
is_dump None = false
is_dump (Some sharings.Auto) = false
is_dump (Some sharings.On) = false
is_dump (Some sharings.Dump) = true

-- The run of a main class with an archive: the folder and the archive are given, and no class list. Without an archive the
-- words are those of a run over a home.
unfoldable pub run_with : Taken → Option (List ℕ) → Option RunRequest
run_with t main = do
  folder ← t.folder
  on ← is_on t.sharing
  listless ← when (is_none t.list)
  archive ← t.archive
  name ← main
  Some (record { folder = folder; on = on; archive = archive; steps = unwrap_or t.steps STEPS; name = name })

-- The dump: the folder, the archive and the class list are given, and no limit.
unfoldable pub dump_with : Taken → Option DumpRequest
dump_with t = do
  dumps ← when (is_dump t.sharing)
  limitless ← when (is_none t.steps)
  folder ← t.folder
  archive ← t.archive
  list ← t.list
  Some (record { folder = folder; archive = archive; list = list })

-- the path of the class file
abbrev pub class_path : RunRequest → List ℕ
class_path r = r.folder ++ codes "/" ++ r.name ++ codes ".class"
