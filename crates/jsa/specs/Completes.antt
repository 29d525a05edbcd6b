-- What is answered where nothing fails: each cause has its answer, unless memory runs out.
use Rattle.std.specs.Prelude.{◌≡◌, ◌≤◌, ◌⊎◌, ℕ, List, [], length, Bool, true, false, Option, Some, None, Err, ⊤}
use Rattle.std.specs.FinMap.{get}
use Rattle.jsa_base.specs.declared.quantity.Quantity.{Quantity}
use Rattle.jsa_base.specs.declared.quantity.Quantity.TheVariants.{FileSize, Names}
use Rattle.jsa_files.specs.declared.TheConstants.{MAX_FILE, MAX_NAMES}
use Rattle.jsa_files.specs.Store.{Contents, Store}
use Rattle.jsa_files.specs.Sinks.{GrowsBy}
use Rattle.archive_header.specs.declared.refuse.Refuse.{Refuse}
use Rattle.plain_classes.specs.Archives.{archive_text}
use Rattle.first_form.specs.Runs.{Run as ClassRun}
use Rattle.jsa.specs.declared.ended.Ended.{Ended}
use Rattle.jsa.specs.declared.ended.Ended.TheVariants.{Exit, Usage, BadText, NoBoot, NoMain, Missing, NotShared, Stopped, Unsupported, Limit, Memory}
use Rattle.command_words.specs.Words.{RunRequest, DumpRequest, AsmRequest, class_path}
use Rattle.command_words.specs.Grammar.{Request, Run, Dump, Asm, HomeRun, MakeHome}
use Rattle.jsa_files.specs.Told.{IsAt, Holds, contents_told}
use Rattle.jsa.specs.Runs.{HasRun, IsUnsupported, IsTooLarge}
use Rattle.class_record.specs.Calls.{passed}
use Rattle.class_asm.specs.Assembly.{assembled}
use Rattle.class_record.specs.Starting as starts
use Rattle.command_words.specs.HomeWords.{HomeRequest}
use Rattle.home_run.specs.Requests.{run_files, run_world, started}
use Rattle.home_run.specs.Answers as home
use Rattle.class_folder.specs.ClassFiles.{after_files}
use Rattle.boot_library.specs.Home.{IsHome, files_asked, boot_text}
use Rattle.jsa.specs.Archived as archived
use Rattle.jsa.specs.Dumps as dumps
use Rattle.jsa.specs.Assembles as asm
use Rattle.archive_dump.specs.declared.dump.TheConstants.{MAX_CLASSES, MAX_ARCHIVE}

-- A call that ends with want of memory in place of its answer.
abbrev pub IsOrMemory : Ended → Ended → Type 0
IsOrMemory result ended = (result ≡ ended) ⊎ (result ≡ Memory)

-- The answer of a run that has returned from main, or that hasn't.
abbrev pub EndsAs : Bool → Ended → Type 0
EndsAs true ended = ended ≡ Exit 0
EndsAs false ended = ended ≡ Stopped

-- for the bytes that a class is taken from
pub record FileCompletes (found : Option (List ℕ)) (steps : ℕ) (before after : Option (List ℕ)) (ended : Ended) : Type 0 where
  pub runs : (run : ClassRun) → HasRun found run → (EndsAs (run steps).returned ended × GrowsBy before after (run steps).out) ⊎ (ended ≡ Memory)
  pub missing : found ≡ None → IsOrMemory ended NoMain
  pub other : IsUnsupported found → IsOrMemory ended Unsupported
  pub large : IsTooLarge found → IsOrMemory ended (Limit FileSize MAX_FILE)

-- for a run that is given an archive
pub record ArchiveCompletes (contents : Option Contents) (r : RunRequest) (before after : Option (List ℕ)) (ended : Ended) : Type 0 where
  pub large : archived.ArchiveTooLarge contents r.archive → IsOrMemory ended (Limit FileSize MAX_FILE)
  pub listed : archived.ListedTooLarge contents r.folder r.archive → IsOrMemory ended (Limit FileSize MAX_FILE)
  pub many : archived.TooManyNames contents r.folder r.archive → IsOrMemory ended (Limit Names MAX_NAMES)
  pub refused : (o : archived.Opened contents r.folder r.archive) (refuse : Refuse) → archived.Refuses (archived.archive_bytes o.read.found) o.now refuse → r.on ≡ true → IsOrMemory ended (NotShared refuse)
  pub taken : (o : archived.Opened contents r.folder r.archive) (found : Option (List ℕ)) (paths : List (List ℕ)) → archived.TakesFrom contents r (archived.archive_bytes o.read.found) o.now found paths
      → FileCompletes found r.steps before after ended

-- for a dump
pub record DumpCompletes (old new : Option Contents) (d : DumpRequest) (ended : Ended) : Type 0 where
  pub missing : IsAt old d.list None → IsOrMemory ended Missing
  pub limit : (quantity : Quantity) (limit : ℕ) → dumps.PassesLimit old d (Limit quantity limit) → IsOrMemory ended (Limit quantity limit)
  pub other : (name : List ℕ) → dumps.IsUnsupportedName old d name → IsOrMemory ended Unsupported
  pub dumped : (g : dumps.Gathered old d) → length g.classes ≤ MAX_CLASSES → length (archive_text g.classes g.prepared.now) ≤ MAX_ARCHIVE
      → ((ended ≡ Exit 0) × Holds old new d.archive (archive_text g.classes g.prepared.now)) ⊎ (ended ≡ Memory)

-- for an assembly
pub record AsmCompletes (old new : Option Contents) (a : AsmRequest) (ended : Ended) : Type 0 where
  pub missing : IsAt old a.text None → IsOrMemory ended Missing
  pub large : asm.TextTooLarge old a → IsOrMemory ended (Limit FileSize MAX_FILE)
  pub bad : (line : ℕ) → asm.IsBadText old a line → IsOrMemory ended (BadText line)
  pub written : (x : asm.IsAssembled old a) → ((ended ≡ Exit 0) × (new ≡ after_files old (asm.files_asked x))) ⊎ (ended ≡ Memory)

-- The start of a run over a home ends so, and no limit is passed in its course.
pub record StartsBy (contents : Contents) (r : HomeRequest) (end : starts.StartEnd) : Type 0 where
  pub ends : (started contents r).end ≡ end
  pub within : passed (run_world contents r) [] (started contents r).events ≡ None

-- for a run over a home
pub record HomeRunCompletes (contents : Contents) (r : HomeRequest) (before after : Option (List ℕ)) (ended : Ended) : Type 0 where
  pub no_boot : (number : ℕ) → StartsBy contents r (starts.NoBoot number) → IsOrMemory ended NoBoot
  pub no_main : StartsBy contents r starts.NoMain → IsOrMemory ended NoMain
  pub other : StartsBy contents r starts.Ready → home.MainHasNoRun (run_files contents r) r.name → IsOrMemory ended Unsupported
  pub runs : StartsBy contents r starts.Ready → (run : ClassRun) → home.MainHasRun (run_files contents r) r.name run
      → (EndsAs (run r.steps).returned ended × GrowsBy before after (run r.steps).out) ⊎ (ended ≡ Memory)
  pub limit : (quantity : Quantity) (limit : ℕ) → passed (run_world contents r) [] (started contents r).events ≡ Some (quantity, limit) → IsOrMemory ended (Limit quantity limit)

-- for the making of a home
pub record MakeHomeCompletes (old new : Option Contents) (dir : List ℕ) (ended : Ended) : Type 0 where
  pub bad : (line : ℕ) → assembled boot_text ≡ Err line → IsOrMemory ended (BadText line)
  pub written : (x : IsHome dir boot_text) → ((ended ≡ Exit 0) × (new ≡ after_files old (files_asked x))) ⊎ (ended ≡ Memory)

-- for the words, where the store tells
abbrev pub RequestCompletes : Option Request → Option Store → Option Store → Option (List ℕ) → Option (List ℕ) → Ended → Type 0
RequestCompletes None old new before after ended = IsOrMemory ended Usage
RequestCompletes (Some request) None new before after ended = ⊤
RequestCompletes (Some (Run r)) (Some old) new before after ended = ArchiveCompletes (Some old.contents) r before after ended
RequestCompletes (Some (Dump d)) (Some old) new before after ended = DumpCompletes (Some old.contents) (contents_told new) d ended
RequestCompletes (Some (Asm a)) (Some old) new before after ended = AsmCompletes (Some old.contents) (contents_told new) a ended
RequestCompletes (Some (HomeRun r)) (Some old) new before after ended = HomeRunCompletes old.contents r before after ended
RequestCompletes (Some (MakeHome dir)) (Some old) new before after ended = MakeHomeCompletes (Some old.contents) (contents_told new) dir ended
