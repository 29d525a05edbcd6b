-- Where nothing fails, each cause has its answer.
use Rattle.std.proofs.Common.{◌≡◌, ◌≢◌, ◌⊎◌, inl, inr, ℕ, List, [], ◌∷◌, ◌++◌, true, false, Option, Some, None, refl, sym, ap, ◌∙◌, subst, arith, length, ◌≤◌, Bool}
use Rattle.std.specs.Prelude.{Result, Ok, Err}
use Rattle.std.specs.FinMap.{get}
use Rattle.jsa_base.specs.declared.quantity.Quantity.{Quantity}
use Rattle.jsa_base.specs.declared.quantity.Quantity.TheVariants.{FileSize, Names, Classes, ArchiveSize, Loaded}
use Rattle.jsa_base.proofs.Codecs.{some_is}
use Rattle.jsa_files.specs.declared.TheConstants.{MAX_FILE, MAX_NAMES}
use Rattle.jsa_files.specs.declared.fault.FilesFault.{FilesFault}
use Rattle.jsa_files.specs.declared.fault.FilesFault.TheVariants.{TooLarge, TooMany}
use Rattle.jsa_files.specs.Causes.{Rose}
use Rattle.jsa_files.specs.Store.{Contents, Store}
use Rattle.jsa_files.specs.Sinks.{GrowsBy}
use Rattle.jsa_names.specs.Paths as names
use Rattle.loader_rules.specs.Lists.{FolderLists}
use Rattle.archive_header.specs.declared.folders.Folders.{Folders}
use Rattle.archive_header.specs.declared.refuse.Refuse.{Refuse}
use Rattle.archive_header.specs.declared.refuse.Refuse.TheVariants as refusals
use Rattle.archive_header.specs.Manifests.{limit_met}
use Rattle.first_form.specs.Runs.{Run as ClassRun, FileHasRun, Runs}
use Rattle.first_form.proofs.ClassRuns.{one_is}
use Rattle.plain_classes.specs.declared.class.PlainClass.{PlainClass}
use Rattle.plain_classes.specs.Records.{class_in}
use Rattle.plain_classes.specs.Archives.{archive_text}
use Rattle.archive_mapper.specs.Mapping.{Maps, IsWant}
use Rattle.archive_mapper.proofs.Stages.{as_one}
use Rattle.jsa.specs.declared.ended.Ended.{Ended}
use Rattle.jsa.specs.declared.ended.Ended.TheVariants.{Exit, Usage, BadText, NoBoot, NoMain, Missing, NotShared, Stopped, Unsupported, ReadFault, WriteFault, Limit, Memory}
use Rattle.command_words.specs.Words.{RunRequest, DumpRequest, AsmRequest, class_path}
use Rattle.command_words.specs.Grammar.{Request, Run, Dump, Asm, HomeRun, MakeHome}
use Rattle.jsa.proofs.HomeCompletes as home
use Rattle.command_words.specs.ClassList.{listed_once}
use Rattle.jsa_files.specs.Told.{IsAt, Holds, contents_told, reads_told}
use Rattle.jsa.specs.Runs.{HasRun, IsUnsupported, IsTooLarge, FileAnswers}
use Rattle.jsa.specs.Archived as archived
use Rattle.jsa.specs.Archived.{MakesOf, archive_bytes, ReadsArchive, Opened, ListedTooLarge, TooManyNames, Refuses, InArchive, NotHeld, Dropped, TakesFrom, Taken, ArchiveAnswers}
use Rattle.jsa.specs.Assembles.{HasText, IsAssembled, IsBadText, TextTooLarge, AsmAnswers}
use Rattle.class_folder.specs.ClassFiles.{files_of, after_files}
use Rattle.class_asm.specs.Assembly.{assembled}
use Rattle.class_tree.specs.declared.tree.ClassTree.{ClassTree}
use Rattle.jsa.specs.Dumps as dumps
use Rattle.jsa.specs.Dumps.{Listed, Prepared, names_listed, IsInPath, IsInFolder, HasClass, HasClasses, HasNoClass, HasLarge, IsFirst, Gathered, Dumped, ListTooLarge, FolderTooLarge, FolderTooMany, TooManyClasses, PassesLimit, IsUnsupportedName, DumpAnswers}
use Rattle.jsa.specs.Command.{RequestAnswers, CountsReads, CountsWrites, CountsDump, CountsFor}
use Rattle.jsa.specs.Completes.{IsOrMemory, EndsAs, FileCompletes, ArchiveCompletes, DumpCompletes, AsmCompletes, RequestCompletes}
use Rattle.archive_dump.specs.declared.dump.TheConstants.{MAX_CLASSES, MAX_ARCHIVE}

-- ---- the file of a class

same_bytes : (found : Option (List ℕ)) (a b : List ℕ) → found ≡ Some a → found ≡ Some b → a ≡ b
same_bytes found a b p q = some_is a b (sym p ∙ q)

-- A file has one run.
same_run : (found : Option (List ℕ)) (p q : ClassRun) → HasRun found p → HasRun found q → p ≡ q
same_run found p q a b =
    let e : a.bytes ≡ b.bytes = same_bytes found a.bytes b.bytes a.at b.at in
    one_is b.bytes p q (subst (λ (x : List ℕ). FileHasRun x p) e a.of) b.of

-- The causes exclude each other.
none_some : {A : Type 0} (o : Option A) (x : A) → o ≡ None → o ≡ Some x → ⊥
none_some o x n s = cc

run_other : (found : Option (List ℕ)) (p : ClassRun) → HasRun found p → IsUnsupported found → ⊥
run_other found p a b =
    let e : a.bytes ≡ b.bytes = same_bytes found a.bytes b.bytes a.at b.at in
    b.other p (subst (λ (x : List ℕ). FileHasRun x p) e a.of)

small_large : (found : Option (List ℕ)) (bytes : List ℕ) → found ≡ Some bytes → length bytes ≤ MAX_FILE → IsTooLarge found → ⊥
small_large found bytes at small b =
    let e : bytes ≡ b.bytes = same_bytes found bytes b.bytes at b.at in
    omega (arith, ap length e, small, b.passes)

-- What was run is what is asked about.
runs_is : (found : Option (List ℕ)) (steps : ℕ) (returned : Bool) (before after : Option (List ℕ)) → Runs (HasRun found) steps returned before after → (run : ClassRun) → HasRun found run
    → ((run steps).returned ≡ returned) × GrowsBy before after (run steps).out
runs_is found steps returned before after r run of =
    let e : r.run ≡ run = same_run found r.run run r.of of in
    subst (λ (p : ClassRun). ((p steps).returned ≡ returned) × GrowsBy before after (p steps).out) e (r.returns, r.out)

ends_exit : (returned : Bool) (code : ℕ) → returned ≡ true → code ≡ 0 → EndsAs returned (Exit code)
ends_exit returned code e z = subst (λ (b : Bool). EndsAs b (Exit code)) (sym e) (ap Exit z)

ends_stopped : (returned : Bool) → returned ≡ false → EndsAs returned Stopped
ends_stopped returned e = subst (λ (b : Bool). EndsAs b Stopped) (sym e) refl

file_memory : (found : Option (List ℕ)) (steps : ℕ) (before after : Option (List ℕ)) → FileCompletes found steps before after Memory
file_memory found steps before after = record {
  runs = λ run of. inr refl;
  missing = λ n. inr refl;
  other = λ u. inr refl;
  large = λ l. inr refl;
}

file_completes : (found : Option (List ℕ)) (steps : ℕ) (before after : Option (List ℕ)) (ended : Ended) → FileAnswers found steps before after ended → ended ≢ ReadFault → ended ≢ WriteFault → FileCompletes found steps before after ended
file_completes found steps before after (Exit code) h r w = record {
  runs = λ run of. let x = runs_is found steps true before after h.1 run of in inl (ends_exit (run steps).returned code x.0 h.0, x.1);
  missing = λ n. absurd (none_some found h.1.of.bytes n h.1.of.at);
  other = λ u. absurd (run_other found h.1.run h.1.of u);
  large = λ l. absurd (small_large found h.1.of.bytes h.1.of.at h.1.of.small l);
}
file_completes found steps before after Stopped h r w = record {
  runs = λ run of. let x = runs_is found steps false before after h run of in inl (ends_stopped (run steps).returned x.0, x.1);
  missing = λ n. absurd (none_some found h.of.bytes n h.of.at);
  other = λ u. absurd (run_other found h.run h.of u);
  large = λ l. absurd (small_large found h.of.bytes h.of.at h.of.small l);
}
file_completes found steps before after NoBoot h r w = absurd h
file_completes found steps before after NoMain h r w = record {
  runs = λ run of. absurd (none_some found of.bytes h.0 of.at);
  missing = λ n. inl refl;
  other = λ u. absurd (none_some found u.bytes h.0 u.at);
  large = λ l. absurd (none_some found l.bytes h.0 l.at);
}
file_completes found steps before after Unsupported h r w = record {
  runs = λ run of. absurd (run_other found run of h.0);
  missing = λ n. absurd (none_some found h.0.bytes n h.0.at);
  other = λ u. inl refl;
  large = λ l. absurd (small_large found h.0.bytes h.0.at h.0.small l);
}
file_completes found steps before after (Limit FileSize limit) h r w = record {
  runs = λ run of. absurd (small_large found of.bytes of.at of.small h.1);
  missing = λ n. absurd (none_some found h.1.bytes n h.1.at);
  other = λ u. absurd (small_large found u.bytes u.at u.small h.1);
  large = λ l. inl (ap (Limit FileSize) h.0);
}
file_completes found steps before after (Limit Names limit) h r w = absurd h
file_completes found steps before after (Limit Classes limit) h r w = absurd h
file_completes found steps before after (Limit ArchiveSize limit) h r w = absurd h
file_completes found steps before after (Limit Loaded limit) h r w = absurd h
file_completes found steps before after Usage h r w = absurd h
file_completes found steps before after (BadText number) h r w = absurd h
file_completes found steps before after Missing h r w = absurd h
file_completes found steps before after (NotShared refuse) h r w = absurd h
file_completes found steps before after ReadFault h r w = absurd (r refl)
file_completes found steps before after WriteFault h r w = absurd (w refl)
file_completes found steps before after Memory h r w = file_memory found steps before after

-- ---- the archive's file and the folder's manifest

read_large : {contents : Contents} {archive : List ℕ} → ReadsArchive (Some contents) archive → archived.ArchiveTooLarge (Some contents) archive → ⊥
read_large read a =
    let e : read.found ≡ Some a.large.bytes = sym read.at ∙ a.at ∙ a.large.at in
    let len : length (archive_bytes read.found) ≡ length a.large.bytes = ap (λ (o : Option (List ℕ)). length (archive_bytes o)) e in
    omega (arith, len, read.small, a.large.passes)

large_many : (contents : Contents) (lists : FolderLists) (size count : ℕ) → limit_met contents lists ≡ Some (TooLarge size) → limit_met contents lists ≡ Some (TooMany count) → ⊥
large_many contents lists size count a b = cc

made_limit : (contents : Contents) (lists : FolderLists) (now : Folders) (fault : FilesFault) → MakesOf (Some contents) lists (Ok now) → limit_met contents lists ≡ Some fault → ⊥
made_limit contents lists now fault made limit = none_some (limit_met contents lists) fault made.0 limit

made_once : (contents : Contents) (lists : FolderLists) (a b : Folders) → MakesOf (Some contents) lists (Ok a) → MakesOf (Some contents) lists (Ok b) → a ≡ b
made_once contents lists a b m n = m.1 ∙ sym n.1

-- What holds of the archive's bytes and the manifest, holds of them wherever they are had again.
moved : (contents : Contents) (folder archive : List ℕ) (P : List ℕ → Folders → Type 0) (o p : Opened (Some contents) folder archive) → P (archive_bytes o.read.found) o.now → P (archive_bytes p.read.found) p.now
moved contents folder archive P o p h =
    let found : o.read.found ≡ p.read.found = sym o.read.at ∙ p.read.at in
    let now : o.now ≡ p.now = made_once contents (archived.lists_of folder) o.now p.now o.made p.made in
    subst (λ (f : Option (List ℕ)). P (archive_bytes f) p.now) found (subst (λ (n : Folders). P (archive_bytes o.read.found) n) now h)

-- ---- mapping the archive

mapped_want : (classes : List PlainClass) → IsWant (Ok classes) → ⊥
mapped_want classes e = cc

refused_want : (refuse : Refuse) → refuse ≢ refusals.Memory → IsWant (Err refuse) → ⊥
refused_want refuse known e = known cc

mapped_is : (a b : List PlainClass) → ◌≡◌ {A = Result (List PlainClass) Refuse} (Ok a) (Ok b) → a ≡ b
mapped_is a b e = cc

refused_is : (a b : Refuse) → ◌≡◌ {A = Result (List PlainClass) Refuse} (Err a) (Err b) → a ≡ b
refused_is a b e = cc

mapped_once : (bytes : List ℕ) (now : Folders) (a b : List PlainClass) → Maps bytes (Some now) (Ok a) → Maps bytes (Some now) (Ok b) → a ≡ b
mapped_once bytes now a b m n = mapped_is a b (as_one bytes (Some now) (Ok a) (Ok b) m n (mapped_want a) (mapped_want b))

refused_once : (bytes : List ℕ) (now : Folders) (a b : Refuse) → Refuses bytes now a → Refuses bytes now b → a ≡ b
refused_once bytes now a b m n = refused_is a b (as_one bytes (Some now) (Err a) (Err b) m.why n.why (refused_want a m.known) (refused_want b n.known))

refused_mapped : (bytes : List ℕ) (now : Folders) (refuse : Refuse) (classes : List PlainClass) → Refuses bytes now refuse → Maps bytes (Some now) (Ok classes) → ⊥
refused_mapped bytes now refuse classes m n =
    let e : ◌≡◌ {A = Result (List PlainClass) Refuse} (Err refuse) (Ok classes) = as_one bytes (Some now) (Err refuse) (Ok classes) m.why n (refused_want refuse m.known) (mapped_want classes) in
    cc

-- ---- where the class is taken from

held_or_not : (bytes : List ℕ) (now : Folders) (name held : List ℕ) (on : Bool) → InArchive bytes now name held → NotHeld bytes now name ⊎ Dropped bytes now on → ⊥
held_or_not bytes now name held on a (inl n) =
    none_some (class_in a.classes name) held (ap (λ (l : List PlainClass). class_in l name) (mapped_once bytes now a.classes n.classes a.mapped n.mapped) ∙ n.other) a.held
held_or_not bytes now name held on a (inr d) = refused_mapped bytes now d.refuse a.classes d.refused a.mapped

taken_once : (contents : Contents) (r : RunRequest) (bytes : List ℕ) (now : Folders) (f g : Option (List ℕ)) (ps qs : List (List ℕ)) → TakesFrom (Some contents) r bytes now f ps → TakesFrom (Some contents) r bytes now g qs → f ≡ g
taken_once contents r bytes now f g ps qs (inl (held, a, e, p)) (inl (other, b, e', p')) =
    e ∙ sym a.held ∙ ap (λ (l : List PlainClass). class_in l r.name) (mapped_once bytes now a.classes b.classes a.mapped b.mapped) ∙ b.held ∙ sym e'
taken_once contents r bytes now f g ps qs (inl (held, a, e, p)) (inr (why, at, p')) = absurd (held_or_not bytes now r.name held r.on a why)
taken_once contents r bytes now f g ps qs (inr (why, at, p)) (inl (held, b, e, p')) = absurd (held_or_not bytes now r.name held r.on b why)
taken_once contents r bytes now f g ps qs (inr (why, at, p)) (inr (why', at', p')) = sym at ∙ at'

refused_taken : (contents : Contents) (r : RunRequest) (bytes : List ℕ) (now : Folders) (refuse : Refuse) (found : Option (List ℕ)) (paths : List (List ℕ)) → Refuses bytes now refuse → r.on ≡ true → TakesFrom (Some contents) r bytes now found paths → ⊥
refused_taken contents r bytes now refuse found paths a on (inl (held, b, e, p)) = refused_mapped bytes now refuse b.classes a b.mapped
refused_taken contents r bytes now refuse found paths a on (inr (inl n, at, p)) = refused_mapped bytes now refuse n.classes a n.mapped
refused_taken contents r bytes now refuse found paths a on (inr (inr d, at, p)) = let auto = d.auto in cc

-- ---- a run that is given an archive

by_large : {contents : Contents} (r : RunRequest) (before after : Option (List ℕ)) (ended : Ended) → archived.ArchiveTooLarge (Some contents) r.archive → ended ≡ Limit FileSize MAX_FILE → ArchiveCompletes (Some contents) r before after ended
by_large r before after ended a e = record {
  large = λ b. inl e;
  listed = λ l. inl e;
  many = λ m. absurd (read_large m.read a);
  refused = λ o refuse why on. absurd (read_large o.read a);
  taken = λ o found paths from. absurd (read_large o.read a);
}

by_listed : (contents : Contents) (r : RunRequest) (before after : Option (List ℕ)) (ended : Ended) → ListedTooLarge (Some contents) r.folder r.archive → ended ≡ Limit FileSize MAX_FILE → ArchiveCompletes (Some contents) r before after ended
by_listed contents r before after ended l e = record {
  large = λ b. inl e;
  listed = λ k. inl e;
  many = λ m. absurd (large_many contents lists l.size m.count l.made m.made);
  refused = λ o refuse why on. absurd (made_limit contents lists o.now (TooLarge l.size) o.made l.made);
  taken = λ o found paths from. absurd (made_limit contents lists o.now (TooLarge l.size) o.made l.made);
} where
  lists : FolderLists
  lists = archived.lists_of r.folder

by_many : (contents : Contents) (r : RunRequest) (before after : Option (List ℕ)) (ended : Ended) → TooManyNames (Some contents) r.folder r.archive → ended ≡ Limit Names MAX_NAMES → ArchiveCompletes (Some contents) r before after ended
by_many contents r before after ended m e = record {
  large = λ b. absurd (read_large m.read b);
  listed = λ l. absurd (large_many contents lists l.size m.count l.made m.made);
  many = λ n. inl e;
  refused = λ o refuse why on. absurd (made_limit contents lists o.now (TooMany m.count) o.made m.made);
  taken = λ o found paths from. absurd (made_limit contents lists o.now (TooMany m.count) o.made m.made);
} where
  lists : FolderLists
  lists = archived.lists_of r.folder

by_refused : (contents : Contents) (r : RunRequest) (before after : Option (List ℕ)) (o : Opened (Some contents) r.folder r.archive) (refuse : Refuse) → Refuses (archive_bytes o.read.found) o.now refuse → r.on ≡ true
    → ArchiveCompletes (Some contents) r before after (NotShared refuse)
by_refused contents r before after o refuse a on = record {
  large = λ b. absurd (read_large o.read b);
  listed = λ l. absurd (made_limit contents (archived.lists_of r.folder) o.now (TooLarge l.size) o.made l.made);
  many = λ m. absurd (made_limit contents (archived.lists_of r.folder) o.now (TooMany m.count) o.made m.made);
  refused = λ p other b yes. inl (ap NotShared (refused_once (archive_bytes p.read.found) p.now refuse other (again p) b));
  taken = λ p found paths from. absurd (refused_taken contents r (archive_bytes p.read.found) p.now refuse found paths (again p) on from);
} where
  again : (p : Opened (Some contents) r.folder r.archive) → Refuses (archive_bytes p.read.found) p.now refuse
  again p = moved contents r.folder r.archive (λ (bytes : List ℕ) (now : Folders). Refuses bytes now refuse) o p a

by_taken : (contents : Contents) (r : RunRequest) (before after : Option (List ℕ)) (ended : Ended) (o : Opened (Some contents) r.folder r.archive) (found : Option (List ℕ)) (paths : List (List ℕ))
    → TakesFrom (Some contents) r (archive_bytes o.read.found) o.now found paths → FileCompletes found r.steps before after ended → ArchiveCompletes (Some contents) r before after ended
by_taken contents r before after ended o found paths from file = record {
  large = λ b. absurd (read_large o.read b);
  listed = λ l. absurd (made_limit contents (archived.lists_of r.folder) o.now (TooLarge l.size) o.made l.made);
  many = λ m. absurd (made_limit contents (archived.lists_of r.folder) o.now (TooMany m.count) o.made m.made);
  refused = λ p refuse b on. absurd (refused_taken contents r (archive_bytes p.read.found) p.now refuse found paths b on (again p));
  taken = λ p other others also. subst (λ (f : Option (List ℕ)). FileCompletes f r.steps before after ended) (taken_once contents r (archive_bytes p.read.found) p.now found other paths others (again p) also) file;
} where
  again : (p : Opened (Some contents) r.folder r.archive) → TakesFrom (Some contents) r (archive_bytes p.read.found) p.now found paths
  again p = moved contents r.folder r.archive (λ (bytes : List ℕ) (now : Folders). TakesFrom (Some contents) r bytes now found paths) o p from

archive_completes : (contents : Contents) (old new : Option (List (List ℕ))) (r : RunRequest) (before after : Option (List ℕ)) (ended : Ended) → ArchiveAnswers (Some contents) old new r before after ended → ended ≢ ReadFault → ended ≢ WriteFault
    → ArchiveCompletes (Some contents) r before after ended
archive_completes contents old new r before after ended h rf wf = by_end ended h rf wf
  where
    took : (ended : Ended) (o : Opened (Some contents) r.folder r.archive) → ended ≢ ReadFault → ended ≢ WriteFault → Taken (Some contents) old new (archived.archive_reads r.archive o.read.found) r (archive_bytes o.read.found) o.now before after ended
        → ArchiveCompletes (Some contents) r before after ended
    took ended o rf wf t = by_taken contents r before after ended o t.found t.paths t.from (file_completes t.found r.steps before after ended t.answer rf wf)

    by_end : (ended : Ended) → ArchiveAnswers (Some contents) old new r before after ended → ended ≢ ReadFault → ended ≢ WriteFault → ArchiveCompletes (Some contents) r before after ended
    by_end (Limit FileSize limit) (inl ((z, inl a), out)) rf wf = by_large r before after (Limit FileSize limit) a.0 (ap (Limit FileSize) z)
    by_end (Limit FileSize limit) (inl ((z, inr l), out)) rf wf = by_listed contents r before after (Limit FileSize limit) l.0 (ap (Limit FileSize) z)
    by_end (Limit FileSize limit) (inr (o, t)) rf wf = took (Limit FileSize limit) o rf wf t
    by_end (Limit Names limit) (inl ((z, m, reads), out)) rf wf = by_many contents r before after (Limit Names limit) m (ap (Limit Names) z)
    by_end (Limit Names limit) (inr (o, t)) rf wf = took (Limit Names limit) o rf wf t
    by_end (Limit Classes limit) (inl h) rf wf = absurd h.0
    by_end (Limit Classes limit) (inr (o, t)) rf wf = took (Limit Classes limit) o rf wf t
    by_end (Limit ArchiveSize limit) (inl h) rf wf = absurd h.0
    by_end (Limit ArchiveSize limit) (inr (o, t)) rf wf = took (Limit ArchiveSize limit) o rf wf t
    by_end (Limit Loaded limit) (inl h) rf wf = absurd h.0
    by_end (Limit Loaded limit) (inr (o, t)) rf wf = took (Limit Loaded limit) o rf wf t
    by_end (Exit code) (inl h) rf wf = absurd h.0
    by_end (Exit code) (inr (o, t)) rf wf = took (Exit code) o rf wf t
    by_end Stopped (inl h) rf wf = absurd h.0
    by_end Stopped (inr (o, t)) rf wf = took Stopped o rf wf t
    by_end NoBoot (inl h) rf wf = absurd h.0
    by_end NoMain (inl h) rf wf = absurd h.0
    by_end NoBoot (inr (o, t)) rf wf = absurd t
    by_end NoMain (inr (o, t)) rf wf = took NoMain o rf wf t
    by_end Unsupported (inl h) rf wf = absurd h.0
    by_end Unsupported (inr (o, t)) rf wf = took Unsupported o rf wf t
    by_end (NotShared refuse) (inl h) rf wf = absurd h.0
    by_end (NotShared refuse) (inr (o, h)) rf wf = by_refused contents r before after o refuse h.0.refused h.0.on
    by_end Usage (inl h) rf wf = absurd h.0
    by_end (BadText number) (inl h) rf wf = absurd h.0
    by_end Usage (inr (o, h)) rf wf = absurd h
    by_end (BadText number) (inr (o, h)) rf wf = absurd h
    by_end Missing (inl h) rf wf = absurd h.0
    by_end Missing (inr (o, h)) rf wf = absurd h
    by_end ReadFault h rf wf = absurd (rf refl)
    by_end WriteFault h rf wf = absurd (wf refl)
    by_end Memory h rf wf = record {
      large = λ b. inr refl;
      listed = λ l. inr refl;
      many = λ m. inr refl;
      refused = λ o refuse why on. inr refl;
      taken = λ o found paths from. file_memory found r.steps before after;
    }

-- ---- the class of a name

path_once : (contents : Contents) (path : Option (List ℕ)) (f g : Option (List ℕ)) → IsInPath (Some contents) path f → IsInPath (Some contents) path g → f ≡ g
path_once contents None f g a b = a ∙ sym b
path_once contents (Some path) f g a b = sym a ∙ b

folder_once : (contents : Contents) (folder name : List ℕ) (f g : Option (List ℕ)) → IsInFolder (Some contents) folder name f → IsInFolder (Some contents) folder name g → f ≡ g
folder_once contents folder name f g a b = path_once contents (names.path_of folder name) f g a b

class_once : (contents : Contents) (folder name : List ℕ) (a b : PlainClass) → HasClass (Some contents) folder name a → HasClass (Some contents) folder name b → a ≡ b
class_once contents folder name a b h k =
    let name_is : a.name ≡ b.name = h.named ∙ sym k.named in
    let bytes_is : a.bytes ≡ b.bytes = some_is a.bytes b.bytes (folder_once contents folder name (Some a.bytes) (Some b.bytes) h.at k.at) in
    subst (λ (n : List ℕ). a ≡ record { name = n; bytes = b.bytes }) name_is (subst (λ (l : List ℕ). a ≡ record { name = a.name; bytes = l }) bytes_is refl)

class_large : (contents : Contents) (folder name : List ℕ) (class : PlainClass) → HasClass (Some contents) folder name class → HasLarge (Some contents) folder name → ⊥
class_large contents folder name class h l = small_large l.found class.bytes (folder_once contents folder name l.found (Some class.bytes) l.at h.at) h.small l.large

class_other : (contents : Contents) (folder name : List ℕ) (class : PlainClass) → HasClass (Some contents) folder name class → HasNoClass (Some contents) folder name → ⊥
class_other contents folder name class h o = (o.other class.bytes (folder_once contents folder name o.found (Some class.bytes) o.at h.at)).1 h.form

large_other : (contents : Contents) (folder name : List ℕ) → HasLarge (Some contents) folder name → HasNoClass (Some contents) folder name → ⊥
large_other contents folder name l o =
    small_large l.found l.large.bytes l.large.at (o.other l.large.bytes (folder_once contents folder name o.found l.found o.at l.at ∙ l.large.at)).0 l.large

-- ---- the classes of the names

classes_once : (contents : Contents) (folder : List ℕ) (names : List (List ℕ)) (a b : List PlainClass) → HasClasses (Some contents) folder names a → HasClasses (Some contents) folder names b → a ≡ b
classes_once contents folder [] [] [] h k = refl
classes_once contents folder [] (c ∷ a) b h k = absurd h
classes_once contents folder [] [] (d ∷ b) h k = absurd k
classes_once contents folder (n ∷ names) [] b h k = absurd h
classes_once contents folder (n ∷ names) (c ∷ a) [] h k = absurd k
classes_once contents folder (n ∷ names) (c ∷ a) (d ∷ b) h k =
    ap (λ (x : PlainClass). x ∷ a) (class_once contents folder n c d h.0 k.0) ∙ ap (λ (l : List PlainClass). d ∷ l) (classes_once contents folder names a b h.1 k.1)

-- The first name has a class, and the others have theirs.
record HasFirst (contents : Contents) (folder name : List ℕ) (names : List (List ℕ)) : Type 0 where
  class : PlainClass
  has : HasClass (Some contents) folder name class
  classes : List PlainClass
  others : HasClasses (Some contents) folder names classes

has_first : (contents : Contents) (folder name : List ℕ) (names : List (List ℕ)) (classes : List PlainClass) → HasClasses (Some contents) folder (name ∷ names) classes → HasFirst contents folder name names
has_first contents folder name names [] h = absurd h
has_first contents folder name names (c ∷ classes) h = record { class = c; has = h.0; classes = classes; others = h.1 }

has_among : (contents : Contents) (folder : List ℕ) (front : List (List ℕ)) (name : List ℕ) (rest : List (List ℕ)) (classes : List PlainClass) → HasClasses (Some contents) folder (front ++ name ∷ rest) classes → HasFirst contents folder name rest
has_among contents folder [] name rest classes h = has_first contents folder name rest classes h
has_among contents folder (n ∷ front) name rest classes h = let t = has_first contents folder n (front ++ name ∷ rest) classes h in has_among contents folder front name rest t.classes t.others

head_is : (n m : List ℕ) (xs ys : List (List ℕ)) → n ∷ xs ≡ m ∷ ys → n ≡ m
head_is n m xs ys e = cc

tail_is : (n m : List ℕ) (xs ys : List (List ℕ)) → n ∷ xs ≡ m ∷ ys → xs ≡ ys
tail_is n m xs ys e = cc

-- Of a name whose file is too large and one that has no class, one at most is the first.
apart : (contents : Contents) (folder n m : List ℕ) (xs : List (List ℕ)) (rest : List (List ℕ)) (ys : List (List ℕ)) (rest' : List (List ℕ)) (ks ls : List PlainClass) → xs ++ n ∷ rest ≡ ys ++ m ∷ rest' → HasClasses (Some contents) folder xs ks → HasClasses (Some contents) folder ys ls
    → HasLarge (Some contents) folder n → HasNoClass (Some contents) folder m → ⊥
apart contents folder n m [] rest [] rest' ks ls e h k l o = large_other contents folder m (subst (HasLarge (Some contents) folder) (head_is n m rest rest' e) l) o
apart contents folder n m [] rest (y ∷ ys) rest' ks ls e h k l o =
    let t = has_first contents folder y ys ls k in class_large contents folder y t.class t.has (subst (HasLarge (Some contents) folder) (head_is n y rest (ys ++ m ∷ rest') e) l)
apart contents folder n m (x ∷ xs) rest [] rest' ks ls e h k l o =
    let t = has_first contents folder x xs ks h in class_other contents folder x t.class t.has (subst (HasNoClass (Some contents) folder) (sym (head_is x m (xs ++ n ∷ rest) rest' e)) o)
apart contents folder n m (x ∷ xs) rest (y ∷ ys) rest' ks ls e h k l o =
    let t = has_first contents folder x xs ks h in
    let u = has_first contents folder y ys ls k in
    apart contents folder n m xs rest ys rest' t.classes u.classes (tail_is x y (xs ++ n ∷ rest) (ys ++ m ∷ rest') e) t.others u.others l o

-- ---- what a dump knows

same_list : {contents : Contents} {d : DumpRequest} (a b : Listed (Some contents) d) → a.bytes ≡ b.bytes
same_list a b = some_is a.bytes b.bytes (sym a.at ∙ b.at)

same_names : {contents : Contents} {d : DumpRequest} (a b : Prepared (Some contents) d) → names_listed a ≡ names_listed b
same_names a b = ap listed_once (same_list a.list b.list)

same_classes : (contents : Contents) (d : DumpRequest) (a b : Gathered (Some contents) d) → a.classes ≡ b.classes
same_classes contents d a b =
    classes_once contents d.folder (names_listed b.prepared) a.classes b.classes (subst (λ (l : List (List ℕ)). HasClasses (Some contents) d.folder l a.classes) (same_names a.prepared b.prepared) a.each) b.each

same_text : (contents : Contents) (d : DumpRequest) (a b : Gathered (Some contents) d) → archive_text a.classes a.prepared.now ≡ archive_text b.classes b.prepared.now
same_text contents d a b =
    ap (λ (l : List PlainClass). archive_text l a.prepared.now) (same_classes contents d a b)
    ∙ ap (archive_text b.classes) (made_once contents (archived.lists_of d.folder) a.prepared.now b.prepared.now a.prepared.made b.prepared.made)

-- ---- the ends of a dump exclude each other

abbrev Single : (Ended → Type 0) → Type 0
Single P = (e f : Ended) → P e → P f → e ≡ f

-- the end that a cause has
abbrev EndsBy : Ended → Type 0 → Ended → Type 0
EndsBy answer Cause ended = (ended ≡ answer) × Cause

one_cause : (answer : Ended) (Cause : Type 0) → Single (EndsBy answer Cause)
one_cause answer Cause e f p q = p.0 ∙ sym q.0

one_of : (A B : Ended → Type 0) → Single A → Single B → ((e f : Ended) → A e → B f → ⊥) → Single (λ e. A e ⊎ B e)
one_of A B a b x e f (inl p) (inl q) = a e f p q
one_of A B a b x e f (inl p) (inr q) = absurd (x e f p q)
one_of A B a b x e f (inr p) (inl q) = absurd (x f e q p)
one_of A B a b x e f (inr p) (inr q) = b e f p q

-- The first name that something is said of.
record Stops (contents : Contents) (d : DumpRequest) (Said : List ℕ → Type 0) : Type 0 where
  ready : Prepared (Some contents) d
  name : List ℕ
  first : IsFirst (Some contents) d.folder (names_listed ready) Said name

abbrev StopsLarge : Contents → DumpRequest → Type 0
StopsLarge contents d = Stops contents d (HasLarge (Some contents) d.folder)

abbrev StopsOther : Contents → DumpRequest → Type 0
StopsOther contents d = Stops contents d (HasNoClass (Some contents) d.folder)

-- Each name has its class, and they and the bytes of their archive are few enough.
record Fits (contents : Contents) (d : DumpRequest) : Type 0 where
  gathered : Gathered (Some contents) d
  few : length gathered.classes ≤ MAX_CLASSES
  small : length (archive_text gathered.classes gathered.prepared.now) ≤ MAX_ARCHIVE

fits : {contents : Contents} {d : DumpRequest} → Dumped (Some contents) d → Fits contents d
fits x = record { gathered = x.gathered; few = x.few; small = subst (λ (a : List ℕ). length a ≤ MAX_ARCHIVE) x.is.written x.small }

-- the ends at the list, at the manifest, at the names, at the archive
abbrev AtList : Contents → DumpRequest → Ended → Type 0
AtList contents d ended = EndsBy Missing (IsAt (Some contents) d.list None) ended ⊎ EndsBy (Limit FileSize MAX_FILE) (ListTooLarge (Some contents) d) ended

abbrev AtFolder : Contents → DumpRequest → Ended → Type 0
AtFolder contents d ended = EndsBy (Limit FileSize MAX_FILE) (FolderTooLarge (Some contents) d) ended ⊎ EndsBy (Limit Names MAX_NAMES) (FolderTooMany (Some contents) d) ended

abbrev AtNames : Contents → DumpRequest → Ended → Type 0
AtNames contents d ended = EndsBy (Limit FileSize MAX_FILE) (StopsLarge contents d) ended ⊎ EndsBy Unsupported (StopsOther contents d) ended

abbrev IsWritten : Contents → DumpRequest → Ended → Type 0
IsWritten contents d ended = EndsBy (Limit ArchiveSize MAX_ARCHIVE) (dumps.ArchiveTooLarge (Some contents) d) ended ⊎ EndsBy (Exit 0) (Fits contents d) ended

abbrev AtArchive : Contents → DumpRequest → Ended → Type 0
AtArchive contents d ended = EndsBy (Limit Classes MAX_CLASSES) (TooManyClasses (Some contents) d) ended ⊎ IsWritten contents d ended

abbrev WithManifest : Contents → DumpRequest → Ended → Type 0
WithManifest contents d ended = AtNames contents d ended ⊎ AtArchive contents d ended

abbrev WithList : Contents → DumpRequest → Ended → Type 0
WithList contents d ended = AtFolder contents d ended ⊎ WithManifest contents d ended

abbrev DumpEnds : Contents → DumpRequest → Ended → Type 0
DumpEnds contents d ended = AtList contents d ended ⊎ WithList contents d ended

-- what each end knows
gathered : (contents : Contents) (d : DumpRequest) (ended : Ended) → AtArchive contents d ended → Gathered (Some contents) d
gathered contents d ended (inl a) = a.1.gathered
gathered contents d ended (inr (inl a)) = a.1.gathered
gathered contents d ended (inr (inr a)) = a.1.gathered

prepared : (contents : Contents) (d : DumpRequest) (ended : Ended) → WithManifest contents d ended → Prepared (Some contents) d
prepared contents d ended (inl (inl a)) = a.1.ready
prepared contents d ended (inl (inr a)) = a.1.ready
prepared contents d ended (inr a) = (gathered contents d ended a).prepared

list_read : (contents : Contents) (d : DumpRequest) (ended : Ended) → WithList contents d ended → Listed (Some contents) d
list_read contents d ended (inl (inl a)) = a.1.list
list_read contents d ended (inl (inr a)) = a.1.list
list_read contents d ended (inr a) = (prepared contents d ended a).list

-- what it excludes
not_at_list : (contents : Contents) (d : DumpRequest) (e : Ended) → AtList contents d e → Listed (Some contents) d → ⊥
not_at_list contents d e (inl a) b = none_some (get contents d.list) b.bytes a.1 b.at
not_at_list contents d e (inr (is, (found, at, large))) b = small_large found b.bytes (sym at ∙ b.at) b.small large

not_at_folder : (contents : Contents) (d : DumpRequest) (e : Ended) → AtFolder contents d e → Prepared (Some contents) d → ⊥
not_at_folder contents d e (inl a) b = made_limit contents (archived.lists_of d.folder) b.now (TooLarge a.1.size) b.made a.1.made
not_at_folder contents d e (inr a) b = made_limit contents (archived.lists_of d.folder) b.now (TooMany a.1.count) b.made a.1.made

no_stop : (contents : Contents) (d : DumpRequest) (Said : List ℕ → Type 0) → ((name : List ℕ) (class : PlainClass) → HasClass (Some contents) d.folder name class → Said name → ⊥) → Stops contents d Said → Gathered (Some contents) d → ⊥
no_stop contents d Said never a b =
    let among : names_listed b.prepared ≡ a.first.front ++ a.name ∷ a.first.rest = same_names b.prepared a.ready ∙ a.first.among in
    let t = has_among contents d.folder a.first.front a.name a.first.rest b.classes (subst (λ (l : List (List ℕ)). HasClasses (Some contents) d.folder l b.classes) among b.each) in
    never a.name t.class t.has a.first.said

not_at_names : (contents : Contents) (d : DumpRequest) (e : Ended) → AtNames contents d e → Gathered (Some contents) d → ⊥
not_at_names contents d e (inl a) b = no_stop contents d (HasLarge (Some contents) d.folder) (class_large contents d.folder) a.1 b
not_at_names contents d e (inr a) b = no_stop contents d (HasNoClass (Some contents) d.folder) (class_other contents d.folder) a.1 b

one_stop : (contents : Contents) (d : DumpRequest) → StopsLarge contents d → StopsOther contents d → ⊥
one_stop contents d a b =
    apart contents d.folder a.name b.name a.first.front a.first.rest b.first.front b.first.rest a.first.classes b.first.classes (sym a.first.among ∙ same_names a.ready b.ready ∙ b.first.among) a.first.before b.first.before a.first.said b.first.said

many_few : (contents : Contents) (d : DumpRequest) (e : Ended) → TooManyClasses (Some contents) d → IsWritten contents d e → ⊥
many_few contents d e a (inl b) = omega (arith, ap length (same_classes contents d a.gathered b.1.gathered), a.passes, b.1.few)
many_few contents d e a (inr b) = omega (arith, ap length (same_classes contents d a.gathered b.1.gathered), a.passes, b.1.few)

large_small : (contents : Contents) (d : DumpRequest) → dumps.ArchiveTooLarge (Some contents) d → Fits contents d → ⊥
large_small contents d a b = omega (arith, ap length (same_text contents d a.gathered b.gathered), a.passes, b.small)

one_end : (contents : Contents) (d : DumpRequest) → Single (DumpEnds contents d)
one_end contents d = one_of (AtList contents d) (WithList contents d) at_list with_list (λ e f p q. not_at_list contents d e p (list_read contents d f q))
  where
    at_list : Single (AtList contents d)
    at_list = one_of (EndsBy Missing (IsAt (Some contents) d.list None)) (EndsBy (Limit FileSize MAX_FILE) (ListTooLarge (Some contents) d)) (one_cause _ _) (one_cause _ _)
        (λ e f p q. none_some (get contents d.list) q.1.2.bytes p.1 (q.1.1 ∙ q.1.2.at))

    at_folder : Single (AtFolder contents d)
    at_folder = one_of (EndsBy (Limit FileSize MAX_FILE) (FolderTooLarge (Some contents) d)) (EndsBy (Limit Names MAX_NAMES) (FolderTooMany (Some contents) d)) (one_cause _ _) (one_cause _ _)
        (λ e f p q. large_many contents (archived.lists_of d.folder) p.1.size q.1.count p.1.made q.1.made)

    at_names : Single (AtNames contents d)
    at_names = one_of (EndsBy (Limit FileSize MAX_FILE) (StopsLarge contents d)) (EndsBy Unsupported (StopsOther contents d)) (one_cause _ _) (one_cause _ _) (λ e f p q. one_stop contents d p.1 q.1)

    is_written : Single (IsWritten contents d)
    is_written = one_of (EndsBy (Limit ArchiveSize MAX_ARCHIVE) (dumps.ArchiveTooLarge (Some contents) d)) (EndsBy (Exit 0) (Fits contents d)) (one_cause _ _) (one_cause _ _) (λ e f p q. large_small contents d p.1 q.1)

    at_archive : Single (AtArchive contents d)
    at_archive = one_of (EndsBy (Limit Classes MAX_CLASSES) (TooManyClasses (Some contents) d)) (IsWritten contents d) (one_cause _ _) is_written (λ e f p q. many_few contents d f p.1 q)

    with_manifest : Single (WithManifest contents d)
    with_manifest = one_of (AtNames contents d) (AtArchive contents d) at_names at_archive (λ e f p q. not_at_names contents d e p (gathered contents d f q))

    with_list : Single (WithList contents d)
    with_list = one_of (AtFolder contents d) (WithManifest contents d) at_folder with_manifest (λ e f p q. not_at_folder contents d e p (prepared contents d f q))

-- ---- a dump

limit_ends : (contents : Contents) (d : DumpRequest) (quantity : Quantity) (limit : ℕ) → PassesLimit (Some contents) d (Limit quantity limit) → DumpEnds contents d (Limit quantity limit)
limit_ends contents d FileSize limit (z, inl h) = inl (inr (ap (Limit FileSize) z, h))
limit_ends contents d FileSize limit (z, inr (inl h)) = inr (inl (inl (ap (Limit FileSize) z, h)))
limit_ends contents d FileSize limit (z, inr (inr (p, name, first))) = inr (inr (inl (inl (ap (Limit FileSize) z, record { ready = p; name = name; first = first }))))
limit_ends contents d Names limit (z, h) = inr (inl (inr (ap (Limit Names) z, h)))
limit_ends contents d Classes limit (z, h) = inr (inr (inr (inl (ap (Limit Classes) z, h))))
limit_ends contents d ArchiveSize limit (z, h) = inr (inr (inr (inr (inl (ap (Limit ArchiveSize) z, h)))))
limit_ends contents d Loaded limit h = absurd h

other_ends : (contents : Contents) (d : DumpRequest) (name : List ℕ) → IsUnsupportedName (Some contents) d name → DumpEnds contents d Unsupported
other_ends contents d name (p, first) = inr (inr (inl (inr (refl, record { ready = p; name = name; first = first }))))

answer_ends : (contents : Contents) (new : Option Contents) (faults : ℕ × ℕ) (d : DumpRequest) (before after : Option (List ℕ)) (name : List ℕ) (ended : Ended) → DumpAnswers (Some contents) new faults d before after name ended → ended ≢ ReadFault → ended ≢ WriteFault → DumpEnds contents d ended ⊎ (ended ≡ Memory)
answer_ends contents new faults d before after name (Exit code) h rf wf = inl (inr (inr (inr (inr (inr (ap Exit h.0, fits h.1))))))
answer_ends contents new faults d before after name Missing h rf wf = inl (inl (inl (refl, h.0)))
answer_ends contents new faults d before after name Unsupported h rf wf = inl (other_ends contents d name h.0)
answer_ends contents new faults d before after name (Limit quantity limit) h rf wf = inl (limit_ends contents d quantity limit h.0)
answer_ends contents new faults d before after name Usage h rf wf = absurd h
answer_ends contents new faults d before after name (BadText number) h rf wf = absurd h
answer_ends contents new faults d before after name NoBoot h rf wf = absurd h
answer_ends contents new faults d before after name NoMain h rf wf = absurd h
answer_ends contents new faults d before after name (NotShared refuse) h rf wf = absurd h
answer_ends contents new faults d before after name Stopped h rf wf = absurd h
answer_ends contents new faults d before after name ReadFault h rf wf = absurd (rf refl)
answer_ends contents new faults d before after name WriteFault h rf wf = absurd (wf refl)
answer_ends contents new faults d before after name Memory h rf wf = inr refl

ends_as : (contents : Contents) (d : DumpRequest) (ended answer : Ended) → DumpEnds contents d ended ⊎ (ended ≡ Memory) → DumpEnds contents d answer → IsOrMemory ended answer
ends_as contents d ended answer (inl x) y = inl (one_end contents d ended answer x y)
ends_as contents d ended answer (inr m) y = inr m

-- What was written is the archive that is asked about.
writes_it : (contents : Contents) (new : Option Contents) (faults : ℕ × ℕ) (d : DumpRequest) (before after : Option (List ℕ)) (name : List ℕ) (ended : Ended) → DumpAnswers (Some contents) new faults d before after name ended → (g : Gathered (Some contents) d) → IsOrMemory ended (Exit 0)
    → ((ended ≡ Exit 0) × Holds (Some contents) new d.archive (archive_text g.classes g.prepared.now)) ⊎ (ended ≡ Memory)
writes_it contents new faults d before after name ended h g (inl e) =
    let t : DumpAnswers (Some contents) new faults d before after name (Exit 0) = subst (λ (k : Ended). DumpAnswers (Some contents) new faults d before after name k) e h in
    inl (e, subst (λ (a : List ℕ). Holds (Some contents) new d.archive a) (t.1.is.written ∙ same_text contents d t.1.gathered g) t.2)
writes_it contents new faults d before after name ended h g (inr m) = inr m

dump_completes : (contents : Contents) (new : Option Contents) (faults : ℕ × ℕ) (d : DumpRequest) (before after : Option (List ℕ)) (name : List ℕ) (ended : Ended) → DumpAnswers (Some contents) new faults d before after name ended → ended ≢ ReadFault → ended ≢ WriteFault → DumpCompletes (Some contents) new d ended
dump_completes contents new faults d before after name ended h rf wf = record {
  missing = λ n. by_cause Missing (inl (inl (refl, n)));
  limit = λ quantity limit p. by_cause (Limit quantity limit) (limit_ends contents d quantity limit p);
  other = λ other u. by_cause Unsupported (other_ends contents d other u);
  dumped = λ g few small. writes_it contents new faults d before after name ended h g (by_cause (Exit 0) (inr (inr (inr (inr (inr (refl, record { gathered = g; few = few; small = small })))))));
} where
  by_cause : (answer : Ended) → DumpEnds contents d answer → IsOrMemory ended answer
  by_cause answer x = ends_as contents d ended answer (answer_ends contents new faults d before after name ended h rf wf) x

-- ---- an assembly

one_text : (contents : Contents) (a : AsmRequest) (x y : HasText (Some contents) a) → x.text ≡ y.text
one_text contents a x y = same_bytes (get contents a.text) x.text y.text x.at y.at

text_large : (contents : Contents) (a : AsmRequest) → HasText (Some contents) a → TextTooLarge (Some contents) a → ⊥
text_large contents a x (found, at, large) = small_large found x.text (sym at ∙ x.at) x.small large

missing_large : (contents : Contents) (a : AsmRequest) → get contents a.text ≡ None → TextTooLarge (Some contents) a → ⊥
missing_large contents a n (found, at, large) = none_some (get contents a.text) large.bytes n (at ∙ large.at)

trees_is : (x y : List ClassTree) → ◌≡◌ {A = Result (List ClassTree) ℕ} (Ok x) (Ok y) → x ≡ y
trees_is x y e = cc

line_is : (x y : ℕ) → ◌≡◌ {A = Result (List ClassTree) ℕ} (Err x) (Err y) → x ≡ y
line_is x y e = cc

trees_or_line : (trees : List ClassTree) (line : ℕ) → ◌≡◌ {A = Result (List ClassTree) ℕ} (Ok trees) (Err line) → ⊥
trees_or_line trees line e = cc

same_trees : (contents : Contents) (a : AsmRequest) (x y : IsAssembled (Some contents) a) → x.trees ≡ y.trees
same_trees contents a x y = trees_is x.trees y.trees (sym x.is ∙ ap assembled (one_text contents a x.has y.has) ∙ y.is)

same_line : (contents : Contents) (a : AsmRequest) (m n : ℕ) → IsBadText (Some contents) a m → IsBadText (Some contents) a n → m ≡ n
same_line contents a m n x y = line_is m n (sym x.is ∙ ap assembled (one_text contents a x.has y.has) ∙ y.is)

not_both : (contents : Contents) (a : AsmRequest) (line : ℕ) → IsAssembled (Some contents) a → IsBadText (Some contents) a line → ⊥
not_both contents a line x y = trees_or_line x.trees line (sym x.is ∙ ap assembled (one_text contents a x.has y.has) ∙ y.is)

asm_completes : (contents : Contents) (new : Option Contents) (faults : ℕ × ℕ) (a : AsmRequest) (ended : Ended) → AsmAnswers (Some contents) new faults a ended → ended ≢ ReadFault → ended ≢ WriteFault → AsmCompletes (Some contents) new a ended
asm_completes contents new faults a (Exit code) h rf wf = record {
  missing = λ n. absurd (none_some (get contents a.text) h.1.has.text n h.1.has.at);
  large = λ l. absurd (text_large contents a h.1.has l);
  bad = λ line b. absurd (not_both contents a line h.1 b);
  written = λ x. inl (ap Exit h.0, h.3 ∙ ap (λ (t : List ClassTree). after_files (Some contents) (files_of a.folder t)) (same_trees contents a h.1 x));
}
asm_completes contents new faults a Missing h rf wf = record {
  missing = λ n. inl refl;
  large = λ l. absurd (missing_large contents a h.0 l);
  bad = λ line b. absurd (none_some (get contents a.text) b.has.text h.0 b.has.at);
  written = λ x. absurd (none_some (get contents a.text) x.has.text h.0 x.has.at);
}
asm_completes contents new faults a (BadText number) h rf wf = record {
  missing = λ n. absurd (none_some (get contents a.text) h.0.has.text n h.0.has.at);
  large = λ l. absurd (text_large contents a h.0.has l);
  bad = λ line b. inl (ap BadText (same_line contents a number line h.0 b));
  written = λ x. absurd (not_both contents a number x h.0);
}
asm_completes contents new faults a (Limit FileSize limit) h rf wf = record {
  missing = λ n. absurd (missing_large contents a n h.1);
  large = λ l. inl (ap (Limit FileSize) h.0);
  bad = λ line b. absurd (text_large contents a b.has h.1);
  written = λ x. absurd (text_large contents a x.has h.1);
}
asm_completes contents new faults a (Limit Names limit) h rf wf = absurd h
asm_completes contents new faults a (Limit Classes limit) h rf wf = absurd h
asm_completes contents new faults a (Limit ArchiveSize limit) h rf wf = absurd h
asm_completes contents new faults a (Limit Loaded limit) h rf wf = absurd h
asm_completes contents new faults a Usage h rf wf = absurd h
asm_completes contents new faults a NoBoot h rf wf = absurd h
asm_completes contents new faults a NoMain h rf wf = absurd h
asm_completes contents new faults a (NotShared refuse) h rf wf = absurd h
asm_completes contents new faults a Stopped h rf wf = absurd h
asm_completes contents new faults a Unsupported h rf wf = absurd h
asm_completes contents new faults a ReadFault h rf wf = absurd (rf refl)
asm_completes contents new faults a WriteFault h rf wf = absurd (wf refl)
asm_completes contents new faults a Memory h rf wf = record {
  missing = λ n. inr refl;
  large = λ l. inr refl;
  bad = λ line b. inr refl;
  written = λ x. inr refl;
}

-- ---- the answer to the words

no_read_fault : (before now : ℕ) (ended : Ended) → CountsReads before now ended → ¬ (Rose before now) → ended ≢ ReadFault
no_read_fault before now ended h calm e = calm (subst (CountsReads before now) e h).1

no_write_fault : (before now : ℕ) (ended : Ended) → CountsWrites before now ended → ¬ (Rose before now) → ended ≢ WriteFault
no_write_fault before now ended h calm e = calm (subst (CountsWrites before now) e h).1

no_dump_fault : (f0 f1 o0 o1 : ℕ) → CountsDump f0 f1 o0 o1 WriteFault → ¬ (Rose f0 f1) → ¬ (Rose o0 o1) → ⊥
no_dump_fault f0 f1 o0 o1 (inl h) calm calm' = calm h.1
no_dump_fault f0 f1 o0 o1 (inr h) calm calm' = calm' h.2

pub completes : (request : Option Request) (old new : Option Store) (before after : Option (List ℕ)) (subject : List ℕ) (ended : Ended) (r0 r1 f0 f1 o0 o1 : ℕ)
    → RequestAnswers request old new (f0, f1) before after subject ended → CountsReads r0 r1 ended → CountsFor request f0 f1 o0 o1 ended
    → ¬ (Rose r0 r1) → ¬ (Rose f0 f1) → ¬ (Rose o0 o1) → RequestCompletes request old new before after ended
completes None old new before after subject ended r0 r1 f0 f1 o0 o1 h reads writes calm_reads calm_files calm_out = h.0
completes (Some (Run r)) None new before after subject ended r0 r1 f0 f1 o0 o1 h reads writes calm_reads calm_files calm_out = tt
completes (Some (Dump d)) None new before after subject ended r0 r1 f0 f1 o0 o1 h reads writes calm_reads calm_files calm_out = tt
completes (Some (HomeRun r)) None new before after subject ended r0 r1 f0 f1 o0 o1 h reads writes calm_reads calm_files calm_out = tt
completes (Some (MakeHome dir)) None new before after subject ended r0 r1 f0 f1 o0 o1 h reads writes calm_reads calm_files calm_out = tt
completes (Some (Asm a)) None new before after subject ended r0 r1 f0 f1 o0 o1 h reads writes calm_reads calm_files calm_out = tt
completes (Some (Asm a)) (Some old) new before after subject ended r0 r1 f0 f1 o0 o1 h reads writes calm_reads calm_files calm_out =
    asm_completes old.contents (contents_told new) (f0, f1) a ended h.0 (no_read_fault r0 r1 ended reads calm_reads) (no_write_fault f0 f1 ended writes.1 calm_files)
completes (Some (Run r)) (Some old) new before after subject ended r0 r1 f0 f1 o0 o1 h reads writes calm_reads calm_files calm_out =
    archive_completes old.contents (reads_told (Some old)) (reads_told new) r before after ended h.0 (no_read_fault r0 r1 ended reads calm_reads) (no_write_fault o0 o1 ended writes.1 calm_out)
completes (Some (Dump d)) (Some old) new before after subject ended r0 r1 f0 f1 o0 o1 h reads writes calm_reads calm_files calm_out =
    dump_completes old.contents (contents_told new) (f0, f1) d before after subject ended h.0 (no_read_fault r0 r1 ended reads calm_reads)
    (λ e. no_dump_fault f0 f1 o0 o1 (subst (CountsDump f0 f1 o0 o1) e writes) calm_files calm_out)
completes (Some (HomeRun r)) (Some old) new before after subject ended r0 r1 f0 f1 o0 o1 h reads writes calm_reads calm_files calm_out =
    home.run_completes old new (f0, f1) r before after subject ended h (no_read_fault r0 r1 ended reads calm_reads)
    (λ e. no_dump_fault f0 f1 o0 o1 (subst (CountsDump f0 f1 o0 o1) e writes) calm_files calm_out)
completes (Some (MakeHome dir)) (Some old) new before after subject ended r0 r1 f0 f1 o0 o1 h reads writes calm_reads calm_files calm_out =
    home.home_completes (Some old.contents) (contents_told new) (f0, f1) dir ended h.0 (no_write_fault f0 f1 ended writes.1 calm_files)
