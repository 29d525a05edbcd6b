-- What a run over a home and the making of a home say of a command.
use Rattle.std.proofs.Common.{◌≡◌, ◌≢◌, ◌⊎◌, ℕ, List, [], Option, Some, None, refl, sym, ap, subst, ◌∙◌, inl, inr, arith}
use Rattle.std.specs.Prelude.{Result, Ok, Err}
use Rattle.std.specs.FinMap.{get, insert}
use Rattle.std.proofs.lemmas.List.{append-nil}
use Rattle.jsa_base.proofs.Codecs.{some_is}
use Rattle.jsa_files.specs.declared.fault.FilesFault.TheVariants as files
use Rattle.jsa_files.specs.Store.{Contents, Store}
use Rattle.boot_library.specs.declared.fault.HomeFault.{HomeFault}
use Rattle.boot_library.specs.declared.fault.HomeFault.TheVariants as faults
use Rattle.class_folder.specs.ClassFiles.{WritesSome, FailsAt}
use Rattle.boot_library.specs.Home.{boot_text}
use Rattle.boot_library.specs.Home as making
use Rattle.home_run.specs.declared.end.HomeEnd.{HomeEnd}
use Rattle.home_run.specs.declared.end.HomeEnd.TheVariants as ends
use Rattle.command_words.specs.HomeWords.{HomeRequest}
use Rattle.home_run.specs.Answers as home
use Rattle.jsa.specs.declared.ended.Ended.{Ended}
use Rattle.jsa.specs.declared.ended.Ended.TheVariants.{ReadFault, WriteFault, Memory}
use Rattle.jsa_files.specs.Told.{contents_told, reads_told}
use Rattle.jsa.specs.HomeRuns.{end_of_run, home_subject, HomeRunAnswers, end_of_home, MakeHomeLeaves}
use Rattle.jsa.specs.Command.{CountsReads, CountsWrites, CountsDump, OthersStay, HomeRunLeaves}
use Rattle.jsa.specs.Completes.{IsOrMemory}
use Rattle.jsa.proofs.Ends.{counts_reads_memory, counts_writes_memory}
use Rattle.jsa.proofs.Dumping.{counts_memory}
use Rattle.jsa.proofs.Assembles.{some_stay, fails_stay, some_told, fails_told, some_untold, fails_untold}
use Rattle.jsa.proofs.Inserted.{get_other}

-- ---- the end of a run that is told

pub answers : (end : HomeEnd) (ended : Ended) → ended ≡ end_of_run end → (old new : Option Store) (counts : ℕ × ℕ) (r : HomeRequest) (before after : Option (List ℕ)) (subject : List ℕ) → subject ≡ home_subject r end → home.AnswersRun old new counts r before after end
    → HomeRunAnswers old new counts r before after subject ended
answers end ended is old new counts r before after subject tells run = record { end = end; run = run; is = inl is; tells = inr tells }

pub memory_answers : (end : HomeEnd) (old new : Option Store) (counts : ℕ × ℕ) (r : HomeRequest) (before after : Option (List ℕ)) (subject : List ℕ) → home.AnswersRun old new counts r before after end → HomeRunAnswers old new counts r before after subject Memory
memory_answers end old new counts r before after subject run = record { end = end; run = run; is = inr refl; tells = inl refl }

reads_of : (before now : ℕ) (end : HomeEnd) → home.CountsReads before now end → CountsReads before now (end_of_run end)
reads_of before now ends.Exit h = h
reads_of before now (ends.NoBoot number) h = h
reads_of before now ends.NoMain h = h
reads_of before now ends.Stopped h = h
reads_of before now ends.Unsupported h = h
reads_of before now ends.Read h = h
reads_of before now ends.Write h = h
reads_of before now (ends.Limit quantity limit) h = h
reads_of before now ends.Memory h = omega arith

writes_of : (f f' o o' : ℕ) (end : HomeEnd) → home.CountsWrites f f' o o' end → CountsDump f f' o o' (end_of_run end)
writes_of f f' o o' ends.Exit h = h
writes_of f f' o o' (ends.NoBoot number) h = h
writes_of f f' o o' ends.NoMain h = h
writes_of f f' o o' ends.Stopped h = h
writes_of f f' o o' ends.Unsupported h = h
writes_of f f' o o' ends.Read h = h
writes_of f f' o o' ends.Write h = h
writes_of f f' o o' (ends.Limit quantity limit) h = h
writes_of f f' o o' ends.Memory h = (omega (arith, h.0), h.1)

pub counts_reads : (before now : ℕ) (end : HomeEnd) (ended : Ended) → ended ≡ end_of_run end → home.CountsReads before now end → CountsReads before now ended
counts_reads before now end ended is h = subst (λ (e : Ended). CountsReads before now e) (sym is) (reads_of before now end h)

pub counts_writes : (f f' o o' : ℕ) (end : HomeEnd) (ended : Ended) → ended ≡ end_of_run end → home.CountsWrites f f' o o' end → CountsDump f f' o o' ended
counts_writes f f' o o' end ended is h = subst (λ (e : Ended). CountsDump f f' o o' e) (sym is) (writes_of f f' o o' end h)

pub told_reads : (before now : ℕ) (ended result : Ended) → IsOrMemory result ended → CountsReads before now ended → CountsReads before now result
told_reads before now ended result (inl e) h = subst (λ (r : Ended). CountsReads before now r) (sym e) h
told_reads before now ended result (inr e) h = subst (λ (r : Ended). CountsReads before now r) (sym e) (counts_reads_memory before now ended h)

pub told_writes : (f f' o o' : ℕ) (ended result : Ended) → IsOrMemory result ended → CountsDump f f' o o' ended → CountsDump f f' o o' result
told_writes f f' o o' ended result (inl e) h = subst (λ (r : Ended). CountsDump f f' o o' r) (sym e) h
told_writes f f' o o' ended result (inr e) h = subst (λ (r : Ended). CountsDump f f' o o' r) (sym e) (counts_memory f f' o o' ended h)

is_read : (end : HomeEnd) → end_of_run end ≡ ReadFault → end ≡ ends.Read
is_read ends.Exit e = absurd cc
is_read (ends.NoBoot number) e = absurd cc
is_read ends.NoMain e = absurd cc
is_read ends.Stopped e = absurd cc
is_read ends.Unsupported e = absurd cc
is_read ends.Read e = refl
is_read ends.Write e = absurd cc
is_read (ends.Limit quantity limit) e = absurd cc
is_read ends.Memory e = absurd cc

is_write : (end : HomeEnd) → end_of_run end ≡ WriteFault → end ≡ ends.Write
is_write ends.Exit e = absurd cc
is_write (ends.NoBoot number) e = absurd cc
is_write ends.NoMain e = absurd cc
is_write ends.Stopped e = absurd cc
is_write ends.Unsupported e = absurd cc
is_write ends.Read e = absurd cc
is_write ends.Write e = refl
is_write (ends.Limit quantity limit) e = absurd cc
is_write ends.Memory e = absurd cc

pub told_read : (end : HomeEnd) (ended result : Ended) → ended ≡ end_of_run end → IsOrMemory result ended → result ≡ ReadFault → end ≡ ends.Read
told_read end ended result is (inl e) r = is_read end (sym is ∙ (sym e ∙ r))
told_read end ended result is (inr e) r = absurd (no_read (sym e ∙ r))
  where
    no_read : ◌≡◌ {A = Ended} Memory ReadFault → ⊥
    no_read f = cc

pub told_write : (end : HomeEnd) (ended result : Ended) → ended ≡ end_of_run end → IsOrMemory result ended → result ≡ WriteFault → end ≡ ends.Write
told_write end ended result is (inl e) r = is_write end (sym is ∙ (sym e ∙ r))
told_write end ended result is (inr e) r = absurd (no_write (sym e ∙ r))
  where
    no_write : ◌≡◌ {A = Ended} Memory WriteFault → ⊥
    no_write f = cc

-- ---- what stays after a run

same_leaves : (list : Option (List ℕ)) (contents : Contents) (new : Option Contents) → new ≡ Some contents → HomeRunLeaves list (Some contents) new
same_leaves None contents new e = e
same_leaves (Some path) contents new e = subst (λ (o : Option Contents). OthersStay path (Some contents) o) (sym e) (λ p other. refl)

put_leaves : (path bytes : List ℕ) (contents : Contents) (new : Option Contents) → new ≡ Some (insert contents path bytes) → HomeRunLeaves (Some path) (Some contents) new
put_leaves path bytes contents new e = subst (λ (o : Option Contents). OthersStay path (Some contents) o) (sym e) (λ p other. get_other contents path bytes p other)

listed_leaves : (list : Option (List ℕ)) (bytes : List ℕ) (contents : Contents) (new : Option Contents) → new ≡ Some (home.with_list list bytes contents) → HomeRunLeaves list (Some contents) new
listed_leaves None bytes contents new e = e
listed_leaves (Some path) bytes contents new e = put_leaves path bytes contents new e

failed_leaves : (contents : Contents) (new : Option Contents) (counts : ℕ × ℕ) (r : HomeRequest) → home.FailsList contents new counts r → HomeRunLeaves r.list (Some contents) new
failed_leaves contents new counts r f = subst (λ (list : Option (List ℕ)). HomeRunLeaves list (Some contents) new) (sym f.asked) (either f.holds)
  where
    either : (new ≡ Some contents) ⊎ (new ≡ Some (insert contents f.path f.front)) → HomeRunLeaves (Some f.path) (Some contents) new
    either (inl e) = same_leaves (Some f.path) contents new e
    either (inr e) = put_leaves f.path f.front contents new e

write_leaves : {A B : Type 0} (contents : Contents) (new : Option Contents) (counts : ℕ × ℕ) (r : HomeRequest) → (A × (new ≡ Some contents)) ⊎ (B × home.FailsList contents new counts r) → HomeRunLeaves r.list (Some contents) new
write_leaves contents new counts r (inl h) = same_leaves r.list contents new h.1
write_leaves contents new counts r (inr h) = failed_leaves contents new counts r h.1

told_leaves : (contents : Contents) (new : Option Contents) (counts : ℕ × ℕ) (ro rn : Option (List (List ℕ))) (r : HomeRequest) (before after : Option (List ℕ)) (end : HomeEnd) → home.Answers contents new counts ro rn r before after end → HomeRunLeaves r.list (Some contents) new
told_leaves contents new counts ro rn r before after ends.Exit h = listed_leaves r.list _ contents new h.2
told_leaves contents new counts ro rn r before after (ends.NoBoot number) h = same_leaves r.list contents new h.2
told_leaves contents new counts ro rn r before after ends.NoMain h = same_leaves r.list contents new h.2
told_leaves contents new counts ro rn r before after ends.Stopped h = same_leaves r.list contents new h.2
told_leaves contents new counts ro rn r before after ends.Unsupported h = same_leaves r.list contents new h.3
told_leaves contents new counts ro rn r before after ends.Read h = same_leaves r.list contents new h.1
told_leaves contents new counts ro rn r before after ends.Write h = write_leaves contents new counts r h.1
told_leaves contents new counts ro rn r before after (ends.Limit quantity limit) h = same_leaves r.list contents new h.2
told_leaves contents new counts ro rn r before after ends.Memory h = same_leaves r.list contents new h.1

untold_leaves : (list : Option (List ℕ)) (new : Option Contents) → new ≡ None → HomeRunLeaves list None new
untold_leaves None new e = e
untold_leaves (Some path) new e = e

pub run_leaves : (old new : Option Store) (counts : ℕ × ℕ) (r : HomeRequest) (before after : Option (List ℕ)) (end : HomeEnd) → home.AnswersRun old new counts r before after end → HomeRunLeaves r.list (contents_told old) (contents_told new)
run_leaves None new counts r before after end h = untold_leaves r.list (contents_told new) h.1
run_leaves (Some s) new counts r before after end h = told_leaves s.contents (contents_told new) counts (Some s.reads) (reads_told new) r before after end h

-- ---- the making of a home

pub made_reads : (before now : ℕ) (made : Result (Unit {0}) HomeFault) → now ≡ before → CountsReads before now (end_of_home made)
made_reads before now (Ok done) e = e
made_reads before now (Err (faults.Line number)) e = e
made_reads before now (Err (faults.Files files.Failed)) e = e
made_reads before now (Err (faults.Files files.Memory)) e = omega (arith, e)
made_reads before now (Err (faults.Files (files.TooLarge size))) e = omega (arith, e)
made_reads before now (Err (faults.Files (files.TooMany count))) e = omega (arith, e)
made_reads before now (Err faults.Memory) e = omega (arith, e)

pub made_writes : (before now : ℕ) (made : Result (Unit {0}) HomeFault) → making.CountsWrites before now made → CountsWrites before now (end_of_home made)
made_writes before now (Ok done) h = h
made_writes before now (Err (faults.Line number)) h = h
made_writes before now (Err (faults.Files files.Failed)) h = h
made_writes before now (Err (faults.Files files.Memory)) h = omega (arith, h)
made_writes before now (Err (faults.Files (files.TooLarge size))) h = omega (arith, h)
made_writes before now (Err (faults.Files (files.TooMany count))) h = omega (arith, h)
made_writes before now (Err faults.Memory) h = omega (arith, h)

pub told_file_writes : (before now : ℕ) (ended result : Ended) → IsOrMemory result ended → CountsWrites before now ended → CountsWrites before now result
told_file_writes before now ended result (inl e) h = subst (λ (r : Ended). CountsWrites before now r) (sym e) h
told_file_writes before now ended result (inr e) h = subst (λ (r : Ended). CountsWrites before now r) (sym e) (counts_writes_memory before now ended h)

is_failed : (made : Result (Unit {0}) HomeFault) → end_of_home made ≡ WriteFault → made ≡ Err (faults.Files files.Failed)
is_failed (Ok done) e = absurd cc
is_failed (Err (faults.Line number)) e = absurd cc
is_failed (Err (faults.Files files.Failed)) e = refl
is_failed (Err (faults.Files files.Memory)) e = absurd cc
is_failed (Err (faults.Files (files.TooLarge size))) e = absurd cc
is_failed (Err (faults.Files (files.TooMany count))) e = absurd cc
is_failed (Err faults.Memory) e = absurd cc

pub told_failed : (made : Result (Unit {0}) HomeFault) (result : Ended) → IsOrMemory result (end_of_home made) → result ≡ WriteFault → made ≡ Err (faults.Files files.Failed)
told_failed made result (inl e) r = is_failed made (sym e ∙ r)
told_failed made result (inr e) r = absurd (no_write (sym e ∙ r))
  where
    no_write : ◌≡◌ {A = Ended} Memory WriteFault → ⊥
    no_write f = cc

not_read : (made : Result (Unit {0}) HomeFault) → end_of_home made ≢ ReadFault
not_read (Ok done) e = cc
not_read (Err (faults.Line number)) e = cc
not_read (Err (faults.Files files.Failed)) e = cc
not_read (Err (faults.Files files.Memory)) e = cc
not_read (Err (faults.Files (files.TooLarge size))) e = cc
not_read (Err (faults.Files (files.TooMany count))) e = cc
not_read (Err faults.Memory) e = cc

pub told_no_read : (made : Result (Unit {0}) HomeFault) (result : Ended) → IsOrMemory result (end_of_home made) → result ≢ ReadFault
told_no_read made result (inl e) r = not_read made (sym e ∙ r)
told_no_read made result (inr e) r = no_read (sym e ∙ r)
  where
    no_read : ◌≡◌ {A = Ended} Memory ReadFault → ⊥
    no_read f = cc

home_same : (dir : List ℕ) (old new : Option Contents) → new ≡ old → MakeHomeLeaves dir old new
home_same dir None new e = e
home_same dir (Some old) None e = absurd cc
home_same dir (Some old) (Some new) e = λ path others. ap (λ (c : Contents). get c path) (some_is new old e)

home_some : (dir : List ℕ) (old new : Option Contents) (h : making.IsHome dir boot_text) → WritesSome old new (making.files_asked h) → MakeHomeLeaves dir old new
home_some dir None new h w = some_untold new (making.files_asked h) w
home_some dir (Some old) None h w = absurd (let e = (some_told old None (making.files_asked h) w).1 in cc)
home_some dir (Some old) (Some new) h w = λ path others. some_stay old new (making.files_asked h) w path (others h)

home_fails : (dir : List ℕ) (old new : Option Contents) (h : making.IsHome dir boot_text) → FailsAt old new (making.files_asked h) → MakeHomeLeaves dir old new
home_fails dir None new h w = fails_untold new (making.files_asked h) w
home_fails dir (Some old) None h w = absurd (let e = (fails_told old None (making.files_asked h) w).1 in cc)
home_fails dir (Some old) (Some new) h w = λ path others. fails_stay old new (making.files_asked h) w path (others h)

pub made_leaves : (old new : Option Contents) (counts : ℕ × ℕ) (dir : List ℕ) (made : Result (Unit {0}) HomeFault) → making.HomeAnswers old new counts dir boot_text made → MakeHomeLeaves dir old new
made_leaves old new counts dir (Ok done) h = home_some dir old new h.0 (record { done = making.files_asked h.0; rest = []; among = sym (append-nil (making.files_asked h.0)); holds = h.2 })
made_leaves old new counts dir (Err (faults.Line number)) h = home_same dir old new h.1
made_leaves old new counts dir (Err (faults.Files files.Failed)) h = home_fails dir old new h.0 h.1
made_leaves old new counts dir (Err (faults.Files files.Memory)) h = home_some dir old new h.0 h.1
made_leaves old new counts dir (Err (faults.Files (files.TooLarge size))) h = absurd h
made_leaves old new counts dir (Err (faults.Files (files.TooMany count))) h = absurd h
made_leaves old new counts dir (Err faults.Memory) (inl e) = home_same dir old new e
made_leaves old new counts dir (Err faults.Memory) (inr h) = home_some dir old new h.0 h.1
