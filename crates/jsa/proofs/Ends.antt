-- What an answer says where memory runs out after it, and what a run's answer says of the file.
use Rattle.std.proofs.Common.{inl, inr, ℕ, Bool, true, false, List, Option, Some, None, refl, sym, subst, arith, length, ◌≤◌}
use Rattle.std.specs.Prelude.{◌<◌, Ok, Err, replicate}
use Rattle.std.specs.Global.{Vec}
use Rattle.std.proofs.lemmas.List.{length-replicate}
use Rattle.std.specs.FinMap.{get}
use Rattle.jsa_base.specs.declared.quantity.Quantity.TheVariants.{FileSize, Names, Classes, ArchiveSize, Loaded}
use Rattle.jsa_files.specs.declared.TheConstants.{MAX_FILE}
use Rattle.jsa_files.specs.declared.fault.FilesFault.TheVariants.{TooLarge}
use Rattle.jsa_files.specs.Store.{Contents, Store, AnswersAsTold}
use Rattle.jsa_files.proofs.Taken.{front_of_whole}
use Rattle.first_form.specs.declared.class_run.RunEnd.{RunEnd}
use Rattle.first_form.specs.declared.class_run.RunEnd.TheVariants as run_ends
use Rattle.first_form.specs.Runs.{Run, FileHasRun, FileHasNoRun, Runs, Begins, RunAnswers}
use Rattle.jsa.specs.declared.ended.Ended.{Ended}
use Rattle.jsa.specs.declared.ended.Ended.TheVariants.{Exit, Usage, BadText, NoBoot, NoMain, Missing, NotShared, Stopped, Unsupported, ReadFault, WriteFault, Limit, Memory}
use Rattle.jsa_files.specs.Told.{IsAt, contents_told}
use Rattle.jsa.specs.Runs.{HasRun, IsTooLarge, FileAnswers, PathAnswers, ReadsPath}
use Rattle.jsa.specs.Command.{CountsReads, CountsWrites}

begins : (found : Option (List ℕ)) (steps : ℕ) (returned : Bool) (before after : Option (List ℕ)) → Runs (HasRun found) steps returned before after → Begins (HasRun found) steps before after
begins found steps returned before after r = record { run = r.run; of = r.of; out = front_of_whole before after (r.run steps).out r.out }

pub file_memory : (found : Option (List ℕ)) (steps : ℕ) (before after : Option (List ℕ)) (ended : Ended) → FileAnswers found steps before after ended → FileAnswers found steps before after Memory
file_memory found steps before after (Exit code) h = inr (begins found steps true before after h.1)
file_memory found steps before after Usage h = absurd h
file_memory found steps before after (BadText number) h = absurd h
file_memory found steps before after NoBoot h = absurd h
file_memory found steps before after NoMain h = inl h.1
file_memory found steps before after Stopped h = inr (begins found steps false before after h)
file_memory found steps before after Unsupported h = inl h.1
file_memory found steps before after ReadFault h = inl h
file_memory found steps before after WriteFault h = inr h
file_memory found steps before after (Limit FileSize limit) h = inl h.2
file_memory found steps before after (Limit Names limit) h = absurd h
file_memory found steps before after (Limit Classes limit) h = absurd h
file_memory found steps before after (Limit ArchiveSize limit) h = absurd h
file_memory found steps before after (Limit Loaded limit) h = absurd h
file_memory found steps before after Missing h = absurd h
file_memory found steps before after (NotShared refuse) h = absurd h
file_memory found steps before after Memory h = h

pub path_memory : (contents : Option Contents) (path : List ℕ) (steps : ℕ) (before after : Option (List ℕ)) (ended : Ended) → PathAnswers contents path steps before after ended → PathAnswers contents path steps before after Memory
path_memory None path steps before after ended h = (h.0, file_memory h.0 steps before after ended h.1)
path_memory (Some contents) path steps before after ended h = file_memory (get contents path) steps before after ended h

pub reads_memory : (old new : Option (List (List ℕ))) (path : List ℕ) (ended : Ended) → ReadsPath old new path ended → ReadsPath old new path Memory
reads_memory old new path (Exit code) h = inr h
reads_memory old new path Usage h = inl h
reads_memory old new path (BadText number) h = inr h
reads_memory old new path NoBoot h = inl h
reads_memory old new path NoMain h = inl h
reads_memory old new path Stopped h = inr h
reads_memory old new path Missing h = inl h
reads_memory old new path (NotShared refuse) h = inl h
reads_memory old new path Unsupported h = inr h
reads_memory old new path ReadFault h = inl h
reads_memory old new path WriteFault h = inr h
reads_memory old new path (Limit quantity limit) h = inl h
reads_memory old new path Memory h = h

pub counts_reads_memory : (before now : ℕ) (ended : Ended) → CountsReads before now ended → CountsReads before now Memory
counts_reads_memory before now (Exit code) h = omega arith
counts_reads_memory before now Usage h = omega arith
counts_reads_memory before now (BadText number) h = omega arith
counts_reads_memory before now NoBoot h = omega arith
counts_reads_memory before now NoMain h = omega arith
counts_reads_memory before now Missing h = omega arith
counts_reads_memory before now (NotShared refuse) h = omega arith
counts_reads_memory before now Stopped h = omega arith
counts_reads_memory before now Unsupported h = omega arith
counts_reads_memory before now ReadFault h = h.0
counts_reads_memory before now WriteFault h = omega arith
counts_reads_memory before now (Limit quantity limit) h = omega arith
counts_reads_memory before now Memory h = h

pub counts_writes_memory : (before now : ℕ) (ended : Ended) → CountsWrites before now ended → CountsWrites before now Memory
counts_writes_memory before now (Exit code) h = omega arith
counts_writes_memory before now Usage h = omega arith
counts_writes_memory before now (BadText number) h = omega arith
counts_writes_memory before now NoBoot h = omega arith
counts_writes_memory before now NoMain h = omega arith
counts_writes_memory before now Missing h = omega arith
counts_writes_memory before now (NotShared refuse) h = omega arith
counts_writes_memory before now Stopped h = omega arith
counts_writes_memory before now Unsupported h = omega arith
counts_writes_memory before now ReadFault h = omega arith
counts_writes_memory before now WriteFault h = h.0
counts_writes_memory before now (Limit quantity limit) h = omega arith
counts_writes_memory before now Memory h = h

abbrev pub ended_by : RunEnd → Ended
ended_by run_ends.Returned = Exit 0
ended_by run_ends.Stopped = Stopped
ended_by run_ends.Unsupported = Unsupported
ended_by run_ends.Write = WriteFault
ended_by run_ends.Memory = Memory

-- the answer of the run of a class, as an answer for the file that has the class
pub file_of_run : (bytes : List ℕ) (steps : ℕ) (before after : Option (List ℕ)) (end : RunEnd) → length bytes ≤ MAX_FILE → RunAnswers (FileHasRun bytes) (FileHasNoRun bytes) steps before after end → FileAnswers (Some bytes) steps before after (ended_by end)
file_of_run bytes steps before after end small h = by end h
  where
    has : (run : Run) → FileHasRun bytes run → HasRun (Some bytes) run
    has run of = record { bytes = bytes; at = refl; small = small; of = of }

    by : (e : RunEnd) → RunAnswers (FileHasRun bytes) (FileHasNoRun bytes) steps before after e → FileAnswers (Some bytes) steps before after (ended_by e)
    by run_ends.Returned x = (refl, record { run = x.run; of = has x.run x.of; returns = x.returns; out = x.out })
    by run_ends.Stopped x = record { run = x.run; of = has x.run x.of; returns = x.returns; out = x.out }
    by run_ends.Unsupported x = (record { bytes = bytes; at = refl; small = small; other = x.0 }, x.1)
    by run_ends.Write x = record { run = x.run; of = has x.run x.of; out = x.out }
    by run_ends.Memory (inl x) = inl x
    by run_ends.Memory (inr x) = inr (record { run = x.run; of = has x.run x.of; out = x.out })

pub path_of_file : (contents : Option Contents) (path : List ℕ) (steps : ℕ) (found before after : Option (List ℕ)) (ended : Ended) → IsAt contents path found → FileAnswers found steps before after ended → PathAnswers contents path steps before after ended
path_of_file None path steps found before after ended is h = (found, h)
path_of_file (Some contents) path steps found before after ended is h = subst (λ (o : Option (List ℕ)). FileAnswers o steps before after ended) (sym is) h

-- What was found, and the answer for it.
pub file_of_path : (contents : Option Contents) (path : List ℕ) (steps : ℕ) (before after : Option (List ℕ)) (ended : Ended) → PathAnswers contents path steps before after ended
    → (found : Option (List ℕ)) × IsAt contents path found × FileAnswers found steps before after ended
file_of_path None path steps before after ended h = (h.0, tt, h.1)
file_of_path (Some contents) path steps before after ended h = (get contents path, refl, h)

-- what a read finds
pub at_told : (store : Option Store) (path : List ℕ) (bytes : Vec ℕ) → AnswersAsTold store path (Ok (Some bytes)) → IsAt (contents_told store) path (Some bytes.items)
at_told None path bytes told = tt
at_told (Some store) path bytes told = told

pub none_told : (store : Option Store) (path : List ℕ) → AnswersAsTold store path (Ok None) → IsAt (contents_told store) path None
none_told None path told = tt
none_told (Some store) path told = told

-- a file of so many bytes, which are too many
pub large_told : (store : Option Store) (path : List ℕ) (size : ℕ) → AnswersAsTold store path (Err (TooLarge size)) → MAX_FILE < size → (found : Option (List ℕ)) × IsAt (contents_told store) path found × IsTooLarge found
large_told None path size told passes = (Some (replicate size 0), tt, record { bytes = replicate size 0; at = refl; passes = omega (arith, length-replicate {A = ℕ} size 0) })
large_told (Some store) path size told passes = (Some told.0, told.1, record { bytes = told.0; at = refl; passes = omega (arith, told.2) })

-- the answer for such a file
pub too_large : (store : Option Store) (path : List ℕ) (steps : ℕ) (out : Option (List ℕ)) (size : ℕ) → AnswersAsTold store path (Err (TooLarge size)) → MAX_FILE < size → PathAnswers (contents_told store) path steps out out (Limit FileSize MAX_FILE)
too_large store path steps out size told passes =
    let large = large_told store path size told passes in
    path_of_file (contents_told store) path steps large.0 out out (Limit FileSize MAX_FILE) large.1 (refl, large.2, refl)
