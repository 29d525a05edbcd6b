-- What a run that is given an archive answers, from what its steps answer.
use Rattle.std.proofs.Common.{◌≡◌, ◌⊎◌, ◌≤◌, ◌+◌, ◌++◌, inl, inr, ℕ, List, [], ◌∷◌, Bool, false, Option, Some, None, refl, sym, ap, subst, length, arith}
use Rattle.std.specs.Prelude.{Ok, Err, true}
use Rattle.std.specs.Global.{Vec}
use Rattle.std.specs.Option.{option_map}
use Rattle.jsa_base.specs.declared.quantity.Quantity.TheVariants.{FileSize, Names, Classes, ArchiveSize, Loaded}
use Rattle.jsa_files.specs.declared.TheConstants.{MAX_FILE}
use Rattle.jsa_files.specs.declared.fault.FilesFault.{FilesFault}
use Rattle.jsa_files.specs.declared.fault.FilesFault.TheVariants as faults
use Rattle.jsa_files.specs.Causes.{CountsFailure}
use Rattle.jsa_files.specs.Store.{Contents, Store, AnswersAsTold, KeepsSize}
use Rattle.loader_rules.specs.Lists.{FolderLists}
use Rattle.archive_header.specs.declared.folders.Folders.{Folders}
use Rattle.archive_header.specs.Manifests.{MakeAnswer, MakesAsTold, MakesSmall}
use Rattle.plain_classes.specs.declared.class.PlainClass.{PlainClass}
use Rattle.plain_classes.specs.Records.{class_in}
use Rattle.archive_mapper.specs.Mapping.{Maps, IsMapped}
use Rattle.archive_dump.proofs.Dumps.{length-archive}
use Rattle.plain_classes.specs.Records.{classes_text}
use Rattle.jsa_base.specs.LowFirst.{low_text}
use Rattle.std.specs.Str.{bytes_eq}
use Rattle.std.proofs.lemmas.List.{length-append}
use Rattle.jsa.specs.declared.archive_run.ArchiveAndManifest.{ArchiveAndManifest}
use Rattle.jsa.specs.Steps.{OpensAs, IsSmallIn}
use Rattle.jsa.specs.declared.ended.Ended.{Ended}
use Rattle.jsa.specs.declared.ended.Ended.TheVariants.{Exit, Usage, BadText, NoBoot, NoMain, Missing, NotShared, Stopped, Unsupported, ReadFault, WriteFault, Limit, Memory}
use Rattle.command_words.specs.Words.{RunRequest, class_path}
use Rattle.jsa_files.specs.Told.{IsAt, contents_told, reads_told, ReadsBy}
use Rattle.jsa.specs.Faults.{end_of}
use Rattle.jsa.specs.Runs.{FileAnswers, PathAnswers, ReadsPath}
use Rattle.jsa.specs.Archived.{lists_of, MakesOf, archive_bytes, archive_reads, ReadsArchive, OpensNot, NotHeld, Dropped, Taken, MappedAnswers, ArchiveAnswers}
use Rattle.jsa.specs.Command.{CountsReads, RunAnswers}
use Rattle.jsa.proofs.Ends.{file_memory, path_memory, reads_memory, file_of_path, at_told, none_told, large_told}
use Rattle.jsa.proofs.Growth.{reads_nothing, front_none, front_archive, path_class, no_class, behind_first, class_memory}

-- ---- the archive and the manifest

pub of_told : (store : Option Store) (lists : FolderLists) (result : MakeAnswer) → MakesAsTold store lists result → MakesOf (contents_told store) lists result
of_told None lists result h = tt
of_told (Some store) lists result h = h

-- what a read found
pub found_told : (store : Option Store) (path : List ℕ) (found : Option (Vec ℕ)) → AnswersAsTold store path (Ok found) → IsAt (contents_told store) path (option_map (λ bytes. bytes.items) found)
found_told store path None told = none_told store path told
found_told store path (Some bytes) told = at_told store path bytes told

pub found_small : (found : Option (Vec ℕ)) → KeepsSize (Ok found) → length (archive_bytes (option_map (λ bytes. bytes.items) found)) ≤ MAX_FILE
found_small None h = omega arith
found_small (Some bytes) h = h

pub counts_fault : (T : Type 0) (before now : ℕ) (fault : FilesFault) → CountsFailure {T = T} before now (Err fault) → CountsReads before now (end_of fault)
counts_fault T before now faults.Failed h = h
counts_fault T before now (faults.TooLarge size) h = h
counts_fault T before now (faults.TooMany count) h = h
counts_fault T before now faults.Memory h = omega (arith, h)

-- The archive's file can't be read.
pub read_fails : (store : Option Store) (new : Option (List (List ℕ))) (folder archive : List ℕ) (fault : FilesFault) → AnswersAsTold store archive (Err fault) → KeepsSize (Err fault) → new ≡ reads_told store
    → OpensNot (contents_told store) (reads_told store) new folder archive (end_of fault)
read_fails store new folder archive faults.Failed told size e = front_none (reads_told store) new (archive ∷ []) e
read_fails store new folder archive (faults.TooLarge size) told passes e =
    let large = large_told store archive size told passes in
    (refl, inl (record { found = large.0; at = large.1; large = large.2 }, reads_nothing (reads_told store) new e))
read_fails store new folder archive (faults.TooMany count) told size e = absurd size
read_fails store new folder archive faults.Memory told size e = front_none (reads_told store) new (archive ∷ []) e

-- The manifest can't be made.
pub manifest_fails : (contents : Option Contents) (old new : Option (List (List ℕ))) (folder archive : List ℕ) (read : ReadsArchive contents archive) (fault : FilesFault) → MakesOf contents (lists_of folder) (Err fault) → MakesSmall (Err fault) → ReadsBy old new (archive_reads archive read.found)
    → OpensNot contents old new folder archive (end_of fault)
manifest_fails contents old new folder archive read faults.Failed made small reads = front_archive old new archive read.found reads
manifest_fails contents old new folder archive read (faults.TooLarge size) made small reads = (refl, inr (record { read = read; size = size; passes = small; made = made }, reads))
manifest_fails contents old new folder archive read (faults.TooMany count) made small reads = (refl, record { read = read; count = count; passes = small; made = made }, reads)
manifest_fails contents old new folder archive read faults.Memory made small reads = front_archive old new archive read.found reads

-- ---- where the class is taken from

-- An answer for the bytes of the class that the archive holds, or of its file.
taken_or_fault : (contents : Option Contents) (old new : Option (List (List ℕ))) (r : RunRequest) (bytes : List ℕ) (now : Folders) (before after : Option (List ℕ)) (ended : Ended)
    → Taken contents old new [] r bytes now before after ended → MappedAnswers contents old new [] r bytes now before after ended
taken_or_fault contents old new r bytes now before after (Exit code) t = t
taken_or_fault contents old new r bytes now before after Usage t = absurd t.answer
taken_or_fault contents old new r bytes now before after (BadText number) t = absurd t.answer
taken_or_fault contents old new r bytes now before after NoBoot t = absurd t.answer
taken_or_fault contents old new r bytes now before after NoMain t = t
taken_or_fault contents old new r bytes now before after Missing t = absurd t.answer
taken_or_fault contents old new r bytes now before after (NotShared refuse) t = absurd t.answer
taken_or_fault contents old new r bytes now before after Stopped t = t
taken_or_fault contents old new r bytes now before after Unsupported t = t
taken_or_fault contents old new r bytes now before after ReadFault t = (t.reads, t.answer)
taken_or_fault contents old new r bytes now before after WriteFault t = t
taken_or_fault contents old new r bytes now before after (Limit quantity limit) t = t
taken_or_fault contents old new r bytes now before after Memory t = inr t

-- The class's file is read.
pub from_file : (contents : Option Contents) (old new : Option (List (List ℕ))) (r : RunRequest) (bytes : List ℕ) (now : Folders) (before after : Option (List ℕ)) (ended : Ended) → (NotHeld bytes now r.name ⊎ Dropped bytes now r.on)
    → PathAnswers contents (class_path r) r.steps before after ended → ReadsPath old new (class_path r) ended → MappedAnswers contents old new [] r bytes now before after ended
from_file contents old new r bytes now before after ended why h reads =
    let file = file_of_path contents (class_path r) r.steps before after ended h in
    taken_or_fault contents old new r bytes now before after ended (record {
      found = file.0;
      paths = class_path r ∷ [];
      from = inr (why, file.1, refl);
      answer = file.2;
      reads = path_class old new (class_path r) ended reads;
    })

-- The archive holds the class.
pub from_archive : (contents : Option Contents) (old new : Option (List (List ℕ))) (r : RunRequest) (bytes : List ℕ) (now : Folders) (classes : List PlainClass) (held : List ℕ) (before after : Option (List ℕ)) (ended : Ended) → Maps bytes (Some now) (Ok classes) → class_in classes r.name ≡ Some held
    → FileAnswers (Some held) r.steps before after ended → new ≡ old → MappedAnswers contents old new [] r bytes now before after ended
from_archive contents old new r bytes now classes held before after ended mapped is h e =
    taken_or_fault contents old new r bytes now before after ended (record {
      found = Some held;
      paths = [];
      from = inl (held, record { classes = classes; mapped = mapped; held = is }, refl, refl);
      answer = h;
      reads = no_class old new ended e;
    })

-- ---- what was read before

taken_behind : (contents : Option Contents) (a b c : Option (List (List ℕ))) (first : List (List ℕ)) (r : RunRequest) (bytes : List ℕ) (now : Folders) (before after : Option (List ℕ)) (ended : Ended) → ReadsBy a b first
    → Taken contents b c [] r bytes now before after ended → Taken contents a c first r bytes now before after ended
taken_behind contents a b c first r bytes now before after ended h t = record {
  found = t.found;
  paths = t.paths;
  from = t.from;
  answer = t.answer;
  reads = behind_first a b c first t.paths ended h t.reads;
}

pub behind : (contents : Option Contents) (a b c : Option (List (List ℕ))) (first : List (List ℕ)) (r : RunRequest) (bytes : List ℕ) (now : Folders) (before after : Option (List ℕ)) (ended : Ended) → ReadsBy a b first
    → MappedAnswers contents b c [] r bytes now before after ended → MappedAnswers contents a c first r bytes now before after ended
behind contents a b c first r bytes now before after (Exit code) h m = taken_behind contents a b c first r bytes now before after (Exit code) h m
behind contents a b c first r bytes now before after Usage h m = absurd m
behind contents a b c first r bytes now before after (BadText number) h m = absurd m
behind contents a b c first r bytes now before after NoBoot h m = absurd m
behind contents a b c first r bytes now before after NoMain h m = taken_behind contents a b c first r bytes now before after NoMain h m
behind contents a b c first r bytes now before after Missing h m = absurd m
behind contents a b c first r bytes now before after (NotShared refuse) h m = (record { on = m.0.on; refused = m.0.refused; reads = behind_first a b c first [] Usage h m.0.reads }, m.1)
behind contents a b c first r bytes now before after Stopped h m = taken_behind contents a b c first r bytes now before after Stopped h m
behind contents a b c first r bytes now before after Unsupported h m = taken_behind contents a b c first r bytes now before after Unsupported h m
behind contents a b c first r bytes now before after ReadFault h m = (behind_first a b c first [] Usage h m.0, m.1)
behind contents a b c first r bytes now before after WriteFault h m = taken_behind contents a b c first r bytes now before after WriteFault h m
behind contents a b c first r bytes now before after (Limit quantity limit) h m = taken_behind contents a b c first r bytes now before after (Limit quantity limit) h m
behind contents a b c first r bytes now before after Memory h (inl m) = inl (behind_first a b c first [] Usage h m.0, m.1)
behind contents a b c first r bytes now before after Memory h (inr m) = inr (taken_behind contents a b c first r bytes now before after Memory h m)

-- ---- where memory runs out behind an answer

opens_memory : (contents : Option Contents) (old new : Option (List (List ℕ))) (folder archive : List ℕ) (ended : Ended) → OpensNot contents old new folder archive ended → OpensNot contents old new folder archive Memory
opens_memory contents old new folder archive (Exit code) h = absurd h
opens_memory contents old new folder archive Usage h = absurd h
opens_memory contents old new folder archive (BadText number) h = absurd h
opens_memory contents old new folder archive NoBoot h = absurd h
opens_memory contents old new folder archive NoMain h = absurd h
opens_memory contents old new folder archive Missing h = absurd h
opens_memory contents old new folder archive (NotShared refuse) h = absurd h
opens_memory contents old new folder archive Stopped h = absurd h
opens_memory contents old new folder archive Unsupported h = absurd h
opens_memory contents old new folder archive ReadFault h = h
opens_memory contents old new folder archive WriteFault h = absurd h
opens_memory contents old new folder archive (Limit FileSize limit) (z, inl h) = front_archive old new archive None h.1
opens_memory contents old new folder archive (Limit FileSize limit) (z, inr h) = front_archive old new archive h.0.read.found h.1
opens_memory contents old new folder archive (Limit Names limit) h = front_archive old new archive h.1.read.found h.2
opens_memory contents old new folder archive (Limit Classes limit) h = absurd h
opens_memory contents old new folder archive (Limit ArchiveSize limit) h = absurd h
opens_memory contents old new folder archive (Limit Loaded limit) h = absurd h
opens_memory contents old new folder archive Memory h = h

taken_memory : (contents : Option Contents) (old new : Option (List (List ℕ))) (first : List (List ℕ)) (r : RunRequest) (bytes : List ℕ) (now : Folders) (before after : Option (List ℕ)) (ended : Ended)
    → Taken contents old new first r bytes now before after ended → Taken contents old new first r bytes now before after Memory
taken_memory contents old new first r bytes now before after ended t = record {
  found = t.found;
  paths = t.paths;
  from = t.from;
  answer = file_memory t.found r.steps before after ended t.answer;
  reads = class_memory old new first t.paths ended t.reads;
}

mapped_memory : (contents : Option Contents) (old new : Option (List (List ℕ))) (first : List (List ℕ)) (r : RunRequest) (bytes : List ℕ) (now : Folders) (before after : Option (List ℕ)) (ended : Ended)
    → MappedAnswers contents old new first r bytes now before after ended → MappedAnswers contents old new first r bytes now before after Memory
mapped_memory contents old new first r bytes now before after (Exit code) m = inr (taken_memory contents old new first r bytes now before after (Exit code) m)
mapped_memory contents old new first r bytes now before after Usage m = absurd m
mapped_memory contents old new first r bytes now before after (BadText number) m = absurd m
mapped_memory contents old new first r bytes now before after NoBoot m = absurd m
mapped_memory contents old new first r bytes now before after NoMain m = inr (taken_memory contents old new first r bytes now before after NoMain m)
mapped_memory contents old new first r bytes now before after Missing m = absurd m
mapped_memory contents old new first r bytes now before after (NotShared refuse) m = inl (m.0.reads, m.1)
mapped_memory contents old new first r bytes now before after Stopped m = inr (taken_memory contents old new first r bytes now before after Stopped m)
mapped_memory contents old new first r bytes now before after Unsupported m = inr (taken_memory contents old new first r bytes now before after Unsupported m)
mapped_memory contents old new first r bytes now before after ReadFault m = inl m
mapped_memory contents old new first r bytes now before after WriteFault m = inr (taken_memory contents old new first r bytes now before after WriteFault m)
mapped_memory contents old new first r bytes now before after (Limit quantity limit) m = inr (taken_memory contents old new first r bytes now before after (Limit quantity limit) m)
mapped_memory contents old new first r bytes now before after Memory m = m

archive_memory : (contents : Option Contents) (old new : Option (List (List ℕ))) (r : RunRequest) (before after : Option (List ℕ)) (ended : Ended)
    → ArchiveAnswers contents old new r before after ended → ArchiveAnswers contents old new r before after Memory
archive_memory contents old new r before after ended (inl h) = inl (opens_memory contents old new r.folder r.archive ended h.0, h.1)
archive_memory contents old new r before after ended (inr (o, m)) = inr (o, mapped_memory contents old new (archive_reads r.archive o.read.found) r (archive_bytes o.read.found) o.now before after ended m)

pub run_memory : (old new : Option Store) (r : RunRequest) (before after : Option (List ℕ)) (ended : Ended) → RunAnswers old new r before after ended → RunAnswers old new r before after Memory
run_memory old new r before after ended h = archive_memory (contents_told old) (reads_told old) (reads_told new) r before after ended h

-- ---- the steps of a run with an archive

-- Each class of an archive is no larger than the archive.
held_in : (classes : List PlainClass) (name held : List ℕ) → class_in classes name ≡ Some held → length held ≤ length (classes_text classes)
held_in [] name held e = absurd cc
held_in (c ∷ classes) name held e = by (bytes_eq c.name name) refl (held_in classes name held)
  where
    sizes : length (classes_text (c ∷ classes)) ≡ length (low_text c.name) + (length (low_text c.bytes) + length (classes_text classes))
    sizes = omega (arith, length-append (low_text c.name ++ low_text c.bytes) (classes_text classes), length-append (low_text c.name) (low_text c.bytes))

    more : length c.bytes ≤ length (low_text c.bytes)
    more = omega arith

    by : (t : Bool) → bytes_eq c.name name ≡ t → (class_in classes name ≡ Some held → length held ≤ length (classes_text classes)) → length held ≤ length (classes_text (c ∷ classes))
    by true f rest = let same : c.bytes ≡ held = cc in omega (arith, sizes, more, ap length same)
    by false f rest = let later : class_in classes name ≡ Some held = cc in omega (arith, sizes, rest later)

pub small_in : (bytes : List ℕ) (now : Option Folders) (classes : List PlainClass) → IsMapped bytes now classes → length bytes ≤ MAX_FILE → IsSmallIn classes
small_in bytes now classes mapped small = λ name held e.
    omega (arith, held_in classes name held e, length-archive classes mapped.kept, ap length mapped.archive.written, small)

pub opened_then : (c0 c1 : Option Contents) (a b c : Option (List (List ℕ))) (r : RunRequest) (both : ArchiveAndManifest) (before after : Option (List ℕ)) (ended : Ended)
    → OpensAs c0 a b r.folder r.archive (Ok both) → c1 ≡ c0 → MappedAnswers c1 b c [] r both.archive.items both.manifest before after ended → ArchiveAnswers c0 a c r before after ended
opened_then c0 c1 a b c r both before after ended o same m =
    let of_contents = subst (λ (x : Option Contents). MappedAnswers x b c [] r both.archive.items both.manifest before after ended) same m in
    let of_bytes = subst (λ (x : List ℕ). MappedAnswers c0 b c [] r x both.manifest before after ended) (sym o.1) of_contents in
    let of_now = subst (λ (x : Folders). MappedAnswers c0 b c [] r (archive_bytes o.0.read.found) x before after ended) (sym o.2) of_bytes in
    inr (o.0, behind c0 a b c (archive_reads r.archive o.0.read.found) r (archive_bytes o.0.read.found) o.0.now before after ended o.3 of_now)
