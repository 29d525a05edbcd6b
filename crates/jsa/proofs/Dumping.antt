-- What a dump answers, from what its steps answer.
use Rattle.std.proofs.Common.{◌≡◌, ◌≢◌, ◌∙◌, ◌≤◌, ◌⊎◌, inl, inr, ℕ, List, Option, Some, None, refl, sym, ap, subst, length, arith}
use Rattle.std.specs.Prelude.{unwrap_or, [], Ok, Err}
use Rattle.jsa_base.specs.declared.quantity.Quantity.TheVariants.{FileSize, Names, Classes, ArchiveSize, Loaded}
use Rattle.jsa_files.specs.declared.fault.FilesFault.{FilesFault}
use Rattle.jsa_files.specs.declared.fault.FilesFault.TheVariants as answers
use Rattle.jsa_files.specs.Store.{Contents}
use Rattle.archive_header.specs.Manifests.{MakesSmall}
use Rattle.jsa.specs.declared.ended.Ended.{Ended}
use Rattle.jsa.specs.declared.ended.Ended.TheVariants.{Exit, Usage, BadText, NoBoot, NoMain, Missing, NotShared, Stopped, Unsupported, ReadFault, WriteFault, Limit, Memory}
use Rattle.command_words.specs.Words.{DumpRequest}
use Rattle.jsa.specs.Faults.{end_of}
use Rattle.jsa.specs.Archived.{lists_of, MakesOf}
use Rattle.command_words.specs.ClassList.{listed_once}
use Rattle.std.proofs.lemmas.Bool.{cases_lt}
use Rattle.std.specs.Prelude.{◌<◌, IsTrue}
use Rattle.archive_header.specs.declared.folders.Folders.{Folders}
use Rattle.plain_classes.specs.declared.class.PlainClass.{PlainClass}
use Rattle.plain_classes.specs.Archives.{archive_text, has_one_folder}
use Rattle.archive_dump.specs.Dumping.{IsFew, IsSmall, IsDump}
use Rattle.archive_dump.proofs.Dumps.{are_archives}
use Rattle.jsa.specs.Dumps.{Listed, Prepared, Gathered, Dumped, HasClasses, names_listed, IsFirst, BeginsToWrite, DumpAnswers}
use Rattle.jsa.specs.Steps.{HasNot, StopsAt, ListsNot, WritesArchive, IsOfArchive, subject_at}
use Rattle.jsa.proofs.Distinct.{are_records, are_listed_once}
use Rattle.jsa_files.proofs.Taken.{front_of_whole}
use Rattle.jsa_files.specs.Told.{Holds}
use Rattle.jsa.specs.Command.{CountsReads, CountsDump, OthersStay}
use Rattle.std.specs.FinMap.{get, insert}
use Rattle.jsa.proofs.Inserted.{get_other}
use Rattle.archive_dump.specs.declared.dump.TheConstants.{MAX_CLASSES, MAX_ARCHIVE}

-- The manifest can't be made.
pub manifest_fails : (old new : Option Contents) (faults : ℕ × ℕ) (d : DumpRequest) (before : Option (List ℕ)) (subject : List ℕ) (list : Listed old d) (fault : FilesFault) → MakesOf old (lists_of d.folder) (Err fault) → MakesSmall (Err fault) → new ≡ old
    → DumpAnswers old new faults d before before subject (end_of fault)
manifest_fails old new faults d before subject list answers.Failed made small e = (e, refl)
manifest_fails old new faults d before subject list (answers.TooLarge size) made small e = ((refl, inr (inl (record { list = list; size = size; passes = small; made = made }))), e, refl)
manifest_fails old new faults d before subject list (answers.TooMany count) made small e = ((refl, record { list = list; count = count; passes = small; made = made }), e, refl)
manifest_fails old new faults d before subject list answers.Memory made small e = inl (e, refl)

-- The classes can't be had.
pub stops : (old new : Option Contents) (faults : ℕ × ℕ) (d : DumpRequest) (before : Option (List ℕ)) (p : Prepared old d) (names : List (List ℕ)) (place : ℕ) (ended : Ended) → names_listed p ≡ names → StopsAt old d.folder names ended place → new ≡ old
    → DumpAnswers old new faults d before before (subject_at names place) ended
stops old new faults d before p names place ended is s e =
    by_cases ended (subst (λ (l : List (List ℕ)). IsFirst old d.folder l (λ n. HasNot old d.folder n ended) (subject_at names place)) (sym is)
    (subst (λ (n : List ℕ). IsFirst old d.folder names (λ n. HasNot old d.folder n ended) n) (ap (λ (o : Option (List ℕ)). unwrap_or o []) (sym s.at)) s.first))
  where
    by_cases : (ended : Ended) → IsFirst old d.folder (names_listed p) (λ n. HasNot old d.folder n ended) (subject_at names place) → DumpAnswers old new faults d before before (subject_at names place) ended
    by_cases Unsupported f = ((p, f), e, refl)
    by_cases (Limit FileSize limit) f = ((f.said.0, inr (inr (p, subject_at names place, record { front = f.front; rest = f.rest; among = f.among; classes = f.classes; before = f.before; said = f.said.1 }))), e, refl)
    by_cases (Limit Names limit) f = absurd f.said
    by_cases (Limit Classes limit) f = absurd f.said
    by_cases (Limit ArchiveSize limit) f = absurd f.said
    by_cases (Limit Loaded limit) f = absurd f.said
    by_cases ReadFault f = (e, refl)
    by_cases Memory f = inl (e, refl)
    by_cases (Exit code) f = absurd f.said
    by_cases Usage f = absurd f.said
    by_cases (BadText number) f = absurd f.said
    by_cases NoBoot f = absurd f.said
    by_cases NoMain f = absurd f.said
    by_cases Missing f = absurd f.said
    by_cases (NotShared refuse) f = absurd f.said
    by_cases Stopped f = absurd f.said
    by_cases WriteFault f = absurd f.said

-- The list can't be had.
pub no_list : (old new : Option Contents) (faults : ℕ × ℕ) (d : DumpRequest) (before : Option (List ℕ)) (ended : Ended) → ListsNot old d ended → new ≡ old → DumpAnswers old new faults d before before d.list ended
no_list old new faults d before Missing h e = (h, e, refl)
no_list old new faults d before (Limit FileSize limit) h e = ((h.0, inl h.1), e, refl)
no_list old new faults d before (Limit Names limit) h e = absurd h
no_list old new faults d before (Limit Classes limit) h e = absurd h
no_list old new faults d before (Limit ArchiveSize limit) h e = absurd h
no_list old new faults d before (Limit Loaded limit) h e = absurd h
no_list old new faults d before ReadFault h e = (e, refl)
no_list old new faults d before Memory h e = inl (e, refl)
no_list old new faults d before (Exit code) h e = absurd h
no_list old new faults d before Usage h e = absurd h
no_list old new faults d before (BadText number) h e = absurd h
no_list old new faults d before NoBoot h e = absurd h
no_list old new faults d before NoMain h e = absurd h
no_list old new faults d before (NotShared refuse) h e = absurd h
no_list old new faults d before Stopped h e = absurd h
no_list old new faults d before Unsupported h e = absurd h
no_list old new faults d before WriteFault h e = absurd h

-- Memory runs out behind an answer.
pub dump_memory : (old new : Option Contents) (faults : ℕ × ℕ) (d : DumpRequest) (before after : Option (List ℕ)) (subject : List ℕ) (ended : Ended) → DumpAnswers old new faults d before after subject ended → DumpAnswers old new faults d before after subject Memory
dump_memory old new faults d before after subject (Exit code) h = inr (h.1, inr (h.2, front_of_whole before after _ h.3))
dump_memory old new faults d before after subject Missing h = inl (h.1, h.2)
dump_memory old new faults d before after subject Unsupported h = inl (h.1, h.2)
dump_memory old new faults d before after subject (Limit quantity limit) h = inl (h.1, h.2)
dump_memory old new faults d before after subject ReadFault h = inl h
dump_memory old new faults d before after subject WriteFault h = inr h
dump_memory old new faults d before after subject Memory h = h
dump_memory old new faults d before after subject Usage h = absurd h
dump_memory old new faults d before after subject (BadText number) h = absurd h
dump_memory old new faults d before after subject NoBoot h = absurd h
dump_memory old new faults d before after subject NoMain h = absurd h
dump_memory old new faults d before after subject (NotShared refuse) h = absurd h
dump_memory old new faults d before after subject Stopped h = absurd h

pub counts_memory : (files files' out out' : ℕ) (ended : Ended) → CountsDump files files' out out' ended → CountsDump files files' out out' Memory
counts_memory files files' out out' (Exit code) h = (omega (arith, h.0), omega (arith, h.1))
counts_memory files files' out out' Usage h = (omega (arith, h.0), omega (arith, h.1))
counts_memory files files' out out' (BadText number) h = (omega (arith, h.0), omega (arith, h.1))
counts_memory files files' out out' NoBoot h = (omega (arith, h.0), omega (arith, h.1))
counts_memory files files' out out' NoMain h = (omega (arith, h.0), omega (arith, h.1))
counts_memory files files' out out' Missing h = (omega (arith, h.0), omega (arith, h.1))
counts_memory files files' out out' (NotShared refuse) h = (omega (arith, h.0), omega (arith, h.1))
counts_memory files files' out out' Stopped h = (omega (arith, h.0), omega (arith, h.1))
counts_memory files files' out out' Unsupported h = (omega (arith, h.0), omega (arith, h.1))
counts_memory files files' out out' ReadFault h = (omega (arith, h.0), omega (arith, h.1))
counts_memory files files' out out' WriteFault (inl h) = (h.0, omega (arith, h.2))
counts_memory files files' out out' WriteFault (inr h) = (omega (arith, h.0), h.1)
counts_memory files files' out out' (Limit quantity limit) h = (omega (arith, h.0), omega (arith, h.1))
counts_memory files files' out out' Memory h = h

-- ---- the archive

not_few : (classes : List PlainClass) → (IsFew classes → ⊥) → MAX_CLASSES < length classes
not_few classes h = by (cases_lt MAX_CLASSES (length classes))
  where
    by : (MAX_CLASSES < length classes) ⊎ (length classes ≤ MAX_CLASSES) → MAX_CLASSES < length classes
    by (inl above) = above
    by (inr below) = absurd (h below)

not_small : (classes : List PlainClass) (folders : Folders) → (IsSmall classes folders → ⊥) → MAX_ARCHIVE < length (archive_text classes folders)
not_small classes folders h = by (cases_lt MAX_ARCHIVE (length (archive_text classes folders)))
  where
    by : (MAX_ARCHIVE < length (archive_text classes folders)) ⊎ (length (archive_text classes folders) ≤ MAX_ARCHIVE) → MAX_ARCHIVE < length (archive_text classes folders)
    by (inl above) = above
    by (inr below) = absurd (h below)

-- The classes are too many.
pub too_many : (old new : Option Contents) (faults : ℕ × ℕ) (d : DumpRequest) (before : Option (List ℕ)) (subject : List ℕ) (g : Gathered old d) (classes : List PlainClass) → g.classes ≡ classes → (IsFew classes → ⊥) → new ≡ old
    → DumpAnswers old new faults d before before subject (Limit Classes MAX_CLASSES)
too_many old new faults d before subject g classes is h e = ((refl, record { gathered = g; passes = not_few g.classes (subst (λ (c : List PlainClass). IsFew c → ⊥) (sym is) h) }), e, refl)

-- The archive is too large.
pub too_large : (old new : Option Contents) (faults : ℕ × ℕ) (d : DumpRequest) (before : Option (List ℕ)) (subject : List ℕ) (g : Gathered old d) (classes : List PlainClass) (now : Folders) → g.classes ≡ classes → g.prepared.now ≡ now → IsFew classes → (IsSmall classes now → ⊥) → new ≡ old
    → DumpAnswers old new faults d before before subject (Limit ArchiveSize MAX_ARCHIVE)
too_large old new faults d before subject g classes now is is' few h e = (
  (
    refl,
    record {
      gathered = g;
      few = subst IsFew (sym is) few;
      passes = not_small g.classes g.prepared.now (subst (λ (c : List PlainClass). IsSmall c g.prepared.now → ⊥) (sym is) (subst (λ (f : Folders). IsSmall classes f → ⊥) (sym is') h));
    },
  ),
  e,
  refl,
)

-- What is written is the archive of the gathered classes.
abbrev dumped : (old : Option Contents) (d : DumpRequest) (g : Gathered old d) (archive : List ℕ) → IsDump archive g.classes g.prepared.now → IsTrue (has_one_folder g.prepared.now) → Dumped old d
dumped old d g archive is one = record {
  gathered = g;
  few = is.few;
  archive = archive;
  is = are_archives archive g.classes g.prepared.now is (are_records old d.folder (names_listed g.prepared) g.classes g.each) (are_listed_once old d.folder g.prepared.list.bytes g.classes g.each) one;
  small = subst (λ (b : List ℕ). length b ≤ MAX_ARCHIVE) (sym is.written) is.small;
}

wrote : (old new : Option Contents) (faults : ℕ × ℕ) (d : DumpRequest) (before after : Option (List ℕ)) (subject : List ℕ) (x : Dumped old d) (ended : Ended) → WritesArchive old new faults d.archive x.archive (length x.gathered.classes) before after ended
    → DumpAnswers old new faults d before after subject ended
wrote old new faults d before after subject x (Exit code) h = (h.0, x, h.1, h.2)
wrote old new faults d before after subject x WriteFault h = (x, h)
wrote old new faults d before after subject x Memory (inl h) = inl h
wrote old new faults d before after subject x Memory (inr h) = inr (x, inr h)
wrote old new faults d before after subject x Usage h = absurd h
wrote old new faults d before after subject x (BadText number) h = absurd h
wrote old new faults d before after subject x NoBoot h = absurd h
wrote old new faults d before after subject x NoMain h = absurd h
wrote old new faults d before after subject x Missing h = absurd h
wrote old new faults d before after subject x (NotShared refuse) h = absurd h
wrote old new faults d before after subject x Stopped h = absurd h
wrote old new faults d before after subject x Unsupported h = absurd h
wrote old new faults d before after subject x ReadFault h = absurd h
wrote old new faults d before after subject x (Limit quantity limit) h = absurd h

pub writes : (old new : Option Contents) (faults : ℕ × ℕ) (d : DumpRequest) (before after : Option (List ℕ)) (subject : List ℕ) (g : Gathered old d) (classes : List PlainClass) (now : Folders) (archive : List ℕ) (ended : Ended) → g.classes ≡ classes → g.prepared.now ≡ now
    → IsDump archive classes now → IsTrue (has_one_folder now) → WritesArchive old new faults d.archive archive (length classes) before after ended → DumpAnswers old new faults d before after subject ended
writes old new faults d before after subject g classes now archive ended is is' dump one h =
    let of_classes : IsDump archive g.classes now = subst (λ (c : List PlainClass). IsDump archive c now) (sym is) dump in
    let of_both : IsDump archive g.classes g.prepared.now = subst (IsDump archive g.classes) (sym is') of_classes in
    wrote old new faults d before after subject (dumped old d g archive of_both (subst (λ (f : Folders). IsTrue (has_one_folder f)) (sym is') one)) ended
    (subst (λ (c : List PlainClass). WritesArchive old new faults d.archive archive (length c) before after ended) (sym is) h)

-- ---- the steps of a dump

-- The classes of the names were gathered, which left what the store holds.
pub gathered_then : (old mid new : Option Contents) (faults : ℕ × ℕ) (d : DumpRequest) (before after : Option (List ℕ)) (subject : List ℕ) (p : Prepared old d) (folder : List ℕ) (names : List (List ℕ)) (classes : List PlainClass) (now : Folders) (ended : Ended) → mid ≡ old → folder ≡ d.folder → names_listed p ≡ names → p.now ≡ now
    → HasClasses old folder names classes → ((g : Gathered mid d) → g.classes ≡ classes → g.prepared.now ≡ now → (name : List ℕ) → DumpAnswers mid new faults d before after name ended) → DumpAnswers old new faults d before after subject ended
gathered_then old mid new faults d before after subject p folder names classes now ended e same is is' has h =
    let in_folder = subst (λ (f : List ℕ). HasClasses old f names classes) same has in
    let of_list = subst (λ (l : List (List ℕ)). HasClasses old d.folder l classes) (sym is) in_folder in
    subst (λ (m : Option Contents). (g : Gathered m d) → g.classes ≡ classes → g.prepared.now ≡ now → (name : List ℕ) → DumpAnswers m new faults d before after name ended) e h
    (record { prepared = p; classes = classes; each = of_list }) refl is' subject

-- The manifest was made, which left what the store holds.
pub prepared_then : (old mid new : Option Contents) (faults : ℕ × ℕ) (d : DumpRequest) (before after : Option (List ℕ)) (subject : List ℕ) (l : Listed old d) (folder : List ℕ) (names : List (List ℕ)) (now : Folders) (ended : Ended) → mid ≡ old → folder ≡ d.folder → listed_once l.bytes ≡ names
    → MakesOf old (lists_of folder) (Ok now) → ((p : Prepared mid d) → names_listed p ≡ names → p.now ≡ now → DumpAnswers mid new faults d before after subject ended) → DumpAnswers old new faults d before after subject ended
prepared_then old mid new faults d before after subject l folder names now ended e same is made h =
    subst (λ (m : Option Contents). (p : Prepared m d) → names_listed p ≡ names → p.now ≡ now → DumpAnswers m new faults d before after subject ended) e h
    (record { list = l; now = now; made = subst (λ (f : List ℕ). MakesOf old (lists_of f) (Ok now)) same made }) is refl

pub not_read : (before now : ℕ) (ended : Ended) → IsOfArchive ended → now ≡ before → CountsReads before now ended
not_read before now (Exit code) h e = e
not_read before now WriteFault h e = e
not_read before now (Limit quantity limit) h e = e
not_read before now Memory h e = omega (arith, e)
not_read before now Usage h e = absurd h
not_read before now (BadText number) h e = absurd h
not_read before now NoBoot h e = absurd h
not_read before now NoMain h e = absurd h
not_read before now Missing h e = absurd h
not_read before now (NotShared refuse) h e = absurd h
not_read before now Stopped h e = absurd h
not_read before now Unsupported h e = absurd h
not_read before now ReadFault h e = absurd h

pub no_read_fault : (ended : Ended) (P : Type 0) → IsOfArchive ended → ended ≡ ReadFault → P
no_read_fault ended P h e = absurd (subst IsOfArchive e h)

pub not_missing : (ended : Ended) → IsOfArchive ended → ended ≢ Missing
not_missing ended h = λ e. subst IsOfArchive e h

pub found_no_missing : (contents : Option Contents) (folder : List ℕ) (names : List (List ℕ)) (ended : Ended) (place : ℕ) → StopsAt contents folder names ended place → ended ≢ Missing
found_no_missing contents folder names ended place s = λ e. subst (λ (x : Ended). HasNot contents folder s.name x) e s.first.said

pub fault_no_missing : (fault : FilesFault) → end_of fault ≢ Missing
fault_no_missing answers.Failed e = absurd cc
fault_no_missing (answers.TooLarge size) e = absurd cc
fault_no_missing (answers.TooMany count) e = absurd cc
fault_no_missing answers.Memory e = absurd cc

-- ---- what a dump leaves

others_same : (written : List ℕ) (old new : Option Contents) → new ≡ old → OthersStay written old new
others_same written None new e = e
others_same written (Some old) None e = absurd cc
others_same written (Some old) (Some new) e = λ path other. let same : new ≡ old = cc in ap (λ (c : Contents). get c path) same

others_held : (written bytes : List ℕ) (old new : Option Contents) → Holds old new written bytes → OthersStay written old new
others_held written bytes None new e = e
others_held written bytes (Some old) None e = absurd cc
others_held written bytes (Some old) (Some new) e = λ path other.
    let is : new ≡ insert old written bytes = cc in
    ap (λ (c : Contents). get c path) is ∙ get_other old written bytes path other

leaves_begun : (old new : Option Contents) (faults : ℕ × ℕ) (d : DumpRequest) (before after : Option (List ℕ)) → BeginsToWrite old new faults d before after → OthersStay d.archive old new
leaves_begun old new faults d before after (x, inl (inl e, rose, out)) = others_same d.archive old new e
leaves_begun old new faults d before after (x, inl (inr f, rose, out)) = others_held d.archive f.front old new f.holds
leaves_begun old new faults d before after (x, inr (h, out)) = others_held d.archive x.archive old new h

pub leaves : (old new : Option Contents) (faults : ℕ × ℕ) (d : DumpRequest) (before after : Option (List ℕ)) (subject : List ℕ) (ended : Ended) → DumpAnswers old new faults d before after subject ended → OthersStay d.archive old new
leaves old new faults d before after subject (Exit code) h = others_held d.archive h.1.archive old new h.2
leaves old new faults d before after subject Missing h = others_same d.archive old new h.1
leaves old new faults d before after subject Unsupported h = others_same d.archive old new h.1
leaves old new faults d before after subject (Limit quantity limit) h = others_same d.archive old new h.1
leaves old new faults d before after subject ReadFault h = others_same d.archive old new h.0
leaves old new faults d before after subject WriteFault h = leaves_begun old new faults d before after h
leaves old new faults d before after subject Memory (inl h) = others_same d.archive old new h.0
leaves old new faults d before after subject Memory (inr h) = leaves_begun old new faults d before after h
leaves old new faults d before after subject Usage h = absurd h
leaves old new faults d before after subject (BadText number) h = absurd h
leaves old new faults d before after subject NoBoot h = absurd h
leaves old new faults d before after subject NoMain h = absurd h
leaves old new faults d before after subject (NotShared refuse) h = absurd h
leaves old new faults d before after subject Stopped h = absurd h

-- The list was read, which left what the store holds.
pub listed_then : (old mid : Option Contents) (d : DumpRequest) (given names : List (List ℕ)) (P : Type 0) → mid ≡ old → given ≡ names → (l : Listed old d) → listed_once l.bytes ≡ names → ((l : Listed mid d) → listed_once l.bytes ≡ given → P) → P
listed_then old mid d given names P e same l is h = subst (λ (m : Option Contents). (l : Listed m d) → listed_once l.bytes ≡ given → P) e h l (is ∙ sym same)
