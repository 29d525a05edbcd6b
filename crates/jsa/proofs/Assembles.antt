-- What an assembly answers, from what its steps answer.
use Rattle.std.proofs.Common.{◌≡◌, ◌≢◌, ◌∙◌, ◌⊎◌, inl, inr, ℕ, suc, List, [], ◌∷◌, ◌++◌, Option, Some, None, refl, sym, ap, subst, arith, length, ◌<◌}
use Rattle.std.specs.Prelude.{Result, Ok, Err}
use Rattle.std.specs.Global.{Vec}
use Rattle.std.specs.List.{cons_option, AllByRecursion}
use Rattle.std.specs.FinMap.{get, insert}
use Rattle.std.specs.Option.{option_map, option_and_then}
use Rattle.std.proofs.lemmas.List.{append-nil, append_assoc}
use Rattle.jsa_base.specs.declared.quantity.Quantity.TheVariants.{FileSize, Names, Classes, ArchiveSize, Loaded}
use Rattle.jsa_base.proofs.Codecs.{some_is}
use Rattle.jsa_files.specs.declared.TheConstants.{MAX_FILE}
use Rattle.jsa_files.specs.declared.fault.FilesFault.{FilesFault}
use Rattle.jsa_files.specs.declared.fault.FilesFault.TheVariants as answers
use Rattle.jsa_files.specs.Store.{Contents, Store, Writes, AnswersAsTold, store_after_read}
use Rattle.class_tree.specs.declared.tree.ClassTree.{ClassTree}
use Rattle.class_asm.specs.Assembly.{assembled}
use Rattle.jsa.specs.declared.ended.Ended.{Ended}
use Rattle.jsa.specs.declared.ended.Ended.TheVariants.{Exit, Usage, BadText, NoBoot, NoMain, Missing, NotShared, Stopped, Unsupported, ReadFault, WriteFault, Limit, Memory}
use Rattle.command_words.specs.Words.{AsmRequest}
use Rattle.jsa_files.specs.Told.{contents_told, reads_told, ReadsBy, HoldsFront}
use Rattle.jsa.specs.Runs.{ReadsPath}
use Rattle.jsa.specs.Assembles.{HasText, IsAssembled, files_asked, AsmAnswers, IsNoneOf, AsmLeaves}
use Rattle.class_folder.specs.ClassFiles.{File, files_of, with_files, after_files, WritesSome, FailsAt, WritesFiles}
use Rattle.class_folder.specs.ClassFiles as counted
use Rattle.boot_library.proofs.Making.{text_files}
use Rattle.jsa.specs.Steps.{end_of_writes, IsOfText}
use Rattle.jsa.specs.Command.{CountsReads, CountsWrites}
use Rattle.jsa.proofs.Inserted.{get_other}
use Rattle.jsa.proofs.Ends.{large_told}
use Rattle.jsa.proofs.Growth.{written, read_reads}

-- ---- the text

abbrev text_is : (old : Option Contents) (a : AsmRequest) (t : HasText old a) (trees : List ClassTree) → assembled t.text ≡ Ok trees → IsAssembled old a
text_is old a t trees is = record { has = t; trees = trees; is = is }

-- The classes of a text were written, or why not.
pub asm_written : {T : Type 0} (old new : Option Contents) (faults : ℕ × ℕ) (a : AsmRequest) (t : HasText old a) (trees : List ClassTree) (r : Result T FilesFault) → assembled t.text ≡ Ok trees → WritesFiles old new faults (files_of a.folder trees) r → AsmAnswers old new faults a (end_of_writes r)
asm_written old new faults a t trees (Ok x) is h = (refl, text_is old a t trees is, text_files t.text a.folder trees is, h)
asm_written old new faults a t trees (Err answers.Failed) is h = (text_is old a t trees is, h.0, h.1)
asm_written old new faults a t trees (Err answers.Memory) is h = inr (inl (text_is old a t trees is, h))
asm_written old new faults a t trees (Err (answers.TooLarge size)) is h = absurd h
asm_written old new faults a t trees (Err (answers.TooMany count)) is h = absurd h

pub of_writes : {T : Type 0} (r : Result T FilesFault) → IsOfText (end_of_writes r)
of_writes (Ok x) = tt
of_writes (Err answers.Failed) = tt
of_writes (Err answers.Memory) = tt
of_writes (Err (answers.TooLarge size)) = tt
of_writes (Err (answers.TooMany count)) = tt

pub counts_of : {T : Type 0} (before now : ℕ) (r : Result T FilesFault) → counted.CountsWrites before now r → CountsWrites before now (end_of_writes r)
counts_of before now (Ok x) h = h
counts_of before now (Err answers.Failed) h = h
counts_of before now (Err answers.Memory) h = omega (arith, h)
counts_of before now (Err (answers.TooLarge size)) h = omega (arith, h)
counts_of before now (Err (answers.TooMany count)) h = omega (arith, h)

pub reads_of_text : (old new : Option (List (List ℕ))) (path : List ℕ) (ended : Ended) → IsOfText ended → ReadsBy old new (path ∷ []) → ReadsPath old new path ended
reads_of_text old new path (Exit code) k h = h
reads_of_text old new path (BadText number) k h = h
reads_of_text old new path WriteFault k h = h
reads_of_text old new path Memory k h = inr h
reads_of_text old new path Usage k h = absurd k
reads_of_text old new path NoBoot k h = absurd k
reads_of_text old new path NoMain k h = absurd k
reads_of_text old new path Missing k h = absurd k
reads_of_text old new path (NotShared refuse) k h = absurd k
reads_of_text old new path Stopped k h = absurd k
reads_of_text old new path Unsupported k h = absurd k
reads_of_text old new path ReadFault k h = absurd k
reads_of_text old new path (Limit quantity limit) k h = absurd k

pub text_not_read : (before now : ℕ) (ended : Ended) → IsOfText ended → now ≡ before → CountsReads before now ended
text_not_read before now (Exit code) k e = e
text_not_read before now (BadText number) k e = e
text_not_read before now WriteFault k e = e
text_not_read before now Memory k e = omega (arith, e)
text_not_read before now Usage k e = absurd k
text_not_read before now NoBoot k e = absurd k
text_not_read before now NoMain k e = absurd k
text_not_read before now Missing k e = absurd k
text_not_read before now (NotShared refuse) k e = absurd k
text_not_read before now Stopped k e = absurd k
text_not_read before now Unsupported k e = absurd k
text_not_read before now ReadFault k e = absurd k
text_not_read before now (Limit quantity limit) k e = absurd k

-- The text is too large.
pub text_too_large : (store new : Option Store) (faults : ℕ × ℕ) (a : AsmRequest) (size : ℕ) → AnswersAsTold store a.text (Err (answers.TooLarge size)) → MAX_FILE < size → contents_told new ≡ contents_told store
    → AsmAnswers (contents_told store) (contents_told new) faults a (Limit FileSize MAX_FILE)
text_too_large store new faults a size told passes e = (refl, large_told store a.text size told passes, e)

-- The text was read, which left what the store holds.
pub text_then : (old mid new : Option Contents) (f0 f1 f2 : ℕ) (a : AsmRequest) (t : HasText old a) (given : List ℕ) (ended : Ended) → mid ≡ old → f1 ≡ f0 → t.text ≡ given → ((t : HasText mid a) → t.text ≡ given → AsmAnswers mid new (f1, f2) a ended)
    → AsmAnswers old new (f0, f2) a ended
text_then old mid new f0 f1 f2 a t given ended e n is h =
    subst (λ (f : ℕ). AsmAnswers old new (f, f2) a ended) n (subst (λ (m : Option Contents). (t : HasText m a) → t.text ≡ given → AsmAnswers m new (f1, f2) a ended) e h t is)

pub text_reads : (store mid new : Option Store) (path : List ℕ) (text : Vec ℕ) (ended : Ended) → mid ≡ store_after_read store path (Ok (Some text)) → reads_told new ≡ reads_told mid → IsOfText ended → ReadsPath (reads_told store) (reads_told new) path ended
text_reads store mid new path text ended e same kind = reads_of_text (reads_told store) (reads_told new) path ended kind (same ∙ ap reads_told e ∙ read_reads store path (Some text))

-- ---- the answer

-- Memory runs out behind an answer.
pub asm_memory : (old new : Option Contents) (faults : ℕ × ℕ) (a : AsmRequest) (ended : Ended) → AsmAnswers old new faults a ended → AsmAnswers old new faults a Memory
asm_memory old new faults a (Exit code) h = inr (inl (h.1, record { done = files_asked h.1; rest = []; among = sym (append-nil (files_asked h.1)); holds = h.3 }))
asm_memory old new faults a Missing h = inl h.1
asm_memory old new faults a (BadText number) h = inl h.1
asm_memory old new faults a (Limit FileSize limit) h = inl h.2
asm_memory old new faults a (Limit Names limit) h = absurd h
asm_memory old new faults a (Limit Classes limit) h = absurd h
asm_memory old new faults a (Limit ArchiveSize limit) h = absurd h
asm_memory old new faults a (Limit Loaded limit) h = absurd h
asm_memory old new faults a Usage h = absurd h
asm_memory old new faults a NoBoot h = absurd h
asm_memory old new faults a NoMain h = absurd h
asm_memory old new faults a (NotShared refuse) h = absurd h
asm_memory old new faults a Stopped h = absurd h
asm_memory old new faults a Unsupported h = absurd h
asm_memory old new faults a ReadFault h = inl h
asm_memory old new faults a WriteFault h = inr (inr h)
asm_memory old new faults a Memory h = h

-- ---- what stays

none_front : (path : List ℕ) (done rest : List File) → IsNoneOf path (done ++ rest) → IsNoneOf path done
none_front path [] rest h = tt
none_front path (file ∷ done) rest h = (h.0, none_front path done rest h.1)

none_next : (path : List ℕ) (done : List File) (file : File) (rest : List File) → IsNoneOf path (done ++ file ∷ rest) → path ≢ file.path
none_next path [] file rest h = h.0
none_next path (first ∷ done) file rest h = none_next path done file rest h.1

-- A path that none of the files has holds what it held.
others_held : (contents : Contents) (files : List File) (path : List ℕ) → IsNoneOf path files → get (with_files contents files) path ≡ get contents path
others_held contents [] path h = refl
others_held contents (file ∷ files) path h = others_held (insert contents file.path file.bytes) files path h.1 ∙ get_other contents file.path file.bytes path h.0

asm_same : (a : AsmRequest) (old new : Option Contents) → new ≡ old → AsmLeaves a old new
asm_same a None new e = e
asm_same a (Some old) None e = absurd cc
asm_same a (Some old) (Some new) e = λ path others. ap (λ (c : Contents). get c path) (some_is new old e)

-- The first of the files were written, or one of them not.
pub some_stay : (old new : Contents) (files : List File) → WritesSome (Some old) (Some new) files → (path : List ℕ) → IsNoneOf path files → get new path ≡ get old path
some_stay old new files w path none =
    ap (λ (c : Contents). get c path) (some_is new (with_files old w.done) w.holds)
    ∙ others_held old w.done path (none_front path w.done w.rest (subst (IsNoneOf path) w.among none))

pub fails_stay : (old new : Contents) (files : List File) → FailsAt (Some old) (Some new) files → (path : List ℕ) → IsNoneOf path files → get new path ≡ get old path
fails_stay old new files w path none = by_holds w.holds
  where
    by_holds : (Some new ≡ after_files (Some old) w.done) ⊎ HoldsFront (after_files (Some old) w.done) (Some new) w.file.path w.file.bytes → get new path ≡ get old path
    by_holds (inl e) = some_stay old new files (record { done = w.done; rest = w.file ∷ w.rest; among = w.among; holds = e }) path none
    by_holds (inr f) =
        let other : IsNoneOf path (w.done ++ w.file ∷ w.rest) = subst (IsNoneOf path) w.among none in
        ap (λ (c : Contents). get c path) (some_is new (insert (with_files old w.done) w.file.path f.front) f.holds)
        ∙ get_other (with_files old w.done) w.file.path f.front path (none_next path w.done w.file w.rest other)
        ∙ others_held old w.done path (none_front path w.done (w.file ∷ w.rest) other)

pub some_told : (old : Contents) (new : Option Contents) (files : List File) → WritesSome (Some old) new files → (c : Contents) × (new ≡ Some c)
some_told old new files w = (with_files old w.done, w.holds)

pub fails_told : (old : Contents) (new : Option Contents) (files : List File) → FailsAt (Some old) new files → (c : Contents) × (new ≡ Some c)
fails_told old new files w = by w.holds
  where
    by : (new ≡ after_files (Some old) w.done) ⊎ HoldsFront (after_files (Some old) w.done) new w.file.path w.file.bytes → (c : Contents) × (new ≡ Some c)
    by (inl e) = (with_files old w.done, e)
    by (inr f) = (insert (with_files old w.done) w.file.path f.front, f.holds)

pub some_untold : (new : Option Contents) (files : List File) → WritesSome None new files → new ≡ None
some_untold new files w = w.holds

pub fails_untold : (new : Option Contents) (files : List File) → FailsAt None new files → new ≡ None
fails_untold new files w = by w.holds
  where
    by : (new ≡ after_files None w.done) ⊎ HoldsFront (after_files None w.done) new w.file.path w.file.bytes → new ≡ None
    by (inl e) = e
    by (inr f) = f.holds

asm_some : (a : AsmRequest) (old new : Option Contents) (x : IsAssembled old a) → WritesSome old new (files_asked x) → AsmLeaves a old new
asm_some a None new x w = some_untold new (files_asked x) w
asm_some a (Some old) None x w = absurd (let h = w.holds in cc)
asm_some a (Some old) (Some new) x w = λ path others. some_stay old new (files_asked x) w path (others x)

asm_fails : (a : AsmRequest) (old new : Option Contents) (x : IsAssembled old a) → FailsAt old new (files_asked x) → AsmLeaves a old new
asm_fails a None new x w = fails_untold new (files_asked x) w
asm_fails a (Some old) None x w = absurd (let h = (fails_told old None (files_asked x) w).1 in cc)
asm_fails a (Some old) (Some new) x w = λ path others. fails_stay old new (files_asked x) w path (others x)

asm_all : (a : AsmRequest) (old new : Option Contents) (x : IsAssembled old a) → new ≡ after_files old (files_asked x) → AsmLeaves a old new
asm_all a old new x e = asm_some a old new x (record { done = files_asked x; rest = []; among = sym (append-nil (files_asked x)); holds = e })

pub asm_leaves : (old new : Option Contents) (faults : ℕ × ℕ) (a : AsmRequest) (ended : Ended) → AsmAnswers old new faults a ended → AsmLeaves a old new
asm_leaves old new faults a (Exit code) h = asm_all a old new h.1 h.3
asm_leaves old new faults a Missing h = asm_same a old new h.1
asm_leaves old new faults a (BadText number) h = asm_same a old new h.1
asm_leaves old new faults a (Limit FileSize limit) h = asm_same a old new h.2
asm_leaves old new faults a (Limit Names limit) h = absurd h
asm_leaves old new faults a (Limit Classes limit) h = absurd h
asm_leaves old new faults a (Limit ArchiveSize limit) h = absurd h
asm_leaves old new faults a (Limit Loaded limit) h = absurd h
asm_leaves old new faults a Usage h = absurd h
asm_leaves old new faults a NoBoot h = absurd h
asm_leaves old new faults a NoMain h = absurd h
asm_leaves old new faults a (NotShared refuse) h = absurd h
asm_leaves old new faults a Stopped h = absurd h
asm_leaves old new faults a Unsupported h = absurd h
asm_leaves old new faults a ReadFault h = asm_same a old new h
asm_leaves old new faults a WriteFault h = asm_fails a old new h.0 h.1
asm_leaves old new faults a Memory (inl h) = asm_same a old new h
asm_leaves old new faults a Memory (inr (inl h)) = asm_some a old new h.0 h.1
asm_leaves old new faults a Memory (inr (inr h)) = asm_fails a old new h.0 h.1
