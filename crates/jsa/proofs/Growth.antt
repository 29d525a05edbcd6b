-- How the reads of a store grow, step by step, and what its calls leave.
use Rattle.std.proofs.Common.{◌≡◌, ◌∙◌, inl, inr, ℕ, List, [], ◌∷◌, ◌++◌, Option, Some, None, refl, sym, ap, subst}
use Rattle.std.specs.Prelude.{Ok, Err}
use Rattle.std.specs.Global.{Vec}
use Rattle.std.specs.Option.{option_map}
use Rattle.std.proofs.lemmas.List.{append-nil, append_assoc}
use Rattle.jsa_files.specs.declared.fault.FilesFault.{FilesFault}
use Rattle.jsa_files.specs.Store.{Store, ReadAnswer, store_after_read, with_file}
use Rattle.jsa.specs.declared.ended.Ended.{Ended}
use Rattle.jsa.specs.declared.ended.Ended.TheVariants.{Exit, Usage, BadText, NoBoot, NoMain, Missing, NotShared, Stopped, Unsupported, ReadFault, WriteFault, Limit, Memory}
use Rattle.jsa_files.specs.Told.{contents_told, reads_told, Holds, ReadsBy, ReadsFront}
use Rattle.jsa.specs.Runs.{ReadsPath, ReadsClass}
use Rattle.jsa.specs.Archived.{archive_reads}

-- ---- what a call leaves

pub read_keeps : (store : Option Store) (path : List ℕ) (result : ReadAnswer) → contents_told (store_after_read store path result) ≡ contents_told store
read_keeps None path result = refl
read_keeps (Some store) path result = refl

pub fault_reads : (store : Option Store) (path : List ℕ) (fault : FilesFault) → reads_told (store_after_read store path (Err fault)) ≡ reads_told store
fault_reads None path fault = refl
fault_reads (Some store) path fault = refl

pub written : (store : Option Store) (path bytes : List ℕ) → Holds (contents_told store) (contents_told (with_file store path bytes)) path bytes
written None path bytes = refl
written (Some store) path bytes = refl

-- ---- how reads grow

pub reads_nothing : (old new : Option (List (List ℕ))) → new ≡ old → ReadsBy old new []
reads_nothing None new e = e
reads_nothing (Some reads) new e = e ∙ ap (λ (l : List (List ℕ)). Some l) (sym (append-nil reads))

pub reads_then : (a b c : Option (List (List ℕ))) (xs ys : List (List ℕ)) → ReadsBy a b xs → ReadsBy b c ys → ReadsBy a c (xs ++ ys)
reads_then None b c xs ys h k = subst (λ (o : Option (List (List ℕ))). ReadsBy o c ys) h k
reads_then (Some a) b c xs ys h k =
    subst (λ (o : Option (List (List ℕ))). ReadsBy o c ys) h k ∙ ap (λ (l : List (List ℕ)). Some l) (append_assoc a xs ys)

-- the archive's path, where bytes were handed out
pub read_reads : (store : Option Store) (path : List ℕ) (found : Option (Vec ℕ)) → ReadsBy (reads_told store) (reads_told (store_after_read store path (Ok found))) (archive_reads path (option_map (λ bytes. bytes.items) found))
read_reads None path None = refl
read_reads None path (Some bytes) = refl
read_reads (Some store) path None = ap (λ (l : List (List ℕ)). Some l) (sym (append-nil store.reads))
read_reads (Some store) path (Some bytes) = refl

pub front_none : (old new : Option (List (List ℕ))) (paths : List (List ℕ)) → new ≡ old → ReadsFront old new paths
front_none old new paths e = record { front = []; tail = paths; whole = refl; grows = reads_nothing old new e }

pub front_archive : (old new : Option (List (List ℕ))) (archive : List ℕ) (found : Option (List ℕ)) → ReadsBy old new (archive_reads archive found) → ReadsFront old new (archive ∷ [])
front_archive old new archive None h = record { front = []; tail = archive ∷ []; whole = refl; grows = h }
front_archive old new archive (Some bytes) h = record { front = archive ∷ []; tail = []; whole = refl; grows = h }

-- ---- the class's file

pub path_class : (old new : Option (List (List ℕ))) (path : List ℕ) (ended : Ended) → ReadsPath old new path ended → ReadsClass old new [] (path ∷ []) ended
path_class old new path (Exit code) h = h
path_class old new path Usage h = reads_nothing old new h
path_class old new path (BadText number) h = h
path_class old new path NoBoot h = reads_nothing old new h
path_class old new path NoMain h = reads_nothing old new h
path_class old new path Missing h = reads_nothing old new h
path_class old new path (NotShared refuse) h = reads_nothing old new h
path_class old new path Stopped h = h
path_class old new path Unsupported h = h
path_class old new path ReadFault h = reads_nothing old new h
path_class old new path WriteFault h = h
path_class old new path (Limit quantity limit) h = reads_nothing old new h
path_class old new path Memory (inl h) = inl (reads_nothing old new h)
path_class old new path Memory (inr h) = inr h

pub no_class : (old new : Option (List (List ℕ))) (ended : Ended) → new ≡ old → ReadsClass old new [] [] ended
no_class old new (Exit code) e = reads_nothing old new e
no_class old new Usage e = reads_nothing old new e
no_class old new (BadText number) e = reads_nothing old new e
no_class old new NoBoot e = reads_nothing old new e
no_class old new NoMain e = reads_nothing old new e
no_class old new Missing e = reads_nothing old new e
no_class old new (NotShared refuse) e = reads_nothing old new e
no_class old new Stopped e = reads_nothing old new e
no_class old new Unsupported e = reads_nothing old new e
no_class old new ReadFault e = reads_nothing old new e
no_class old new WriteFault e = reads_nothing old new e
no_class old new (Limit quantity limit) e = reads_nothing old new e
no_class old new Memory e = inl (reads_nothing old new e)

first_nothing : (a b c : Option (List (List ℕ))) (first : List (List ℕ)) → ReadsBy a b first → ReadsBy b c [] → ReadsBy a c first
first_nothing a b c first h k = subst (λ (l : List (List ℕ)). ReadsBy a c l) (append-nil first) (reads_then a b c first [] h k)

-- What was read before comes first.
pub behind_first : (a b c : Option (List (List ℕ))) (first paths : List (List ℕ)) (ended : Ended) → ReadsBy a b first → ReadsClass b c [] paths ended → ReadsClass a c first paths ended
behind_first a b c first paths (Exit code) h k = reads_then a b c first paths h k
behind_first a b c first paths Usage h k = first_nothing a b c first h k
behind_first a b c first paths (BadText number) h k = reads_then a b c first paths h k
behind_first a b c first paths NoBoot h k = first_nothing a b c first h k
behind_first a b c first paths NoMain h k = first_nothing a b c first h k
behind_first a b c first paths Missing h k = first_nothing a b c first h k
behind_first a b c first paths (NotShared refuse) h k = first_nothing a b c first h k
behind_first a b c first paths Stopped h k = reads_then a b c first paths h k
behind_first a b c first paths Unsupported h k = reads_then a b c first paths h k
behind_first a b c first paths ReadFault h k = first_nothing a b c first h k
behind_first a b c first paths WriteFault h k = reads_then a b c first paths h k
behind_first a b c first paths (Limit quantity limit) h k = first_nothing a b c first h k
behind_first a b c first paths Memory h (inl k) = inl (first_nothing a b c first h k)
behind_first a b c first paths Memory h (inr k) = inr (reads_then a b c first paths h k)

pub class_memory : (old new : Option (List (List ℕ))) (first paths : List (List ℕ)) (ended : Ended) → ReadsClass old new first paths ended → ReadsClass old new first paths Memory
class_memory old new first paths (Exit code) h = inr h
class_memory old new first paths Usage h = inl h
class_memory old new first paths (BadText number) h = inr h
class_memory old new first paths NoBoot h = inl h
class_memory old new first paths NoMain h = inl h
class_memory old new first paths Missing h = inl h
class_memory old new first paths (NotShared refuse) h = inl h
class_memory old new first paths Stopped h = inr h
class_memory old new first paths Unsupported h = inr h
class_memory old new first paths ReadFault h = inl h
class_memory old new first paths WriteFault h = inr h
class_memory old new first paths (Limit quantity limit) h = inl h
class_memory old new first paths Memory h = h
