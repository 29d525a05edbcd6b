-- What a store of files holds, and what its calls answer and leave.
use Rattle.std.specs.Prelude.{◌≡◌, ◌⊎◌, ◌<◌, ◌≤◌, ℕ, List, [], ◌∷◌, ◌++◌, length, Option, Some, None, Result, Ok, Err, ⊤}
use Rattle.std.specs.Global.{Vec}
use Rattle.std.specs.Ordering.{nat_cmp}
use Rattle.std.specs.Cmp.Lexicographic.{slice_cmp}
use Rattle.std.specs.FinMap.{FinMap, get, insert}
use Rattle.sha2.specs.Sha256 as fips
use Rattle.jsa_files.specs.declared.TheConstants.{MAX_FILE}
use Rattle.jsa_files.specs.declared.fault.FilesFault.{FilesFault}
use Rattle.jsa_files.specs.declared.stamp.Stamp.{Stamp}
use Rattle.jsa_files.specs.declared.fault.FilesFault.TheVariants.{Failed, TooLarge, TooMany, Memory}

-- a finite map from paths to bytes
abbrev pub Contents : Type 0
Contents = FinMap (slice_cmp nat_cmp) (List ℕ)

-- the files, and the paths whose bytes a read handed out, in order
pub record Store : Type 0 where
  pub contents : Contents
  pub reads : List (List ℕ)

abbrev pub ReadAnswer : Type 0
ReadAnswer = Result (Option (Vec ℕ)) FilesFault

-- The file has this size, which is too large.
abbrev pub IsTooLarge : Option (List ℕ) → FilesFault → Type 0
IsTooLarge at Failed = ⊥
IsTooLarge at (TooLarge size) = (bytes : List ℕ) × (at ≡ Some bytes) × (length bytes ≡ size) × (MAX_FILE < size)
IsTooLarge at (TooMany count) = ⊥
IsTooLarge at Memory = ⊥

-- The answer fits what is at the path. TooLarge comes exactly where the file is too large.
abbrev pub Answers : Option (List ℕ) → ReadAnswer → Type 0
Answers at (Ok None) = at ≡ None
Answers at (Ok (Some bytes)) = at ≡ Some bytes.items
Answers at (Err Failed) = ⊤
Answers at (Err (TooLarge size)) = (bytes : List ℕ) × (at ≡ Some bytes) × (length bytes ≡ size)
Answers at (Err (TooMany count)) = ⊤
Answers at (Err Memory) = ⊤

-- the same, where the store tells
abbrev pub AnswersAsTold : Option Store → List ℕ → ReadAnswer → Type 0
AnswersAsTold None path result = ⊤
AnswersAsTold (Some store) path result = Answers (get store.contents path) result

-- What is handed out is small enough, and what is too large isn't. A read never answers TooMany.
abbrev pub KeepsSize : ReadAnswer → Type 0
KeepsSize (Ok None) = ⊤
KeepsSize (Ok (Some bytes)) = length bytes.items ≤ MAX_FILE
KeepsSize (Err Failed) = ⊤
KeepsSize (Err (TooLarge size)) = MAX_FILE < size
KeepsSize (Err (TooMany count)) = ⊥
KeepsSize (Err Memory) = ⊤

-- A read that hands out bytes is noted.
abbrev pub reads_after : List (List ℕ) → List ℕ → ReadAnswer → List (List ℕ)
reads_after reads path (Ok None) = reads
reads_after reads path (Ok (Some bytes)) = reads ++ path ∷ []
reads_after reads path (Err fault) = reads

-- A read changes nothing else.
abbrev pub store_after_read : Option Store → List ℕ → ReadAnswer → Option Store
store_after_read None path result = None
store_after_read (Some store) path result = Some (record { contents = store.contents; reads = reads_after store.reads path result })

-- A stamp has the size and the SHA-256 (FIPS 180-4) of these bytes.
abbrev pub IsStampOf : List ℕ → Stamp → Type 0
IsStampOf bytes stamp = (stamp.size ≡ length bytes) × (stamp.sha256 ≡ fips.sha256 bytes)

abbrev pub DigestAnswer : Type 0
DigestAnswer = Result (Option Stamp) FilesFault

-- The stamp fits what is at the path. TooLarge comes exactly where the file is too large.
abbrev pub Stamps : Option (List ℕ) → DigestAnswer → Type 0
Stamps at (Ok None) = at ≡ None
Stamps at (Ok (Some stamp)) = (bytes : List ℕ) × (at ≡ Some bytes) × IsStampOf bytes stamp
Stamps at (Err Failed) = ⊤
Stamps at (Err (TooLarge size)) = (bytes : List ℕ) × (at ≡ Some bytes) × (length bytes ≡ size)
Stamps at (Err (TooMany count)) = ⊤
Stamps at (Err Memory) = ⊤

-- the same, where the store tells
abbrev pub StampsAsTold : Option Store → List ℕ → DigestAnswer → Type 0
StampsAsTold None path result = ⊤
StampsAsTold (Some store) path result = Stamps (get store.contents path) result

-- What is stamped is small enough, and what is too large isn't. A digest never answers TooMany.
abbrev pub StampsSmall : DigestAnswer → Type 0
StampsSmall (Ok None) = ⊤
StampsSmall (Ok (Some stamp)) = stamp.size ≤ MAX_FILE
StampsSmall (Err Failed) = ⊤
StampsSmall (Err (TooLarge size)) = MAX_FILE < size
StampsSmall (Err (TooMany count)) = ⊥
StampsSmall (Err Memory) = ⊤

-- The path holds these bytes, and all else is as before.
abbrev pub with_file : Option Store → List ℕ → List ℕ → Option Store
with_file None path bytes = None
with_file (Some store) path bytes = Some (record { contents = insert store.contents path bytes; reads = store.reads })

-- The path holds a front of these bytes: some of the first, none or all. All else is as before.
pub record WritesFront (before after : Option Store) (path bytes : List ℕ) : Type 0 where
  pub front : List ℕ
  pub tail : List ℕ
  pub whole : bytes ≡ front ++ tail
  pub holds : after ≡ with_file before path front

-- A write makes the path hold the bytes. One that fails leaves a front of them there, or what was there. A
-- write never answers TooLarge or TooMany.
abbrev pub Writes : {T : Type 0} → Option Store → Option Store → List ℕ → List ℕ → Result T FilesFault → Type 0
Writes before after path bytes (Ok x) = after ≡ with_file before path bytes
Writes before after path bytes (Err Failed) = (after ≡ before) ⊎ WritesFront before after path bytes
Writes before after path bytes (Err (TooLarge size)) = ⊥
Writes before after path bytes (Err (TooMany count)) = ⊥
Writes before after path bytes (Err Memory) = after ≡ before
