-- What reading a whole file gives.
use Rattle.std.specs.Prelude.{◌≡◌, ◌+◌, ◌-◌, ◌^◌, ◌<◌, ◌≤◌, ℕ, List, length, min, Option, Some, None, Result, Ok, Err, ⊤}
use Rattle.std.specs.Global.{Vec}
use Rattle.jsa_files.specs.declared.TheConstants.{MAX_FILE}
use Rattle.jsa_files.specs.declared.fault.FilesFault.{FilesFault}
use Rattle.jsa_files.specs.declared.stamp.Stamp.{Stamp}
use Rattle.jsa_files.specs.declared.fault.FilesFault.TheVariants.{Failed, TooLarge, TooMany, Memory}
use Rattle.jsa_files.specs.Store.{IsStampOf}

-- A fault that one call of the system gives.
abbrev pub IsOfCall : FilesFault → Type 0
IsOfCall Failed = ⊤
IsOfCall (TooLarge size) = ⊥
IsOfCall (TooMany count) = ⊥
IsOfCall Memory = ⊤

-- A size is counted up to the end of its type.
abbrev pub counted_to : ℕ → ℕ
counted_to size = min size (2 ^ 64 - 1)

-- All that a reader has left is kept where it is small enough, and else only counted.
abbrev pub KeepsWhole : Result (Vec ℕ) FilesFault → Type 0
KeepsWhole (Ok bytes) = length bytes.items ≤ MAX_FILE
KeepsWhole (Err Failed) = ⊤
KeepsWhole (Err (TooLarge size)) = MAX_FILE < size
KeepsWhole (Err (TooMany count)) = ⊥
KeepsWhole (Err Memory) = ⊤

-- the same, of a reader that tells what it has left
abbrev pub GivesWhole : Option (List ℕ) → Result (Vec ℕ) FilesFault → Type 0
GivesWhole None result = ⊤
GivesWhole (Some all) (Ok bytes) = bytes.items ≡ all
GivesWhole (Some all) (Err Failed) = ⊤
GivesWhole (Some all) (Err (TooLarge size)) = size ≡ counted_to (length all)
GivesWhole (Some all) (Err (TooMany count)) = ⊤
GivesWhole (Some all) (Err Memory) = ⊤

-- All that a reader has left is stamped where it is small enough, and else only counted.
abbrev pub StampsWhole : Result Stamp FilesFault → Type 0
StampsWhole (Ok stamp) = stamp.size ≤ MAX_FILE
StampsWhole (Err Failed) = ⊤
StampsWhole (Err (TooLarge size)) = MAX_FILE < size
StampsWhole (Err (TooMany count)) = ⊥
StampsWhole (Err Memory) = ⊤

-- the same, of a reader that tells what it has left
abbrev pub GivesStamp : Option (List ℕ) → Result Stamp FilesFault → Type 0
GivesStamp None result = ⊤
GivesStamp (Some all) (Ok stamp) = IsStampOf all stamp
GivesStamp (Some all) (Err Failed) = ⊤
GivesStamp (Some all) (Err (TooLarge size)) = size ≡ counted_to (length all)
GivesStamp (Some all) (Err (TooMany count)) = ⊤
GivesStamp (Some all) (Err Memory) = ⊤

-- the size of what was read before and of what a reader that tells has left
abbrev pub Counts : Option (List ℕ) → ℕ → ℕ → Type 0
Counts None before size = ⊤
Counts (Some rest) before size = size ≡ counted_to (before + length rest)
