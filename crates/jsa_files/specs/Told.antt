-- What a store tells: what it holds and what it handed out, and how a call or a command changes that.
use Rattle.std.specs.Prelude.{◌≡◌, ℕ, List, ◌++◌, Option, Some, None, ⊤}
use Rattle.std.specs.FinMap.{get, insert}
use Rattle.std.specs.Option.{option_map}
use Rattle.jsa_files.specs.Store.{Contents, Store}

-- what a store holds
abbrev pub contents_told : Option Store → Option Contents
contents_told store = option_map (λ s. s.contents) store

-- the paths whose bytes it handed out
abbrev pub reads_told : Option Store → Option (List (List ℕ))
reads_told store = option_map (λ s. s.reads) store

-- what is at a path
abbrev pub IsAt : Option Contents → List ℕ → Option (List ℕ) → Type 0
IsAt None path found = ⊤
IsAt (Some contents) path found = get contents path ≡ found

-- The path holds these bytes, and every other path what it held.
abbrev pub Holds : Option Contents → Option Contents → List ℕ → List ℕ → Type 0
Holds old new path bytes = new ≡ option_map (λ contents. insert contents path bytes) old

-- The path holds a front of these bytes, and every other path what it held.
pub record HoldsFront (old new : Option Contents) (path bytes : List ℕ) : Type 0 where
  pub front : List ℕ
  pub tail : List ℕ
  pub whole : bytes ≡ front ++ tail
  pub holds : Holds old new path front

-- The reads grow by these paths, in their order.
abbrev pub ReadsBy : Option (List (List ℕ)) → Option (List (List ℕ)) → List (List ℕ) → Type 0
ReadsBy old new paths = new ≡ option_map (λ reads. reads ++ paths) old

-- The reads grow by a front of these paths: by some of the first, by none or by all.
pub record ReadsFront (old new : Option (List (List ℕ))) (paths : List (List ℕ)) : Type 0 where
  pub front : List (List ℕ)
  pub tail : List (List ℕ)
  pub whole : paths ≡ front ++ tail
  pub grows : ReadsBy old new front
