-- What the start of a run, and the run of the main class, say of the whole run but for its class list.
use Rattle.std.proofs.Common.{◌≡◌, ℕ, zero, suc, List, [], ◌∷◌, Option, Some, None, refl, ap, subst, inl, inr, arith}
use Rattle.std.specs.Prelude.{Result, Ok, Err, slice_get}
use Rattle.jsa_base.specs.declared.quantity.Quantity.{Quantity}
use Rattle.jsa_files.specs.Store.{Contents}
use Rattle.loader_rules.specs.Lists.{FolderLists}
use Rattle.class_record.specs.declared.fault.ClassesFault.{ClassesFault}
use Rattle.class_record.specs.declared.fault.ClassesFault.TheVariants as faults
use Rattle.class_record.specs.declared.facts.ClassId.{ClassId}
use Rattle.class_record.specs.Files.{Name}
use Rattle.class_record.specs.Facts.{Facts, names_of, name_at}
use Rattle.class_record.specs.Worlds.{AsTold, World, world_of_files}
use Rattle.class_record.specs.Calls.{Progress, NamesLimit, CountsRead}
use Rattle.class_record.specs.declared.start.Start.{Start}
use Rattle.class_record.specs.declared.start.Start.TheVariants as starts
use Rattle.class_record.specs.Starting.{AnswersStart, NamesClass, Ready}
use Rattle.home_run.specs.declared.end.HomeEnd.{HomeEnd}
use Rattle.home_run.specs.declared.end.HomeEnd.TheVariants as ended
use Rattle.home_run.specs.Answers.{CountsReads}
use Rattle.home_run.specs.Steps.{files_of, Comes, MainAnswersOf, MainAnswers, ClassesAnswerOf, ClassesAnswer, CountsPuts, end_of_fault}

abbrev StartResult : Type 0
StartResult = Result Start ClassesFault

module _ (w : World) (name : Name) (steps : ℕ) (a b : Progress) (order : List Name) (out : Option (List ℕ)) (result : StartResult) (told : AsTold w (λ v. AnswersStart v name a b result)) (names : NamesClass order name result) where
  pub no_boot : (number : ℕ) → result ≡ Ok (starts.NoBoot number) → ClassesAnswer w name steps a b out out (ended.NoBoot number)
  no_boot number e = by w.contents told
    where
      by : (contents : Option Contents) → AsTold (record { folders = w.folders; contents = contents }) (λ v. AnswersStart v name a b result) → ClassesAnswerOf w.folders contents name steps a b out out (ended.NoBoot number)
      by None h = let n = subst (λ (r : StartResult). NamesClass order name r) e names in (n.0, n.1, refl)
      by (Some contents) h = let t = subst (λ (r : StartResult). AnswersStart (world_of_files (files_of contents w.folders)) name a b r) e h in (record { ends = t.0; leaves = t.1 }, refl)

  pub no_main : result ≡ Ok starts.NoMain → ClassesAnswer w name steps a b out out ended.NoMain
  no_main e = by w.contents told
    where
      by : (contents : Option Contents) → AsTold (record { folders = w.folders; contents = contents }) (λ v. AnswersStart v name a b result) → ClassesAnswerOf w.folders contents name steps a b out out ended.NoMain
      by None h = refl
      by (Some contents) h = let t = subst (λ (r : StartResult). AnswersStart (world_of_files (files_of contents w.folders)) name a b r) e h in (record { ends = t.0; leaves = t.1 }, refl)

  limit : (contents : Option Contents) (quantity : Quantity) (most : ℕ) → NamesLimit result → result ≡ Err (faults.Limit quantity most) → AsTold (record { folders = w.folders; contents = contents }) (λ v. AnswersStart v name a b result)
      → ClassesAnswerOf w.folders contents name steps a b out out (ended.Limit quantity most)
  limit None quantity most is e h = (subst (λ (r : StartResult). NamesLimit r) e is, refl)
  limit (Some contents) quantity most is e h = (subst (λ (r : StartResult). AnswersStart (world_of_files (files_of contents w.folders)) name a b r) e h, refl)

  read_fault : (contents : Option Contents) → ClassesAnswerOf w.folders contents name steps a b out out ended.Read
  read_fault None = refl
  read_fault (Some contents) = refl

  memory : (contents : Option Contents) → ClassesAnswerOf w.folders contents name steps a b out out ended.Memory
  memory None = inl refl
  memory (Some contents) = inl refl

  pub fault : (f : ClassesFault) → NamesLimit result → result ≡ Err f → ClassesAnswer w name steps a b out out (end_of_fault f)
  fault faults.Read is e = read_fault w.contents
  fault (faults.Limit quantity most) is e = limit w.contents quantity most is e told
  fault faults.Memory is e = memory w.contents

-- ---- the main class is loaded

comes : (w : World) (contents : Contents) (name : Name) (a b : Progress) (id : ClassId) (result : StartResult) → result ≡ Ok (starts.Ready id) → AnswersStart (world_of_files (files_of contents w.folders)) name a b result → Comes (files_of contents w.folders) name Ready a b
comes w contents name a b id result e h =
    let t = subst (λ (r : StartResult). AnswersStart (world_of_files (files_of contents w.folders)) name a b r) e h in
    record { ends = t.0.0; leaves = t.1 }

-- Where the files aren't told.
untold : (folders : FolderLists) (name : Name) (steps : ℕ) (a b : Progress) (before after : Option (List ℕ)) (end : HomeEnd) → MainAnswersOf folders None name steps before after end → ClassesAnswerOf folders None name steps a b before after end
untold folders name steps a b before after ended.Exit h = h
untold folders name steps a b before after ended.Stopped h = h
untold folders name steps a b before after ended.Unsupported h = h.1
untold folders name steps a b before after ended.Write h = h
untold folders name steps a b before after ended.Memory h = h
untold folders name steps a b before after (ended.NoBoot number) h = absurd h
untold folders name steps a b before after ended.NoMain h = absurd h
untold folders name steps a b before after ended.Read h = absurd h
untold folders name steps a b before after (ended.Limit quantity most) h = absurd h

come : (folders : FolderLists) (contents : Contents) (name : Name) (steps : ℕ) (a b : Progress) (before after : Option (List ℕ)) (end : HomeEnd) → Comes (files_of contents folders) name Ready a b → MainAnswersOf folders (Some contents) name steps before after end
    → ClassesAnswerOf folders (Some contents) name steps a b before after end
come folders contents name steps a b before after ended.Exit c h = (c, h)
come folders contents name steps a b before after ended.Stopped c h = (c, h)
come folders contents name steps a b before after ended.Unsupported c h = (c, h.0, h.1)
come folders contents name steps a b before after ended.Write c h = (c, h)
come folders contents name steps a b before after ended.Memory c (inl h) = inl h
come folders contents name steps a b before after ended.Memory c (inr h) = inr (c, h)
come folders contents name steps a b before after (ended.NoBoot number) c h = absurd h
come folders contents name steps a b before after ended.NoMain c h = absurd h
come folders contents name steps a b before after ended.Read c h = absurd h
come folders contents name steps a b before after (ended.Limit quantity most) c h = absurd h

name_there : (fs : List Facts) (id : ℕ) (name : Name) → slice_get (names_of fs) id ≡ Some name → name_at fs id ≡ name
name_there [] id name e = absurd cc
name_there (f ∷ fs) zero name e = ap (λ (o : Option Name). or_empty o) e
  where
    or_empty : Option Name → Name
    or_empty None = []
    or_empty (Some n) = n
name_there (f ∷ fs) (suc id) name e = name_there fs id name e

-- The world is as before, and the main class was run.
pub ready : (w now : World) (name : Name) (steps : ℕ) (a b : Progress) (fs : List Facts) (before after : Option (List ℕ)) (end : HomeEnd) (id : ClassId) (result : StartResult)
    → result ≡ Ok (starts.Ready id) → AsTold w (λ v. AnswersStart v name a b result) → NamesClass (names_of fs) name result → now ≡ w → MainAnswers now (name_at fs id.0) steps before after end
    → ClassesAnswer w name steps a b before after end
ready w now name steps a b fs before after end id result e told names same h =
    let there = subst (λ (r : StartResult). NamesClass (names_of fs) name r) e names in
    let g = subst (λ (n : Name). MainAnswers w n steps before after end) (name_there fs id.0 name there) (subst (λ (v : World). MainAnswers v (name_at fs id.0) steps before after end) same h) in
    by w.contents told g
  where
    by : (contents : Option Contents) → AsTold (record { folders = w.folders; contents = contents }) (λ v. AnswersStart v name a b result) → MainAnswersOf w.folders contents name steps before after end → ClassesAnswerOf w.folders contents name steps a b before after end
    by None t m = untold w.folders name steps a b before after end m
    by (Some contents) t m = come w.folders contents name steps a b before after end (comes w contents name a b id result e t) m

-- ---- counts of faults

-- A fault is Read where the count of reads that failed rose.
pub counts_fault : (T : Type 0) (before now : ℕ) (f : ClassesFault) → CountsRead {T = T} before now (Err f) → CountsReads before now (end_of_fault f)
counts_fault T before now faults.Read h = h
counts_fault T before now (faults.Limit quantity most) h = h
counts_fault T before now faults.Memory h = h

pub counts_no_put : (out : ℕ) (f : ClassesFault) → CountsPuts out out (end_of_fault f)
counts_no_put out faults.Read = refl
counts_no_put out (faults.Limit quantity most) = refl
counts_no_put out faults.Memory = omega arith

pub reads_only : {P : Type 0} (f : ClassesFault) → ((f ≡ faults.Read) → P) → end_of_fault f ≡ ended.Read → P
reads_only faults.Read h e = h refl
reads_only (faults.Limit quantity most) h e = absurd cc
reads_only faults.Memory h e = absurd cc

pub no_write : {P : Type 0} (f : ClassesFault) → end_of_fault f ≡ ended.Write → P
no_write faults.Read e = absurd cc
no_write (faults.Limit quantity most) e = absurd cc
no_write faults.Memory e = absurd cc
