-- What a run says of the store and of out, once its class list is written.
use Rattle.std.proofs.Common.{◌≡◌, ◌≢◌, ◌⊎◌, ℕ, Bool, List, [], Option, Some, None, refl, ap, subst, ◌∙◌, inl, inr, arith}
use Rattle.std.specs.FinMap.{insert}
use Rattle.std.specs.Option.{option_map}
use Rattle.jsa_files.specs.Store.{Contents, Store}
use Rattle.loader_rules.specs.Lists.{FolderLists}
use Rattle.class_record.specs.Files.{Name}
use Rattle.class_record.specs.Worlds.{World}
use Rattle.class_record.specs.Calls.{Progress}
use Rattle.class_linker.specs.Fresh.{world_in, reads_in}
use Rattle.class_record.specs.Starting.{StartEnd}
use Rattle.class_record.specs.ClassList.{class_list}
use Rattle.home_run.specs.declared.end.HomeEnd.{HomeEnd}
use Rattle.home_run.specs.declared.end.HomeEnd.TheVariants as ended
use Rattle.command_words.specs.HomeWords.{HomeRequest}
use Rattle.home_run.specs.Requests.{folder_lists, run_files, load_order}
use Rattle.jsa_files.proofs.Taken.{front_of_whole}
use Rattle.first_form.specs.Runs.{Run, Runs, Begins}
use Rattle.jsa_files.specs.Told.{contents_told, reads_told}
use Rattle.home_run.specs.Answers.{Starts, Answers, AnswersUntold, AnswersRun, with_list, CountsWrites}
use Rattle.home_run.specs.Steps.{Comes, ClassesAnswer, ClassesAnswerOf, ListAnswers, FailsToList, CountsPuts, CountsList}

-- A run that exited puts a front of what it puts.
begins_of : {P : Run → Type 0} {steps : ℕ} {returned : Bool} {before after : Option (List ℕ)} → Runs P steps returned before after → Begins P steps before after
begins_of {P} {steps} {returned} {before} {after} r = record { run = r.run; of = r.of; out = front_of_whole before after (r.run steps).out r.out }

-- ---- the state of the store between the run and its list

-- Where the store told and the world is as before, it tells the same contents.
same_contents : (old mid : Option Store) (folders folders' : FolderLists) → world_in mid folders' ≡ world_in old folders → contents_told mid ≡ contents_told old
same_contents old mid folders folders' e = ap (λ (w : World). w.contents) e

reads_some : (mid : Option Store) (contents : Contents) → contents_told mid ≡ Some contents → reads_told mid ≡ Some (reads_in mid)
reads_some None contents e = absurd cc
reads_some (Some m) contents e = refl

none_told : (store : Option Store) → contents_told store ≡ None → reads_told store ≡ None
none_told None e = refl
none_told (Some s) e = absurd cc

module _ (s : Store) (mid new : Option Store) (r : HomeRequest) (order begun : List Name) (told : contents_told mid ≡ Some s.contents) (read : reads_told new ≡ reads_told mid) where
  abbrev from : Progress
  from = record { order = []; begun = []; reads = s.reads }

  abbrev to : Progress
  to = record { order = order; begun = begun; reads = reads_in mid }

  starts_of : (end : StartEnd) → Comes (run_files s.contents r) r.name end from to → Starts s.contents r end (Some s.reads) (reads_told new)
  starts_of end c = record { ends = c.ends; within = c.leaves.limits; reads = read ∙ reads_some mid s.contents told ∙ ap (λ (l : List (List ℕ)). Some l) c.leaves.reads }

  list_is : (end : StartEnd) → Comes (run_files s.contents r) r.name end from to → class_list order ≡ class_list (load_order s.contents r)
  list_is end c = ap class_list c.leaves.order

  -- The run exited, and its list was written or not.
  pub listed_told : (faults : ℕ × ℕ) (before after : Option (List ℕ)) (end : HomeEnd) → ClassesAnswerOf (folder_lists r) (Some s.contents) r.name r.steps from to before after ended.Exit
      → ListAnswers (contents_told mid) (contents_told new) faults r.list (class_list order) end → Answers s.contents (contents_told new) faults (Some s.reads) (reads_told new) r before after end
  listed_told faults before after ended.Exit h l =
      let k : contents_told new ≡ option_map (with_list r.list (class_list (load_order s.contents r))) (Some s.contents) = subst (λ (o : Option Contents). contents_told new ≡ option_map (with_list r.list (class_list (load_order s.contents r))) o) told (subst (λ (bytes : List ℕ). contents_told new ≡ option_map (with_list r.list bytes) (contents_told mid)) (list_is _ h.0) l) in
      (starts_of _ h.0, h.1, k)
  listed_told faults before after ended.Write h l =
      let k : FailsToList (Some s.contents) (contents_told new) faults r.list (class_list (load_order s.contents r)) = subst (λ (o : Option Contents). FailsToList o (contents_told new) faults r.list (class_list (load_order s.contents r))) told (subst (λ (bytes : List ℕ). FailsToList (contents_told mid) (contents_told new) faults r.list bytes) (list_is _ h.0) l) in
      (starts_of _ h.0, inr (h.1, record { path = k.path; asked = k.asked; front = k.front; tail = k.tail; whole = k.whole; holds = k.holds; rose = k.rose }))
  listed_told faults before after ended.Memory h l = (inr (starts_of _ h.0, begins_of h.1), l ∙ told)
  listed_told faults before after ended.Stopped h l = absurd l
  listed_told faults before after ended.Unsupported h l = absurd l
  listed_told faults before after (ended.NoBoot number) h l = absurd l
  listed_told faults before after ended.NoMain h l = absurd l
  listed_told faults before after ended.Read h l = absurd l
  listed_told faults before after (ended.Limit quantity limit) h l = absurd l

  -- It didn't, and nothing was written.
  pub other_told : (faults : ℕ × ℕ) (before after : Option (List ℕ)) (end : HomeEnd) → end ≢ ended.Exit → contents_told new ≡ Some s.contents → ClassesAnswerOf (folder_lists r) (Some s.contents) r.name r.steps from to before after end
      → Answers s.contents (contents_told new) faults (Some s.reads) (reads_told new) r before after end
  other_told faults before after ended.Exit other is h = absurd (other refl)
  other_told faults before after ended.Write other is h = (starts_of _ h.0, inl (h.1, is))
  other_told faults before after ended.Memory other is (inl h) = (inl h, is)
  other_told faults before after ended.Memory other is (inr h) = (inr (starts_of _ h.0, h.1), is)
  other_told faults before after ended.Stopped other is h = (starts_of _ h.0, h.1, is)
  other_told faults before after ended.Unsupported other is h = (starts_of _ h.0, h.1, h.2, is)
  other_told faults before after (ended.NoBoot number) other is h = (starts_of _ h.0, h.1, is)
  other_told faults before after ended.NoMain other is h = (starts_of _ h.0, h.1, is)
  other_told faults before after ended.Read other is h = (h, is)
  other_told faults before after (ended.Limit quantity limit) other is h = (h.0, h.1, is)

-- ---- where the files aren't told

untold_listed : (mid new : Option Store) (r : HomeRequest) (a b : Progress) (order : List Name) (faults : ℕ × ℕ) (before after : Option (List ℕ)) (end : HomeEnd) → contents_told mid ≡ None
    → ClassesAnswerOf (folder_lists r) None r.name r.steps a b before after ended.Exit → ListAnswers (contents_told mid) (contents_told new) faults r.list (class_list order) end → AnswersUntold r before after end × (contents_told new ≡ None)
untold_listed mid new r a b order faults before after ended.Exit told h l = (h, l ∙ ap (option_map (with_list r.list (class_list order))) told)
untold_listed mid new r a b order faults before after ended.Write told h l = (begins_of h, either l.holds)
  where
    either : (contents_told new ≡ contents_told mid) ⊎ (contents_told new ≡ option_map (λ c. insert c l.path l.front) (contents_told mid)) → contents_told new ≡ None
    either (inl e) = e ∙ told
    either (inr e) = e ∙ ap (option_map (λ (c : Contents). insert c l.path l.front)) told
untold_listed mid new r a b order faults before after ended.Memory told h l = (inr (begins_of h), l ∙ told)
untold_listed mid new r a b order faults before after ended.Stopped told h l = absurd l
untold_listed mid new r a b order faults before after ended.Unsupported told h l = absurd l
untold_listed mid new r a b order faults before after (ended.NoBoot number) told h l = absurd l
untold_listed mid new r a b order faults before after ended.NoMain told h l = absurd l
untold_listed mid new r a b order faults before after ended.Read told h l = absurd l
untold_listed mid new r a b order faults before after (ended.Limit quantity limit) told h l = absurd l

untold_other : (r : HomeRequest) (a b : Progress) (before after : Option (List ℕ)) (end : HomeEnd) → ClassesAnswerOf (folder_lists r) None r.name r.steps a b before after end → AnswersUntold r before after end
untold_other r a b before after ended.Exit h = h
untold_other r a b before after ended.Write h = h
untold_other r a b before after ended.Memory h = h
untold_other r a b before after ended.Stopped h = h
untold_other r a b before after ended.Unsupported h = h
untold_other r a b before after (ended.NoBoot number) h = h
untold_other r a b before after ended.NoMain h = h
untold_other r a b before after ended.Read h = h
untold_other r a b before after (ended.Limit quantity limit) h = h

-- ---- the answer of the whole run

abbrev at_first : Option Store → Progress
at_first store = record { order = []; begun = []; reads = reads_in store }

abbrev at_last : Option Store → List Name → List Name → Progress
at_last store order begun = record { order = order; begun = begun; reads = reads_in store }

pub listed : (old mid new : Option Store) (folders : FolderLists) (r : HomeRequest) (order begun : List Name) (faults : ℕ × ℕ) (before after : Option (List ℕ)) (end : HomeEnd)
    → world_in mid folders ≡ world_in old (folder_lists r) → reads_told new ≡ reads_told mid → ClassesAnswer (world_in old (folder_lists r)) r.name r.steps (at_first old) (at_last mid order begun) before after ended.Exit
    → ListAnswers (contents_told mid) (contents_told new) faults r.list (class_list order) end → AnswersRun old new faults r before after end
listed None mid new folders r order begun faults before after end world read h l = untold_listed mid new r (at_first None) (at_last mid order begun) order faults before after end (same_contents None mid (folder_lists r) folders world) h l
listed (Some s) mid new folders r order begun faults before after end world read h l = listed_told s mid new r order begun (same_contents (Some s) mid (folder_lists r) folders world) read faults before after end h l

-- The store is as it was when the run ended.
pub other : (old mid : Option Store) (folders : FolderLists) (r : HomeRequest) (order begun : List Name) (faults : ℕ × ℕ) (before after : Option (List ℕ)) (end : HomeEnd) → end ≢ ended.Exit
    → world_in mid folders ≡ world_in old (folder_lists r) → ClassesAnswer (world_in old (folder_lists r)) r.name r.steps (at_first old) (at_last mid order begun) before after end → AnswersRun old mid faults r before after end
other None mid folders r order begun faults before after end not world h = (untold_other r (at_first None) (at_last mid order begun) before after end h, same_contents None mid (folder_lists r) folders world)
other (Some s) mid folders r order begun faults before after end not world h =
    let told = same_contents (Some s) mid (folder_lists r) folders world in
    other_told s mid mid r order begun told refl faults before after end not told h

-- ---- counts of faults

pub counts_listed : (files files' out out' : ℕ) (end : HomeEnd) → out' ≡ out → CountsList files files' end → CountsWrites files files' out out' end
counts_listed files files' out out' ended.Exit same h = (h, same)
counts_listed files files' out out' ended.Write same h = inl (h.0, h.1, same)
counts_listed files files' out out' ended.Memory same h = (h, omega (arith, same))
counts_listed files files' out out' ended.Stopped same h = (h, same)
counts_listed files files' out out' ended.Unsupported same h = (h, same)
counts_listed files files' out out' (ended.NoBoot number) same h = (h, same)
counts_listed files files' out out' ended.NoMain same h = (h, same)
counts_listed files files' out out' ended.Read same h = (h, same)
counts_listed files files' out out' (ended.Limit quantity limit) same h = (h, same)

pub counts_other : (files files' out out' : ℕ) (end : HomeEnd) → files' ≡ files → CountsPuts out out' end → CountsWrites files files' out out' end
counts_other files files' out out' ended.Exit same h = (same, h)
counts_other files files' out out' ended.Write same h = inr (same, h.0, h.1)
counts_other files files' out out' ended.Memory same h = (same, h)
counts_other files files' out out' ended.Stopped same h = (same, h)
counts_other files files' out out' ended.Unsupported same h = (same, h)
counts_other files files' out out' (ended.NoBoot number) same h = (same, h)
counts_other files files' out out' ended.NoMain same h = (same, h)
counts_other files files' out out' ended.Read same h = (same, h)
counts_other files files' out out' (ended.Limit quantity limit) same h = (same, h)
