-- What a run over a home, and the making of a home, answer where nothing fails.
use Rattle.std.proofs.Common.{◌≡◌, ◌≢◌, ◌⊎◌, ℕ, Bool, List, Option, Some, None, sym, ap, subst, ◌∙◌, inl, inr}
use Rattle.std.specs.Prelude.{Result, Ok, Err}
use Rattle.jsa_base.proofs.Codecs.{some_is}
use Rattle.jsa_base.specs.declared.quantity.Quantity.{Quantity}
use Rattle.jsa_files.specs.declared.fault.FilesFault.TheVariants as files
use Rattle.jsa_files.specs.Store.{Contents, Store}
use Rattle.jsa_files.specs.Sinks.{GrowsBy}
use Rattle.loader_rules.specs.declared.loader.Loader.TheVariants.{App}
use Rattle.class_tree.specs.declared.tree.ClassTree.{ClassTree}
use Rattle.class_record.specs.Files.{Name, RunFiles}
use Rattle.class_record.specs.Loading.{FoundClass, class_of}
use Rattle.first_form.specs.Runs.{Run, run_of, Runs}
use Rattle.class_record.specs.Starting as starts
use Rattle.boot_library.specs.declared.fault.HomeFault.{HomeFault}
use Rattle.boot_library.specs.declared.fault.HomeFault.TheVariants as faults
use Rattle.class_folder.specs.ClassFiles.{after_files}
use Rattle.boot_library.specs.Home.{HomeAnswers, home_files, boot_text}
use Rattle.home_run.specs.declared.end.HomeEnd.{HomeEnd}
use Rattle.home_run.specs.declared.end.HomeEnd.TheVariants as ends
use Rattle.command_words.specs.HomeWords.{HomeRequest}
use Rattle.home_run.specs.Requests.{run_files}
use Rattle.home_run.specs.Answers as home
use Rattle.jsa_files.specs.Told.{contents_told, reads_told}
use Rattle.jsa.specs.declared.ended.Ended.{Ended}
use Rattle.jsa.specs.declared.ended.Ended.TheVariants.{BadText, ReadFault, WriteFault, Limit, Memory}
use Rattle.jsa.specs.HomeRuns.{end_of_run, HomeRunAnswers, end_of_home, MakeHomeAnswers}
use Rattle.jsa.specs.Completes.{EndsAs, HomeRunCompletes, MakeHomeCompletes}

-- ---- causes that exclude each other

boot_main : (n : ℕ) → starts.NoBoot n ≢ starts.NoMain
boot_main n e = cc

boot_ready : (n : ℕ) → starts.NoBoot n ≢ starts.Ready
boot_ready n e = cc

main_ready : starts.NoMain ≢ starts.Ready
main_ready e = cc

no_limit : (x : Quantity × ℕ) → ◌≡◌ {A = Option (Quantity × ℕ)} None (Some x) → ⊥
no_limit x e = cc

no_run : (q : Run) → ◌≡◌ {A = Option Run} None (Some q) → ⊥
no_run q e = cc

same_class : (p : RunFiles) (name : Name) (c d : FoundClass) → class_of p App name ≡ Some c → class_of p App name ≡ Some d → c ≡ d
same_class p name c d e f = some_is c d (sym e ∙ f)

same_run : (p : RunFiles) (name : Name) (q s : Run) → home.MainHasRun p name q → home.MainHasRun p name s → q ≡ s
same_run p name q s a b =
    some_is q s (sym a.run_is ∙ ap (λ (c : FoundClass). run_of c.tree) (same_class p name a.class b.class a.found b.found) ∙ b.run_is)

not_both : (p : RunFiles) (name : Name) (q : Run) → home.MainHasRun p name q → home.MainHasNoRun p name → ⊥
not_both p name q a b =
    no_run q (sym b.none ∙ ap (λ (c : FoundClass). run_of c.tree) (same_class p name b.class a.class b.found a.found) ∙ a.run_is)

-- ---- a run over a home

-- The main class was run, and returned from main or didn't.
ran : (contents : Contents) (r : HomeRequest) (before after : Option (List ℕ)) (ended : Ended) (returned : Bool) (ro rn : Option (List (List ℕ))) → home.Starts contents r starts.Ready ro rn → Runs (home.MainHasRun (run_files contents r) r.name) r.steps returned before after
    → EndsAs returned ended → HomeRunCompletes contents r before after ended
ran contents r before after ended returned ro rn s x is = record {
  no_boot = λ number t. absurd (boot_ready number (sym t.ends ∙ s.ends));
  no_main = λ t. absurd (main_ready (sym t.ends ∙ s.ends));
  other = λ t none. absurd (not_both (run_files contents r) r.name x.run x.of none);
  runs = λ t run has. inl (subst (λ (q : Run). EndsAs (q r.steps).returned ended × GrowsBy before after (q r.steps).out) (same_run (run_files contents r) r.name x.run run x.of has)
      (subst (λ (b : Bool). EndsAs b ended) (sym x.returns) is, x.out));
  limit = λ quantity most e. absurd (no_limit (quantity, most) (sym s.within ∙ e));
}

no_memory : (contents : Contents) (r : HomeRequest) (before after : Option (List ℕ)) (ended : Ended) → ended ≡ Memory → HomeRunCompletes contents r before after ended
no_memory contents r before after ended e = record {
  no_boot = λ number t. inr e;
  no_main = λ t. inr e;
  other = λ t none. inr e;
  runs = λ t run has. inr e;
  limit = λ quantity most f. inr e;
}

run_told : (contents : Contents) (new : Option Contents) (counts : ℕ × ℕ) (ro rn : Option (List (List ℕ))) (r : HomeRequest) (before after : Option (List ℕ)) (end : HomeEnd) (ended : Ended) → ended ≡ end_of_run end → home.Answers contents new counts ro rn r before after end
    → ended ≢ ReadFault → ended ≢ WriteFault → HomeRunCompletes contents r before after ended
run_told contents new counts ro rn r before after ends.Exit ended is h rf wf = ran contents r before after ended _ ro rn h.0 h.1 is
run_told contents new counts ro rn r before after ends.Stopped ended is h rf wf = ran contents r before after ended _ ro rn h.0 h.1 is
run_told contents new counts ro rn r before after ends.Unsupported ended is h rf wf = record {
  no_boot = λ number t. absurd (boot_ready number (sym t.ends ∙ h.0.ends));
  no_main = λ t. absurd (main_ready (sym t.ends ∙ h.0.ends));
  other = λ t none. inl is;
  runs = λ t run has. absurd (not_both (run_files contents r) r.name run has h.1);
  limit = λ quantity most e. absurd (no_limit (quantity, most) (sym h.0.within ∙ e));
}
run_told contents new counts ro rn r before after (ends.NoBoot n) ended is h rf wf = record {
  no_boot = λ number t. inl is;
  no_main = λ t. absurd (boot_main n (sym h.0.ends ∙ t.ends));
  other = λ t none. absurd (boot_ready n (sym h.0.ends ∙ t.ends));
  runs = λ t run has. absurd (boot_ready n (sym h.0.ends ∙ t.ends));
  limit = λ quantity most e. absurd (no_limit (quantity, most) (sym h.0.within ∙ e));
}
run_told contents new counts ro rn r before after ends.NoMain ended is h rf wf = record {
  no_boot = λ number t. absurd (boot_main number (sym t.ends ∙ h.0.ends));
  no_main = λ t. inl is;
  other = λ t none. absurd (main_ready (sym h.0.ends ∙ t.ends));
  runs = λ t run has. absurd (main_ready (sym h.0.ends ∙ t.ends));
  limit = λ quantity most e. absurd (no_limit (quantity, most) (sym h.0.within ∙ e));
}
run_told contents new counts ro rn r before after (ends.Limit q m) ended is h rf wf = record {
  no_boot = λ number t. absurd (no_limit (q, m) (sym t.within ∙ h.0));
  no_main = λ t. absurd (no_limit (q, m) (sym t.within ∙ h.0));
  other = λ t none. absurd (no_limit (q, m) (sym t.within ∙ h.0));
  runs = λ t run has. absurd (no_limit (q, m) (sym t.within ∙ h.0));
  limit = λ quantity most e. inl (is ∙ ap (λ (x : Quantity × ℕ). Limit x.0 x.1) (some_is (q, m) (quantity, most) (sym h.0 ∙ e)));
}
run_told contents new counts ro rn r before after ends.Read ended is h rf wf = absurd (rf is)
run_told contents new counts ro rn r before after ends.Write ended is h rf wf = absurd (wf is)
run_told contents new counts ro rn r before after ends.Memory ended is h rf wf = no_memory contents r before after ended is

pub run_completes : (old : Store) (new : Option Store) (counts : ℕ × ℕ) (r : HomeRequest) (before after : Option (List ℕ)) (subject : List ℕ) (ended : Ended) → HomeRunAnswers (Some old) new counts r before after subject ended → ended ≢ ReadFault → ended ≢ WriteFault
    → HomeRunCompletes old.contents r before after ended
run_completes old new counts r before after subject ended h rf wf = by h.is
  where
    by : (ended ≡ end_of_run h.end) ⊎ (ended ≡ Memory) → HomeRunCompletes old.contents r before after ended
    by (inl is) = run_told old.contents (contents_told new) counts (Some old.reads) (reads_told new) r before after h.end ended is h.run rf wf
    by (inr is) = no_memory old.contents r before after ended is

-- ---- the making of a home

line_is : (x y : ℕ) → ◌≡◌ {A = Result (List ClassTree) ℕ} (Err x) (Err y) → x ≡ y
line_is x y e = cc

trees_is : (x y : List ClassTree) → ◌≡◌ {A = Result (List ClassTree) ℕ} (Ok x) (Ok y) → x ≡ y
trees_is x y e = cc

trees_or_line : (trees : List ClassTree) (line : ℕ) → ◌≡◌ {A = Result (List ClassTree) ℕ} (Ok trees) (Err line) → ⊥
trees_or_line trees line e = cc

made_memory : (old new : Option Contents) (dir : List ℕ) (ended : Ended) → ended ≡ Memory → MakeHomeCompletes old new dir ended
made_memory old new dir ended e = record { bad = λ line b. inr e; written = λ x. inr e }

made_told : (old new : Option Contents) (counts : ℕ × ℕ) (dir : List ℕ) (made : Result (Unit {0}) HomeFault) (ended : Ended) → ended ≡ end_of_home made → HomeAnswers old new counts dir boot_text made → ended ≢ WriteFault → MakeHomeCompletes old new dir ended
made_told old new counts dir (Ok done) ended is h wf = record {
  bad = λ line b. absurd (trees_or_line h.0.trees line (sym h.0.is ∙ b));
  written = λ x. inl (is, h.2 ∙ ap (λ (trees : List ClassTree). after_files old (home_files dir trees)) (trees_is h.0.trees x.trees (sym h.0.is ∙ x.is)));
}
made_told old new counts dir (Err (faults.Line number)) ended is h wf = record {
  bad = λ line b. inl (is ∙ ap BadText (line_is number line (sym h.0 ∙ b)));
  written = λ x. absurd (trees_or_line x.trees number (sym x.is ∙ h.0));
}
made_told old new counts dir (Err (faults.Files files.Failed)) ended is h wf = absurd (wf is)
made_told old new counts dir (Err (faults.Files files.Memory)) ended is h wf = made_memory old new dir ended is
made_told old new counts dir (Err (faults.Files (files.TooLarge size))) ended is h wf = absurd h
made_told old new counts dir (Err (faults.Files (files.TooMany count))) ended is h wf = absurd h
made_told old new counts dir (Err faults.Memory) ended is h wf = made_memory old new dir ended is

pub home_completes : (old new : Option Contents) (counts : ℕ × ℕ) (dir : List ℕ) (ended : Ended) → MakeHomeAnswers old new counts dir ended → ended ≢ WriteFault → MakeHomeCompletes old new dir ended
home_completes old new counts dir ended h wf = by h.is
  where
    by : (ended ≡ end_of_home h.made) ⊎ (ended ≡ Memory) → MakeHomeCompletes old new dir ended
    by (inl is) = made_told old new counts dir h.made ended is h.answer wf
    by (inr is) = made_memory old new dir ended is
