-- The run of the main class, by its tree.
use Rattle.std.proofs.Common.{◌≡◌, ℕ, List, Bool, true, false, if◌then◌else◌, Option, Some, None, refl, ap, subst, ◌∙◌, inl, inr}
use Rattle.std.specs.Prelude.{⊤}
use Rattle.std.specs.Option.{option_map}
use Rattle.jsa_base.specs.Reading.{◌>>=◌, Read, when, all_read}
use Rattle.jsa_base.proofs.Codecs.{bind_some, some_is}
use Rattle.jsa_files.specs.Store.{Store}
use Rattle.loader_rules.specs.declared.loader.Loader.TheVariants.{App}
use Rattle.loader_rules.specs.Lists.{FolderLists}
use Rattle.class_tree.specs.declared.tree.ClassTree.{ClassTree}
use Rattle.class_tree.specs.ClassReading.{version_at, parts_at}
use Rattle.class_tree.specs.Trees.{tree_of}
use Rattle.class_tree.specs.WellFormed.{is_well_formed}
use Rattle.class_tree.specs.Spells.{is_read_version, tree_behind}
use Rattle.class_record.specs.Files.{Name, RunFiles, ClassFile, file_of}
use Rattle.class_record.specs.Readings.{Reading, IsClass, OtherVersion, NotClass, tree_reading, version_reading, reading_of, tree_in}
use Rattle.class_record.specs.Loading.{FoundClass, found_in, class_of}
use Rattle.class_linker.specs.Fresh.{world_in}
use Rattle.class_linker.specs.Rights as rights
use Rattle.first_form.specs.Runs.{Run, run_of, HasRun, HasNoRun, IsSomeRun}
use Rattle.home_run.specs.declared.end.HomeEnd.{HomeEnd}
use Rattle.home_run.specs.declared.end.HomeEnd.TheVariants as ended
use Rattle.home_run.specs.Answers.{MainHasRun, MainHasNoRun}
use Rattle.home_run.specs.Steps.{MainAnswersAs, MainAnswers}

-- ---- a tree that was read breaks no rule of form

abbrev well_formed_alone : ClassTree → Option ClassTree
well_formed_alone tree = when (is_well_formed tree) >>= λ formed. Some tree

passed : (b : Bool) (t tree : ClassTree) → (when b >>= λ formed. Some t) ≡ Some tree → (b ≡ true) × (t ≡ tree)
passed true t tree e = (refl, some_is t tree e)
passed false t tree e = absurd cc

formed_behind : (major : ℕ) (bytes : List ℕ) (tree : ClassTree) → tree_behind major bytes ≡ Some tree → is_well_formed tree ≡ true
unfolding tree_behind
formed_behind major bytes tree h =
    let a = bind_some (all_read (parts_at bytes)) (λ parts. tree_of major parts >>= well_formed_alone) tree h in
    let b = bind_some (tree_of major a.0) well_formed_alone tree a.2 in
    let g = passed (is_well_formed b.0) b.0 tree b.2 in
    subst (λ (x : ClassTree). is_well_formed x ≡ true) g.1 g.0

class_read : (b : Bool) (o : Option ClassTree) (tree : ClassTree) → (if b then tree_reading o else OtherVersion) ≡ IsClass tree → o ≡ Some tree
class_read true (Some t) tree h = ap tree_in h
class_read true None tree h = ap tree_in h
class_read false o tree h = absurd cc

formed_version : (o : Read (ℕ × ℕ)) (tree : ClassTree) → version_reading o ≡ IsClass tree → is_well_formed tree ≡ true
formed_version None tree h = absurd cc
formed_version (Some v) tree h = formed_behind v.0.1 v.1 tree (class_read (is_read_version v.0.0 v.0.1) (tree_behind v.0.1 v.1) tree h)

formed : (bytes : List ℕ) (tree : ClassTree) → reading_of bytes ≡ IsClass tree → is_well_formed tree ≡ true
unfolding reading_of
formed bytes tree h = formed_version (version_at bytes) tree h

-- ---- the class of a tree

-- A class is found for the name, and this is its tree, which breaks no rule of form.
record Found (p : RunFiles) (name : Name) (tree : ClassTree) : Type 0 where
  class : FoundClass
  found : class_of p App name ≡ Some class
  is : class.tree ≡ tree
  formed : is_well_formed tree ≡ true

abbrev with_tree : ClassFile → ClassTree → FoundClass
with_tree file tree = record { file = file; tree = tree }

in_file : (p : RunFiles) (name : Name) (tree : ClassTree) (file : ClassFile) (r : Reading) → reading_of file.bytes ≡ r → class_of p App name ≡ option_map (with_tree file) (tree_in r)
    → option_map (λ (c : FoundClass). c.tree) (option_map (with_tree file) (tree_in r)) ≡ Some tree → Found p name tree
in_file p name tree file (IsClass t) read is e =
    let same : t ≡ tree = some_is t tree e in
    record { class = with_tree file t; found = is; is = same; formed = formed file.bytes tree (read ∙ ap IsClass same) }
in_file p name tree file OtherVersion read is e = absurd cc
in_file p name tree file NotClass read is e = absurd cc

in_found : (p : RunFiles) (name : Name) (tree : ClassTree) (o : Option ClassFile) → class_of p App name ≡ found_in o → option_map (λ (c : FoundClass). c.tree) (found_in o) ≡ Some tree → Found p name tree
in_found p name tree None is e = absurd cc
in_found p name tree (Some file) is e = in_file p name tree file (reading_of file.bytes) refl is e

of_name : (p : RunFiles) (name : Name) (tree : ClassTree) → rights.tree_of p name ≡ Some tree → Found p name tree
of_name p name tree e = in_found p name tree (file_of p App name) refl e

-- ---- its run

main_run : (p : RunFiles) (name : Name) (tree : ClassTree) → Found p name tree → (run : Run) → HasRun tree run → MainHasRun p name run
main_run p name tree f run has = record { class = f.class; found = f.found; run_is = ap run_of f.is ∙ has.1 }

no_main_run : (p : RunFiles) (name : Name) (tree : ClassTree) → Found p name tree → HasNoRun tree → MainHasNoRun p name
no_main_run p name tree f none = record { class = f.class; found = f.found; none = ap run_of f.is ∙ none f.formed }

runs_as : (P Q : Run → Type 0) (A B : Type 0) (steps : ℕ) (before after : Option (List ℕ)) (end : HomeEnd) → ((run : Run) → P run → Q run) → (A → B) → MainAnswersAs P A steps before after end → MainAnswersAs Q B steps before after end
runs_as P Q A B steps before after ended.Exit f g h = record { run = h.run; of = f h.run h.of; returns = h.returns; out = h.out }
runs_as P Q A B steps before after ended.Stopped f g h = record { run = h.run; of = f h.run h.of; returns = h.returns; out = h.out }
runs_as P Q A B steps before after ended.Unsupported f g h = (g h.0, h.1)
runs_as P Q A B steps before after ended.Write f g h = record { run = h.run; of = f h.run h.of; out = h.out }
runs_as P Q A B steps before after ended.Memory f g (inl h) = inl h
runs_as P Q A B steps before after ended.Memory f g (inr h) = inr (record { run = h.run; of = f h.run h.of; out = h.out })
runs_as P Q A B steps before after (ended.NoBoot number) f g h = absurd h
runs_as P Q A B steps before after ended.NoMain f g h = absurd h
runs_as P Q A B steps before after ended.Read f g h = absurd h
runs_as P Q A B steps before after (ended.Limit quantity limit) f g h = absurd h

-- What the run of the tree answers is what the main class's run does.
pub main_answers : (store : Option Store) (folders : FolderLists) (name : Name) (tree : ClassTree) (steps : ℕ) (before after : Option (List ℕ)) (end : HomeEnd)
    → rights.ForFiles store folders (λ p. rights.tree_of p name ≡ Some tree) → MainAnswersAs (HasRun tree) (HasNoRun tree) steps before after end → MainAnswers (world_in store folders) name steps before after end
main_answers None folders name tree steps before after end told h = runs_as (HasRun tree) IsSomeRun (HasNoRun tree) ⊤ steps before after end (λ run has. (tree, has)) (λ none. tt) h
main_answers (Some store) folders name tree steps before after end told h =
    let p = rights.files_in store folders in
    let f = of_name p name tree told in
    runs_as (HasRun tree) (MainHasRun p name) (HasNoRun tree) (MainHasNoRun p name) steps before after end (main_run p name tree f) (no_main_run p name tree f) h
