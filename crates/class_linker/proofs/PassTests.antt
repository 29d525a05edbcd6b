-- What testing a loaded base answers is what the files say of its class.
use Rattle.std.proofs.Common.{◌≡◌, ℕ, zero, suc, List, [], ◌∷◌, Bool, true, false, not, Option, Some, None, refl, sym, ◌∙◌, ap, subst}
use Rattle.std.specs.Prelude.{if◌then◌else◌, slice_get}
use Rattle.std.specs.Option.{option_map}
use Rattle.std.specs.List.{AllByRecursion}
use Rattle.loader_rules.specs.declared.loader.Loader.{Loader}
use Rattle.loader_rules.specs.declared.loader.Loader.TheVariants.{App}
use Rattle.class_record.specs.declared.bases.Base.{Base}
use Rattle.class_record.specs.declared.fault.JavaFault.{JavaFault}
use Rattle.class_record.specs.declared.fault.JavaFault.TheVariants.{IllegalAccessError, IncompatibleClassChangeError}
use Rattle.class_record.specs.Files.{Name, RunFiles, file_of}
use Rattle.class_record.specs.Trees.{suits}
use Rattle.class_record.specs.Loading.{FoundClass, found_in, class_of, unless, and_then, tests, is_class_that, is_accessible}
use Rattle.class_record.specs.Facts.{Facts}
use Rattle.class_record.specs.Records.{facts_of, size_above, record_of}
use Rattle.class_record.specs.Worlds.{world_of_files}
use Rattle.class_record.specs.Calls.{AreOf}
use Rattle.class_linker.specs.Steps.{fault_of_base}
use Rattle.class_linker.specs.Finishing.{IsTested}

-- ---- the facts of the class with a number

pub all_at : {A : Type 0} (P : A → Type 0) (xs : List A) (k : ℕ) (x : A) → AllByRecursion P xs → slice_get xs k ≡ Some x → P x
all_at P [] k x h e = absurd cc
all_at P (y ∷ ys) zero x h e = let i : y ≡ x = cc in subst P i h.0
all_at P (y ∷ ys) (suc k) x h e = all_at P ys k x h.1 e

-- ---- each of the answers

abbrev pub refusal : Bool → Bool → Option JavaFault
refusal access kind = if not access then Some IllegalAccessError else if not kind then Some IncompatibleClassChangeError else None

-- ---- the tests

fault_by : (a b : Bool) → (and_then (unless a IllegalAccessError) (unless b IncompatibleClassChangeError)).fault ≡ refusal a b
fault_by true true = refl
fault_by true false = refl
fault_by false b = refl

events_by : (a b : Bool) → (and_then (unless a IllegalAccessError) (unless b IncompatibleClassChangeError)).events ≡ []
events_by true true = refl
events_by true false = refl
events_by false b = refl

-- Tests begin and complete nothing.
pub tests_quiet : (p : RunFiles) (name : Name) (loader : Loader) (base : Base) → (tests p name loader base).events ≡ []
tests_quiet p name loader base =
    events_by (is_class_that (is_accessible name loader base.name) (class_of p loader base.name)) (is_class_that (λ c. suits base.kind c.tree.flags) (class_of p loader base.name))

record HasClass (o : Option FoundClass) (f : Facts) : Type 0 where
  pub found : FoundClass
  pub at : o ≡ Some found
  pub flags : found.tree.flags ≡ f.flags
  pub loader : found.file.loader ≡ f.loader

class_by : (size : ℕ) (o : Option FoundClass) (f : Facts) → option_map (λ c. facts_of c.file.loader c.file.folder size c.tree) o ≡ Some f → HasClass o f
unfolding facts_of
class_by size None f e = absurd cc
class_by size (Some c) f e =
    let i : facts_of c.file.loader c.file.folder size c.tree ≡ f = cc in
    record { found = c; at = refl; flags = ap (λ (g : Facts). g.flags) i; loader = ap (λ (g : Facts). g.loader) i }

fault_at : (name : Name) (loader : Loader) (base : Base) (o : Option FoundClass) (c : FoundClass) → o ≡ Some c
    → (and_then (unless (is_class_that (is_accessible name loader base.name) o) IllegalAccessError) (unless (is_class_that (λ c. suits base.kind c.tree.flags) o) IncompatibleClassChangeError)).fault
    ≡ fault_of_base name loader base c.tree.flags c.file.loader
fault_at name loader base None c e = absurd cc
fault_at name loader base (Some d) c e =
    let i : d ≡ c = cc in
    fault_by (is_accessible name loader base.name d) (suits base.kind d.tree.flags) ∙ ap (λ (x : FoundClass). fault_of_base name loader base x.tree.flags x.file.loader) i

-- They end as the answer says, where the class's loader finds what the application loader does.
pub tests_answer : (p : RunFiles) (fs : List Facts) (name : Name) (loader : Loader) (base : Base) (answer : Option JavaFault) → AreOf (world_of_files p) fs
    → file_of p loader base.name ≡ file_of p App base.name → IsTested fs name loader base answer → (tests p name loader base).fault ≡ answer
tests_answer p fs name loader base answer of same t =
    let recorded : record_of p t.facts.name ≡ Some t.facts = all_at (λ (f : Facts). record_of p f.name ≡ Some f) fs t.id t.facts of t.at in
    let c = class_by (size_above p t.facts.name) (class_of p App t.facts.name) t.facts recorded in
    let at : class_of p loader base.name ≡ Some c.found = ap found_in same ∙ ap (class_of p App) (sym t.named) ∙ c.at in
    fault_at name loader base (class_of p loader base.name) c.found at
    ∙ ap (λ (n : ℕ). fault_of_base name loader base n c.found.file.loader) c.flags ∙ ap (fault_of_base name loader base t.facts.flags) c.loader ∙ sym t.is
