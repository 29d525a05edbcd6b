-- Auxiliary: what the end of one class's load comes to, and which class can be loaded.
use Rattle.std.specs.Prelude.{◌≡◌, ℕ, List, Option, Some, Result, Ok, Err, true, false, slice_get, ⊤}
use Rattle.std.specs.List.{AllByRecursion}
use Rattle.loader_rules.specs.declared.loader.Loader.{Loader}
use Rattle.class_tree.specs.declared.tree.ClassTree.{ClassTree}
use Rattle.class_record.specs.declared.fault.JavaFault.{JavaFault}
use Rattle.class_record.specs.declared.fault.ClassesFault.{ClassesFault}
use Rattle.class_record.specs.declared.bases.Base.{Base}
use Rattle.class_record.specs.Files.{Name, RunFiles}
use Rattle.class_tree.specs.ClassNames.{own_name}
use Rattle.class_record.specs.Trees.{bases_of, HasShortLists}
use Rattle.class_record.specs.Loading.{is_among}
use Rattle.class_record.specs.Facts.{Facts}
use Rattle.class_record.specs.Calls.{Progress}
use Rattle.loaded_classes.specs.Table.{ClassTable, added}
use Rattle.class_linker.specs.declared.readings.Held.TheVariants.{Tree, Loaded}
use Rattle.class_linker.specs.declared.readings.Reading.{Reading}
use Rattle.class_linker.specs.declared.under_way.Frame.{Frame}
use Rattle.class_linker.specs.Kept.{names_loaded, with_held}
use Rattle.class_linker.specs.Rights.{IsRight, IsPathOf}
use Rattle.class_linker.specs.Steps.{Goes, fault_of_base}

abbrev pub IsPathOnOk : RunFiles → ClassTable → List Frame → Result (Option JavaFault) ClassesFault → Type 0
IsPathOnOk p t path (Ok fault) = IsPathOf p t path
IsPathOnOk p t path (Err fault) = ⊤

-- what completing the innermost class comes to, with the test that follows
pub record Finishes (p : RunFiles) (was now : List Frame) (read : List Reading) (t : ClassTable) (before after : Progress) (answer : Result (Option JavaFault) ClassesFault) : Type 0 where
  pub goes : Goes p was now before after answer
  pub right : IsRight p read t
  pub path : IsPathOnOk p t now answer

-- what testing a loaded base answers: by the facts of the class of its name
pub record IsTested (classes : List Facts) (name : Name) (loader : Loader) (base : Base) (answer : Option JavaFault) : Type 0 where
  pub id : ℕ
  pub facts : Facts
  pub at : slice_get classes id ≡ Some facts
  pub named : facts.name ≡ base.name
  pub is : answer ≡ fault_of_base name loader base facts.flags facts.loader

-- The class whose tree is held at a place can be loaded.
pub record IsReady (read : List Reading) (t : ClassTable) (place : ℕ) (r : Reading) (tree : ClassTree) : Type 0 where
  pub at : slice_get read place ≡ Some r
  pub held : r.held ≡ Tree tree
  pub is_new : is_among (own_name tree) (names_loaded t) ≡ false
  pub bases : AllByRecursion (λ (b : Base). is_among b.name (names_loaded t) ≡ true) (bases_of tree)
  pub short : HasShortLists tree

-- It is loaded, or nothing changed.
abbrev pub LoadsTree : {E : Type 0} → Loader → ℕ → Reading → ClassTree → List Reading → List Reading → ClassTable → ClassTable → Result (Unit {0}) E → Type 0
LoadsTree loader place r tree read now t u (Ok done) = (now ≡ with_held read place Loaded) × (u ≡ added loader r.folder tree t)
LoadsTree loader place r tree read now t u (Err fault) = (now ≡ read) × (u ≡ t)
