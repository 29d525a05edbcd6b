-- All that is so where the innermost class is loaded.
use Rattle.std.proofs.Common.{◌≡◌, ℕ, ◌+◌, ◌<◌, ◌≤◌, List, [], ◌∷◌, length, Some, refl, sym, subst}
use Rattle.std.specs.Borrow.{Bor}
use Rattle.jsa_base.specs.declared.quantity.Quantity.TheVariants as quantities
use Rattle.class_tree.specs.declared.tree.ClassTree.{ClassTree}
use Rattle.class_record.specs.declared.fault.TheConstants.{MAX_LOADED}
use Rattle.class_record.specs.Files.{Name, RunFiles}
use Rattle.class_record.specs.declared.fault.ClassesFault.TheVariants.{Limit}
use Rattle.class_record.specs.Worlds.{world_of_files}
use Rattle.class_record.specs.Calls.{Progress, Stops}
use Rattle.loaded_classes.specs.Table.{ClassTable, added}
use Rattle.class_linker.specs.declared.readings.Held.TheVariants.{Loaded}
use Rattle.class_linker.specs.declared.readings.Reading.{Reading}
use Rattle.class_linker.specs.declared.under_way.Frame.{Frame}
use Rattle.class_linker.specs.Kept.{IsKept, IsFrame, IsPath, with_held, names_loaded, names_under, bases_left, GrowsTo}
use Rattle.class_linker.specs.Paths.{IsTop, without_top}
use Rattle.class_linker.specs.Rights.{IsRight, IsPathOf, progress_at}
use Rattle.class_linker.specs.Steps.{Leads, left_of, left_after, HasNone, HasNext, IsAwaited}
use Rattle.class_linker.specs.Finishing.{IsReady}
use Rattle.class_linker.proofs.CompleteKept.{own_is, is_ready, grows_added, more_added, kept_after, path_after, next_after, awaits_after}
use Rattle.class_linker.proofs.CompleteTold.{full_stops, completes_leads, right_after}

pub record Completed (rs now : List Reading) (t u : ClassTable) (was left : List Frame) : Type 0 where
  pub kept : IsKept now u
  pub path : IsPath now u left
  pub next : HasNext u left
  pub grows : GrowsTo t u
  pub more : length u.classes ≡ length t.classes + 1
  pub awaits : (name : Name) → IsAwaited name t was → IsAwaited name u left
  pub told : (p : RunFiles) (reads : List (List ℕ)) → IsRight p rs t → IsPathOf p t was
      → Leads (world_of_files p) (left_of p was) (left_after p left) (progress_at reads rs t) (progress_at reads now u) × IsRight p now u

completed_at : (rs : List Reading) (t : ClassTable) (f : Frame) (fs : List Frame) (k : IsPath rs t (f ∷ fs)) → IsKept rs t → bases_left f ≡ [] → length t.classes < MAX_LOADED
    → Completed rs (with_held rs f.place Loaded) t (added f.loader k.0.0.reading.folder k.0.0.tree t) (f ∷ fs) fs
completed_at rs t f fs k kept none room =
    let i : IsFrame rs t (names_under fs) f = k.0.0 in
    let own = own_is rs t (names_under fs) f i in
    record {
      kept = kept_after rs t f.place i.reading.folder f.loader f.name i.reading i.tree i.at i.name own kept;
      path = path_after rs t f.place i.reading.folder f.loader f.name i.reading i.tree i.at i.name own fs i.apart k.0.1 k.1;
      next = next_after rs t f.place i.reading.folder f.loader f.name i.reading i.tree i.at i.name own fs k.1;
      grows = grows_added f.loader i.reading.folder i.tree t;
      more = more_added f.loader i.reading.folder i.tree t;
      awaits = awaits_after rs t f.place i.reading.folder f.loader f.name i.reading i.tree i.at i.name own f fs refl;
      told = λ p reads right path. (completes_leads p rs t fs f i none reads room, right_after p rs t fs f i none right path.0.0);
    }

-- What loading a tree that is ready does.
abbrev pub Loading : List Reading → List Reading → ClassTable → ClassTable → Frame → Type 0
Loading rs now t u f = (r : Reading) (tree : ClassTree) → IsReady rs t f.place r tree → (now ≡ with_held rs f.place Loaded) × (u ≡ added f.loader r.folder tree t)

completed_by : (rs now : List Reading) (t u : ClassTable) (f : Frame) (fs left : List Frame) → IsKept rs t → IsPath rs t (f ∷ fs) → bases_left f ≡ [] → length t.classes < MAX_LOADED
    → Loading rs now t u f → left ≡ fs → Completed rs now t u (f ∷ fs) left
completed_by rs now t u f fs left kept k none room load e =
    let i : IsFrame rs t (names_under fs) f = k.0.0 in
    let did = load i.reading i.tree (is_ready rs t (names_under fs) f i kept none) in
    subst (λ (gs : List Frame). Completed rs now t u (f ∷ fs) gs) (sym e)
    (subst (λ (v : ClassTable). Completed rs now t v (f ∷ fs) fs) (sym did.1)
    (subst (λ (ns : List Reading). Completed rs ns t (added f.loader i.reading.folder i.tree t) (f ∷ fs) fs) (sym did.0) (completed_at rs t f fs k kept none room)))

pub completed : (rs now : List Reading) (t u : ClassTable) (path left : List Frame) (top : Bor Frame) → IsKept rs t → IsPath rs t path → HasNone path → IsTop path (Some top) → length t.classes < MAX_LOADED
    → Loading rs now t u top.now → left ≡ without_top path → Completed rs now t u path left
completed rs now t u [] left top kept k none at room load e = absurd none
completed rs now t u (f ∷ fs) left top kept k none at room load e =
    completed_by rs now t u f fs left kept k none room (subst (Loading rs now t u) at load) e

-- Where the table is full, the limit is passed.
pub full_told : (p : RunFiles) (rs : List Reading) (t : ClassTable) (path : List Frame) (at : Progress) → IsPath rs t path → HasNone path → at.order ≡ names_loaded t → MAX_LOADED ≤ length t.classes
    → Stops (world_of_files p) (left_of p path) at (Limit quantities.Loaded MAX_LOADED)
full_told p rs t [] at k none o full = absurd none
full_told p rs t (f ∷ fs) at k none o full = full_stops p rs t f fs at o none k.0.0.is_new full
