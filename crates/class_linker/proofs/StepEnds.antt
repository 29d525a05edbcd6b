-- Steps one after the other come to what the whole load comes to.
use Rattle.std.proofs.Common.{◌≡◌, List, [], ◌∷◌, Option, None, refl, sym, ◌∙◌, ap, subst}
use Rattle.std.specs.Prelude.{Result, Ok, Err}
use Rattle.loader_rules.specs.declared.loader.Loader.{Loader}
use Rattle.class_record.specs.declared.fault.JavaFault.{JavaFault}
use Rattle.class_record.specs.declared.fault.ClassesFault.{ClassesFault}
use Rattle.class_record.specs.Files.{Name, RunFiles}
use Rattle.class_record.specs.Loading.{Outcome, load_of}
use Rattle.class_record.specs.Worlds.{world_of_files}
use Rattle.class_record.specs.Calls.{Progress}
use Rattle.class_linker.specs.declared.under_way.Frame.{Frame}
use Rattle.class_linker.specs.Kept.{bases_left}
use Rattle.class_linker.specs.Paths.{IsTop}
use Rattle.class_linker.specs.Steps.{Leads, left_of, loads_rest, BeginsIn, Ends}
use Rattle.class_linker.proofs.StepOutcomes.{leads_comes, leads_stops, begins_leads}
use Rattle.class_linker.proofs.StepLeft.{left_alone}

-- One step and then the others.
pub ends_after : (p : RunFiles) (a b : Outcome) (x y z : Progress) (r : Result (Option JavaFault) ClassesFault) → Leads (world_of_files p) a b x y → Ends p b y z r → Ends p a x z r
ends_after p a b x y z (Ok fault) h k = leads_comes (world_of_files p) a b fault x y z h k
ends_after p a b x y z (Err fault) h k = leads_stops (world_of_files p) a b fault x y h k

pub no_top : (path : List Frame) → IsTop path None → path ≡ []
no_top [] h = refl
no_top (f ∷ fs) h = absurd h

-- A load begins, and its steps come to its end.
pub begun_ends : (p : RunFiles) (name : Name) (from : Loader) (path now : List Frame) (f : Frame) (x y z : Progress) (r : Result (Option JavaFault) ClassesFault) → path ≡ [] → now ≡ f ∷ path
    → BeginsIn p from name path now x y → Ends p (left_of p now) y z r → Ends p (load_of p from name) x z r
begun_ends p name from path now f x y z r e i h k =
    let j : now ≡ f ∷ [] = i ∙ ap (λ (fs : List Frame). f ∷ fs) e in
    begun_alone p name from f x y z r
    (subst (λ (fs : List Frame). BeginsIn p from name fs (f ∷ []) x y) e (subst (λ (fs : List Frame). BeginsIn p from name path fs x y) j h))
    (subst (λ (fs : List Frame). Ends p (left_of p fs) y z r) j k)
  where
    begun_alone : (p : RunFiles) (name : Name) (from : Loader) (f : Frame) (x y z : Progress) (r : Result (Option JavaFault) ClassesFault)
        → BeginsIn p from name [] (f ∷ []) x y → Ends p (left_of p (f ∷ [])) y z r → Ends p (load_of p from name) x z r
    begun_alone p name from f x y z r h k =
        let own = loads_rest p [] f (bases_left f) in
        ends_after p (load_of p from name) own x y z r
        (subst (λ (o : Outcome). Leads (world_of_files p) o own x y) (sym h.0) (begins_leads (world_of_files p) name own x y h.1))
        (subst (λ (o : Outcome). Ends p o y z r) (left_alone p f) k)
