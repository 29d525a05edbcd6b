-- What each step of a load comes to, in the files that a store tells.
use Rattle.std.proofs.Common.{◌≡◌, List, [], ◌∷◌, Option, Some, None, refl, sym, ◌∙◌, ap, subst}
use Rattle.std.specs.Prelude.{Ok, Err}
use Rattle.loader_rules.specs.declared.loader.Loader.{Loader}
use Rattle.loader_rules.specs.declared.loader.Loader.TheVariants.{App}
use Rattle.class_record.specs.declared.bases.Base.{Base}
use Rattle.class_record.specs.declared.fault.JavaFault.{JavaFault}
use Rattle.class_record.specs.declared.fault.ClassesFault.{ClassesFault}
use Rattle.class_record.specs.Files.{Name, RunFiles, ClassFile, file_of}
use Rattle.class_record.specs.Loading.{Outcome, and_then, on_found, load_under}
use Rattle.class_record.specs.Worlds.{world_of_files}
use Rattle.class_record.specs.Calls.{Progress, Stops}
use Rattle.class_record.proofs.Finding.{file_from_app}
use Rattle.class_record.proofs.Room.{load_level}
use Rattle.loaded_classes.specs.Table.{ClassTable}
use Rattle.class_linker.specs.declared.under_way.Frame.{Frame}
use Rattle.class_linker.specs.Kept.{names_under, bases_left, GrowsTo}
use Rattle.class_linker.specs.Paths.{without_top}
use Rattle.class_linker.specs.Rights.{IsPathOf, AreSeen, IsSeen}
use Rattle.class_linker.specs.Steps.{Leads, Comes, left_of, left_after, load_in, loads_rest, BeginsIn, IsAsked, IsSomePath, Goes, Passes}
use Rattle.class_linker.proofs.StepOutcomes.{leads_leads, leads_comes, ok_leads, begun_leads, stops_first}
use Rattle.class_linker.proofs.StepLeft.{left_cut}
use Rattle.class_linker.proofs.StepGrown.{frames_stay}

-- ---- the path below the innermost class

pub below_path : (p : RunFiles) (t u : ClassTable) → GrowsTo t u → (path : List Frame) → IsPathOf p t path → IsPathOf p u (without_top path)
below_path p t u g [] h = tt
below_path p t u g (f ∷ []) h = tt
below_path p t u g (f ∷ (e ∷ fs)) h = (frames_stay p t u g (e ∷ fs) h.0.1, h.1.1)

pub below_seen : (p : RunFiles) (t : ClassTable) (path : List Frame) → IsPathOf p t path → AreSeen p (without_top path)
below_seen p t [] h = tt
below_seen p t (f ∷ fs) h = h.1

-- ---- the next base

-- The load of the name that is asked for next is the first part of what is left.
pub left_next : (p : RunFiles) (name : Name) (from : Loader) (path : List Frame) → IsSomePath path → IsAsked name from path
    → left_of p path ≡ and_then (load_in p path from name) (left_after p path)
left_next p name from [] some asked = absurd some
left_next p name from (f ∷ fs) some asked =
    left_cut p f fs asked.0.0 asked.0.1 asked.0.2
    ∙ ap (λ (n : Name). and_then (load_in p (f ∷ fs) f.loader n) (left_after p (f ∷ fs))) asked.0.3
    ∙ ap (λ (l : Loader). and_then (load_in p (f ∷ fs) l name) (left_after p (f ∷ fs))) (sym asked.1)

found_same : (p : RunFiles) (under : List Name) (from : Loader) (name : Name) (o : Option ClassFile) → file_of p from name ≡ o → (on_found (load_under p) p under name o).fault ≡ None
    → file_of p from name ≡ file_of p App name
found_same p under from name None e h = absurd cc
found_same p under from name (Some file) e h = e ∙ sym (file_from_app p from name file e)

-- A name that loads from a loader is found alike by the application loader.
ok_same : (p : RunFiles) (under : List Name) (from : Loader) (name : Name) → (load_under p under from name).fault ≡ None → file_of p from name ≡ file_of p App name
ok_same p under from name h =
    found_same p under from name (file_of p from name) refl (ap (λ (o : Outcome). o.fault) (sym (load_level p under from name)) ∙ h)

next_is_seen : (p : RunFiles) (name : Name) (loader : Loader) (b : Base) (left bs : List Base) → left ≡ b ∷ bs → b.name ≡ name → file_of p loader name ≡ file_of p App name → IsSeen p loader left
next_is_seen p name loader b left bs h e s =
    subst (IsSeen p loader) (sym h) (subst (λ (n : Name). file_of p loader n ≡ file_of p App n) (sym e) s)

pub next_seen : (p : RunFiles) (t : ClassTable) (name : Name) (from : Loader) (path : List Frame) (before after : Progress) → IsSomePath path → IsAsked name from path → IsPathOf p t path
    → Comes (world_of_files p) (load_in p path from name) None before after → AreSeen p path
next_seen p t name from [] before after some asked h k = tt
next_seen p t name from (f ∷ fs) before after some asked h k =
    let same : file_of p f.loader name ≡ file_of p App name =
    subst (λ (l : Loader). file_of p l name ≡ file_of p App name) asked.1 (ok_same p (names_under (f ∷ fs)) from name k.fault_is) in
    (next_is_seen p name f.loader asked.0.0 (bases_left f) asked.0.1 asked.0.2 asked.0.3 same, h.1)

-- ---- what a step comes to

pub goes_on : (p : RunFiles) (path mid now : List Frame) (before at : Progress) (r : Option JavaFault) → Leads (world_of_files p) (left_of p path) (left_after p mid) before at
    → Passes p mid now at r → Goes p path now before at (Ok r)
goes_on p path mid now before at None h k = leads_leads (world_of_files p) (left_of p path) (left_after p mid) (left_of p now) before at at h k
goes_on p path mid now before at (Some fault) h k = leads_comes (world_of_files p) (left_of p path) (left_after p mid) (Some fault) before at at h k

pub goes_present : (p : RunFiles) (name : Name) (from : Loader) (path now : List Frame) (before at : Progress) (r : Option JavaFault) → IsSomePath path → IsAsked name from path
    → Comes (world_of_files p) (load_in p path from name) None before at → Passes p path now at r → Goes p path now before at (Ok r)
goes_present p name from path now before at r some asked h k =
    goes_on p path path now before at r
    (subst (λ (o : Outcome). Leads (world_of_files p) o (left_after p path) before at) (sym (left_next p name from path some asked))
    (ok_leads (world_of_files p) (load_in p path from name) (left_after p path) before at h)) k

goes_begun_at : (p : RunFiles) (name : Name) (from : Loader) (path : List Frame) (f : Frame) (before after : Progress) → IsSomePath path → IsAsked name from path
    → BeginsIn p from name path (f ∷ path) before after → Goes p path (f ∷ path) before after (Ok None)
unfolding left_after
goes_begun_at p name from path f before after some asked h =
    subst (λ (o : Outcome). Leads (world_of_files p) o (left_of p (f ∷ path)) before after) (sym (left_next p name from path some asked))
    (begun_leads (world_of_files p) name (load_in p path from name) (loads_rest p path f (bases_left f)) (left_after p path) before after h.0 h.1)

pub goes_begun : (p : RunFiles) (name : Name) (from : Loader) (path now : List Frame) (before after : Progress) (f : Frame) → now ≡ f ∷ path → IsSomePath path → IsAsked name from path
    → BeginsIn p from name path now before after → Goes p path now before after (Ok None)
goes_begun p name from path now before after f e some asked h =
    subst (λ (fs : List Frame). Goes p path fs before after (Ok None)) (sym e)
    (goes_begun_at p name from path f before after some asked (subst (λ (fs : List Frame). BeginsIn p from name path fs before after) e h))

pub goes_stops : (p : RunFiles) (name : Name) (from : Loader) (path now : List Frame) (before after : Progress) (fault : ClassesFault) → IsSomePath path → IsAsked name from path
    → Stops (world_of_files p) (load_in p path from name) before fault → Goes p path now before after (Err fault)
goes_stops p name from path now before after fault some asked h =
    subst (λ (o : Outcome). Stops (world_of_files p) o before fault) (sym (left_next p name from path some asked))
    (stops_first (world_of_files p) (load_in p path from name) (left_after p path) fault before h)

-- The next base is loaded already, and tested.
pub present_told : (p : RunFiles) (name : Name) (from : Loader) (path mid now : List Frame) (t u : ClassTable) (before at : Progress) (r : Option JavaFault) → IsSomePath path → IsAsked name from path
    → mid ≡ path → u ≡ t → IsPathOf p t path → Comes (world_of_files p) (load_in p path from name) None before at
    → (IsPathOf p u mid → AreSeen p mid → Passes p mid now at r × IsPathOf p u now) → Goes p path now before at (Ok r) × IsPathOf p u now
present_told p name from path mid now t u before at r some asked e i h k pass =
    let path_u : IsPathOf p u path = subst (λ (v : ClassTable). IsPathOf p v path) (sym i) h in
    let seen : AreSeen p path = next_seen p t name from path before at some asked h k in
    let both = pass (subst (IsPathOf p u) (sym e) path_u) (subst (AreSeen p) (sym e) seen) in
    (goes_present p name from path now before at r some asked k (subst (λ (m : List Frame). Passes p m now at r) e both.0), both.1)
