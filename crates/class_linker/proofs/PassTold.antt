-- What going on behind the next base of the innermost class comes to, in the files that a store tells.
use Rattle.std.proofs.Common.{◌≡◌, ℕ, ◌+◌, zero, suc, add-one, List, [], ◌∷◌, ◌++◌, take, drop, get_or, Option, Some, None, true, sym, ◌∙◌, ap, subst}
use Rattle.std.specs.Borrow.{Bor}
use Rattle.std.specs.List.{AllByRecursion}
use Rattle.loader_rules.specs.declared.loader.Loader.{Loader}
use Rattle.loader_rules.specs.declared.loader.Loader.TheVariants.{App}
use Rattle.class_record.specs.declared.bases.Base.{Base}
use Rattle.class_record.specs.declared.fault.JavaFault.{JavaFault}
use Rattle.class_record.specs.Files.{RunFiles, file_of}
use Rattle.class_record.specs.Loading.{Event, Outcome, and_then, is_among, tests}
use Rattle.class_record.specs.Orders.{IsBase}
use Rattle.class_record.specs.Worlds.{ClassWorld, world_of_files}
use Rattle.class_record.specs.Calls.{Progress, Leaves, AreOf}
use Rattle.class_record.proofs.Leaving.{leaves_nothing}
use Rattle.loaded_classes.specs.Table.{ClassTable}
use Rattle.class_linker.specs.declared.under_way.Frame.{Frame}
use Rattle.class_linker.specs.Kept.{names_loaded, bases_left, advanced}
use Rattle.class_linker.specs.Paths.{IsTop}
use Rattle.class_linker.specs.Rights.{order_of, IsPathOf, AreSeen, IsSeen}
use Rattle.class_linker.specs.Steps.{Leads, Comes, left_of, left_after, loads_rest, HasNext, Passes}
use Rattle.class_linker.specs.Finishing.{IsTested}
use Rattle.class_linker.proofs.StepOutcomes.{leads_same, ok_then, fault_then}
use Rattle.class_linker.proofs.StepLeft.{after_cut, after_none}
use Rattle.class_linker.proofs.StepGrown.{among_order}
use Rattle.class_linker.proofs.PassTests.{tests_answer, tests_quiet}

-- ---- one base more is done

pub take_next : {A : Type 0} (k : ℕ) (xs ys : List A) (y : A) → drop k xs ≡ y ∷ ys → take (suc k) xs ≡ take k xs ++ y ∷ []
take_next zero [] ys y h = absurd cc
take_next zero (x ∷ xs) ys y h = let i : x ≡ y = cc in ap (λ z. z ∷ []) i
take_next (suc k) [] ys y h = absurd cc
take_next (suc k) (x ∷ xs) ys y h = ap (λ zs. x ∷ zs) (take_next k xs ys y h)

pub drop_next : {A : Type 0} (k : ℕ) (xs ys : List A) (y : A) → drop k xs ≡ y ∷ ys → drop (suc k) xs ≡ ys
drop_next zero [] ys y h = absurd cc
drop_next zero (x ∷ xs) ys y h = cc
drop_next (suc k) [] ys y h = absurd cc
drop_next (suc k) (x ∷ xs) ys y h = drop_next k xs ys y h

pub head_is : {A : Type 0} (k : ℕ) (xs ys : List A) (y d : A) → drop k xs ≡ y ∷ ys → get_or xs k d ≡ y
head_is zero [] ys y d h = absurd cc
head_is zero (x ∷ xs) ys y d h = cc
head_is (suc k) [] ys y d h = absurd cc
head_is (suc k) (x ∷ xs) ys y d h = head_is k xs ys y d h

pub all_more : {A : Type 0} (P : A → Type 0) (xs : List A) (y : A) → AllByRecursion P xs → P y → AllByRecursion P (xs ++ y ∷ [])
all_more P [] y h k = (k, tt)
all_more P (x ∷ xs) y h k = (h.0, all_more P xs y h.1 k)

-- ---- outcomes in which nothing happens

quiet_ok : (a b : Outcome) → a.fault ≡ None → a.events ≡ [] → and_then a b ≡ b
quiet_ok a b f e = ok_then a b f ∙ ap (λ (es : List Event). let o : Outcome = record { fault = b.fault; events = es ++ b.events } in o) e

quiet_leads : (w : ClassWorld) (a b : Outcome) (x : Progress) → a.fault ≡ None → a.events ≡ [] → Leads w (and_then a b) b x x
quiet_leads w a b x f e = subst (λ (o : Outcome). Leads w o b x x) (sym (quiet_ok a b f e)) (leads_same w b x)

quiet_comes : (w : ClassWorld) (a b : Outcome) (fault : JavaFault) (x : Progress) → a.fault ≡ Some fault → a.events ≡ [] → Comes w (and_then a b) (Some fault) x x
quiet_comes w a b fault x f e =
    subst (λ (o : Outcome). Comes w o (Some fault) x x) (sym (fault_then fault a b f))
    (record { fault_is = f; leaves = subst (λ (es : List Event). Leaves w es x x) (sym e) (leaves_nothing w x) })

-- ---- the next base

record IsNextBase (p : RunFiles) (t : ClassTable) (f : Frame) (base : Base) (rest : List Base) (answer : Option JavaFault) : Type 0 where
  pub left : bases_left f ≡ base ∷ rest
  pub loaded : is_among base.name (names_loaded t) ≡ true
  pub same : file_of p f.loader base.name ≡ file_of p App base.name
  pub ends : (tests p f.name f.loader base).fault ≡ answer

seen_first : (p : RunFiles) (loader : Loader) (left rest : List Base) (b : Base) → left ≡ b ∷ rest → IsSeen p loader left → file_of p loader b.name ≡ file_of p App b.name
seen_first p loader left rest b e h = subst (IsSeen p loader) e h

next_base : (p : RunFiles) (t : ClassTable) (f top : Frame) (fs : List Frame) (base item : Base) (rest : List Base) (answer : Option JavaFault) → AreOf (world_of_files p) t.classes → AreSeen p (f ∷ fs)
    → bases_left f ≡ base ∷ rest → is_among base.name (names_loaded t) ≡ true → top ≡ f → item ≡ get_or top.bases top.done item → IsTested t.classes top.name top.loader item answer → IsNextBase p t f base rest answer
next_base p t f top fs base item rest answer of seen left loaded e i tested =
    let j : item ≡ base = i ∙ ap (λ (g : Frame). get_or g.bases g.done item) e ∙ head_is f.done f.bases rest base item left in
    let same = seen_first p f.loader (bases_left f) rest base left seen.0 in
    let k : IsTested t.classes f.name f.loader base answer =
    subst (λ (b : Base). IsTested t.classes f.name f.loader b answer) j (subst (λ (g : Frame). IsTested t.classes g.name g.loader item answer) e tested) in
    record { left = left; loaded = loaded; same = same; ends = tests_answer p t.classes f.name f.loader base answer of same k }

-- ---- what comes of it

goes_on : (p : RunFiles) (t : ClassTable) (f : Frame) (fs : List Frame) (base : Base) (rest : List Base) (at : Progress) → IsNextBase p t f base rest None
    → Leads (world_of_files p) (left_after p (f ∷ fs)) (left_of p (advanced (f ∷ fs))) at at
goes_on p t f fs base rest at n =
    subst (λ (o : Outcome). Leads (world_of_files p) o (left_of p (advanced (f ∷ fs))) at at) (sym (after_cut p f fs base rest n.left))
    (subst (λ (bs : List Base). Leads (world_of_files p) (and_then (tests p f.name f.loader base) (and_then (loads_rest p fs f rest) (left_after p fs))) (and_then (loads_rest p fs f bs) (left_after p fs)) at at)
    (sym (ap (λ k. drop k f.bases) (add-one f.done) ∙ drop_next f.done f.bases rest base n.left))
    (quiet_leads (world_of_files p) (tests p f.name f.loader base) (and_then (loads_rest p fs f rest) (left_after p fs)) at n.ends (tests_quiet p f.name f.loader base)))

path_on : (p : RunFiles) (t : ClassTable) (f : Frame) (fs : List Frame) (base : Base) (rest : List Base) → IsNextBase p t f base rest None → IsPathOf p t (f ∷ fs) → IsPathOf p t (advanced (f ∷ fs))
path_on p t f fs base rest n h =
    let one : IsBase p (order_of t) f.name f.loader base = record { loaded = among_order base.name t ∙ n.loaded; same = n.same; passes = n.ends } in
    let more : AllByRecursion (IsBase p (order_of t) f.name f.loader) (take f.done f.bases ++ base ∷ []) = all_more _ (take f.done f.bases) base h.0.0 one in
    let done : AllByRecursion (IsBase p (order_of t) f.name f.loader) (take (f.done + 1) f.bases) =
    subst (AllByRecursion (IsBase p (order_of t) f.name f.loader)) (sym (ap (λ k. take k f.bases) (add-one f.done) ∙ take_next f.done f.bases rest base n.left)) more in
    ((done, h.0.1), h.1)

-- The base passes.
pub passes_told : (p : RunFiles) (t : ClassTable) (path now : List Frame) (top : Bor Frame) (item : Base) (at : Progress) → AreOf (world_of_files p) t.classes → IsPathOf p t path → AreSeen p path
    → HasNext t path → IsTop path (Some top) → item ≡ get_or top.now.bases top.now.done item → IsTested t.classes top.now.name top.now.loader item None → now ≡ advanced path
    → Passes p path now at None × IsPathOf p t now
passes_told p t [] now top item at of h seen next is i tested e = absurd cc
passes_told p t (f ∷ fs) now top item at of h seen next is i tested e =
    let n = next_base p t f top.now fs next.0 item next.1 None of seen next.2 next.3 is i tested in
    subst (λ (gs : List Frame). Passes p (f ∷ fs) gs at None × IsPathOf p t gs) (sym e)
    (goes_on p t f fs next.0 next.1 at n, path_on p t f fs next.0 next.1 n h)

-- The base is refused.
pub refused_told : (p : RunFiles) (t : ClassTable) (path : List Frame) (top : Bor Frame) (item : Base) (fault : JavaFault) (at : Progress) → AreOf (world_of_files p) t.classes → AreSeen p path
    → HasNext t path → IsTop path (Some top) → item ≡ get_or top.now.bases top.now.done item → IsTested t.classes top.now.name top.now.loader item (Some fault)
    → Comes (world_of_files p) (left_after p path) (Some fault) at at
refused_told p t [] top item fault at of seen next is i tested = absurd cc
refused_told p t (f ∷ fs) top item fault at of seen next is i tested =
    let n = next_base p t f top.now fs next.0 item next.1 (Some fault) of seen next.2 next.3 is i tested in
    subst (λ (o : Outcome). Comes (world_of_files p) o (Some fault) at at) (sym (after_cut p f fs next.0 next.1 n.left))
    (quiet_comes (world_of_files p) (tests p f.name f.loader next.0) (and_then (loads_rest p fs f next.1) (left_after p fs)) fault at n.ends (tests_quiet p f.name f.loader next.0))

-- No class is under way.
pub none_told : (p : RunFiles) (path : List Frame) (at : Progress) → path ≡ [] → Leads (world_of_files p) (left_after p path) (left_of p path) at at
none_told p path at e =
    subst (λ (fs : List Frame). Leads (world_of_files p) (left_after p fs) (left_of p fs) at at) (sym e)
    (subst (λ (o : Outcome). Leads (world_of_files p) o (left_of p []) at at) (sym (after_none p)) (leads_same (world_of_files p) (left_of p []) at))
