-- From required class to required class, and to the main class.
use Rattle.std.proofs.Common.{◌≡◌, ℕ, zero, suc, ◌+◌, ◌-◌, ◌<◌, ◌≤◌, List, [], ◌∷◌, ◌++◌, length, drop, Bool, true, false, if◌then◌else◌, not, Some, None, Result, Ok, Err, slice_get, refl, sym, subst, ◌∙◌, ap, append_assoc, arith}
use Rattle.class_record.specs.declared.fault.ClassesFault.{ClassesFault}
use Rattle.class_record.specs.declared.fault.ClassesFault.TheVariants.{Read, Limit, Memory}
use Rattle.class_record.specs.Files.{Name}
use Rattle.class_record.specs.Facts.{Facts}
use Rattle.class_record.specs.Loading.{Event, Outcome}
use Rattle.class_record.specs.Worlds.{ClassWorld, World, AsTold}
use Rattle.class_record.specs.Calls.{Progress, Leaves, Stops, passed}
use Rattle.class_record.proofs.Leaving.{leaves_both, passed_behind, passed_first}
use Rattle.class_record.specs.declared.start.Start.{Start}
use Rattle.class_record.specs.declared.start.Start.TheVariants as starts
use Rattle.class_record.specs.Required.{Required, required}
use Rattle.class_record.specs.Starting.{Started, NoBoot, after_events, fetch, start_main, start_from, Answers}
use Rattle.vm_start.specs.Steps.{AnswersTest, is_good, from_number, Leads}
use Rattle.vm_start.specs.Table.{numbered}
use Rattle.vm_start.proofs.Tellings.{told_two}

-- ---- the class with a number, and those behind it

taken : (rs : List Required) (k : ℕ) (r : Required) → Some r ≡ slice_get rs k → drop k rs ≡ r ∷ drop (suc k) rs
taken [] k r h = absurd cc
taken (x ∷ rs) zero r h = let e : x ≡ r = cc in ap (λ (y : Required). y ∷ rs) e
taken (x ∷ rs) (suc k) r h = taken rs k r h

gone : (rs : List Required) (k : ℕ) → None ≡ slice_get rs k → drop k rs ≡ []
gone [] zero h = refl
gone [] (suc k) h = refl
gone (x ∷ rs) zero h = absurd cc
gone (x ∷ rs) (suc k) h = gone rs k h

next_row : (number : ℕ) (r : Required) → Some r ≡ numbered number → from_number number ≡ r ∷ from_number (number + 1)
next_row zero r h = absurd cc
next_row (suc k) r h =
    let e : suc k - 1 ≡ k = omega arith in
    let f : suc k + 1 - 1 ≡ suc k = omega arith in
    ap (λ (n : ℕ). drop n required) e ∙ taken required k r h ∙ ap (λ (n : ℕ). r ∷ drop n required) (sym f)

no_row : (number : ℕ) → 1 ≤ number → None ≡ numbered number → from_number number ≡ []
no_row zero l h = absurd (omega (arith, l))
no_row (suc k) l h = let e : suc k - 1 ≡ k = omega arith in ap (λ (n : ℕ). drop n required) e ∙ gone required k h

within : (rs : List Required) (k : ℕ) (r : Required) → Some r ≡ slice_get rs k → k < length rs
within [] k r h = absurd cc
within (x ∷ rs) zero r h = omega arith
within (x ∷ rs) (suc k) r h = let s : k < length rs = within rs k r h in omega arith

pub row_within : (number : ℕ) (r : Required) → Some r ≡ numbered number → number ≤ length required
row_within zero r h = absurd cc
row_within (suc k) r h = let s : k < length required = within required k r h in omega (arith, s)

-- what grows twice grows
pub grown : (a b c : List Facts) → ((more : List Facts) × (b ≡ a ++ more)) → ((more : List Facts) × (c ≡ b ++ more)) → (more : List Facts) × (c ≡ a ++ more)
grown a b c h k = (h.0 ++ k.0, k.1 ∙ ap (λ (fs : List Facts). fs ++ k.0) h.1 ∙ append_assoc a h.0 k.0)

-- ---- one step

-- what follows events, where these were left behind
answers_behind : (w : ClassWorld) (main : Name) (d : List Event) (s : Started) (a b c : Progress) (result : Result Start ClassesFault) → Leaves w d a b → Answers w main s b c result → Answers w main (after_events d s) a c result
answers_behind w main d s a b c (Ok end) h k = (k.0, leaves_both w d s.events a b c h k.1)
answers_behind w main d s a b c (Err Read) h k = tt
answers_behind w main d s a b c (Err (Limit quantity limit)) h k =
    passed_behind w a.order d s.events h.limits ∙ ap (λ (order : List Name). passed w order s.events) (sym h.order) ∙ k
answers_behind w main d s a b c (Err Memory) h k = tt

-- the step at a class, where the rest comes to `s`
abbrev step : Bool → ℕ → Outcome → Started → Started
step good number o s = if not good then record { end = NoBoot number; events = o.events } else after_events o.events s

step_on : (w : ClassWorld) (main : Name) (number : ℕ) (o : Outcome) (s : Started) (good : Bool) (a b c : Progress) (result : Result Start ClassesFault) → true ≡ good → Leaves w o.events a b
    → Answers w main s b c result → Answers w main (step good number o s) a c result
step_on w main number o s good a b c result e h k = subst (λ (g : Bool). Answers w main (step g number o s) a c result) e (answers_behind w main o.events s a b c result h k)

step_ends : (w : ClassWorld) (main : Name) (number : ℕ) (o : Outcome) (s : Started) (good : Bool) (a b : Progress) (found : Start) → found ≡ starts.NoBoot number → false ≡ good → Leaves w o.events a b
    → Answers w main (step good number o s) a b (Ok found)
step_ends w main number o s good a b found i e h =
    subst (λ (f : Start). Answers w main (step good number o s) a b (Ok f)) (sym i) (subst (λ (g : Bool). Answers w main (step g number o s) a b (Ok (starts.NoBoot number))) e (refl, h))

step_stops : (w : ClassWorld) (main : Name) (number : ℕ) (o : Outcome) (s : Started) (good : Bool) (a b : Progress) (stop : ClassesFault) → Stops w o a stop → Answers w main (step good number o s) a b (Err stop)
step_stops w main number o s good a b Read h = tt
step_stops w main number o s true a b (Limit quantity limit) h = passed_first w a.order o.events s.events (quantity, limit) h
step_stops w main number o s false a b (Limit quantity limit) h = h
step_stops w main number o s good a b Memory h = tt

-- ---- along the required classes

row_answers : (w : ClassWorld) (main : Name) (number : ℕ) (r : Required) (a b : Progress) (result : Result Start ClassesFault) → Some r ≡ numbered number
    → Answers w main (step (is_good w r (fetch w r)) number (fetch w r) (start_from w main (number + 1) (from_number (number + 1)))) a b result
    → Answers w main (start_from w main number (from_number number)) a b result
row_answers w main number r a b result e h = subst (λ (rs : List Required). Answers w main (start_from w main number rs) a b result) (sym (next_row number r e)) h

leads_on : (w : ClassWorld) (main : Name) (number : ℕ) (r : Required) (a b c : Progress) → Some r ≡ numbered number → Leads w main a b number → AnswersTest w r (fetch w r) b c (Ok true)
    → Leads w main a c (number + 1)
leads_on w main number r a b c e h k = λ after result l.
    h after result (row_answers w main number r b after result e (step_on w main number (fetch w r) _ (is_good w r (fetch w r)) b c after result k.0 k.1 l))

ends_at : (w : ClassWorld) (main : Name) (number : ℕ) (r : Required) (a b c : Progress) → Some r ≡ numbered number → Leads w main a b number → AnswersTest w r (fetch w r) b c (Ok false)
    → Answers w main (start_from w main 1 required) a c (Ok (starts.NoBoot number))
ends_at w main number r a b c e h k =
    h c (Ok (starts.NoBoot number)) (row_answers w main number r b c (Ok (starts.NoBoot number)) e (step_ends w main number (fetch w r) _ (is_good w r (fetch w r)) b c (starts.NoBoot number) refl k.0 k.1))

stops_at : (w : ClassWorld) (main : Name) (number : ℕ) (r : Required) (a b : Progress) (stop : ClassesFault) → Some r ≡ numbered number → Leads w main a b number → Stops w (fetch w r) b stop
    → Answers w main (start_from w main 1 required) a b (Err stop)
stops_at w main number r a b stop e h k =
    h b (Err stop) (row_answers w main number r b b (Err stop) e (step_stops w main number (fetch w r) _ (is_good w r (fetch w r)) b b stop k))

main_at : (w : ClassWorld) (main : Name) (number : ℕ) (a b c : Progress) (result : Result Start ClassesFault) → 1 ≤ number → None ≡ numbered number → Leads w main a b number → Answers w main (start_main w main) b c result
    → Answers w main (start_from w main 1 required) a c result
main_at w main number a b c result l e h k =
    h c result (subst (λ (rs : List Required). Answers w main (start_from w main number rs) b c result) (sym (no_row number l e)) k)

-- ---- where the world is told

pub told_on : (world v : World) (main : Name) (number : ℕ) (r : Required) (a b c : Progress) → v ≡ world → Some r ≡ numbered number
    → AsTold world (λ w. Leads w main a b number) → AsTold v (λ w. AnswersTest w r (fetch w r) b c (Ok true)) → AsTold world (λ w. Leads w main a c (number + 1))
told_on world v main number r a b c same e h k =
    told_two world v (λ w. Leads w main a b number) (λ w. AnswersTest w r (fetch w r) b c (Ok true)) (λ w. Leads w main a c (number + 1)) same
    (λ w. leads_on w main number r a b c e) h k

pub told_end : (world v : World) (main : Name) (number : ℕ) (r : Required) (a b c : Progress) → v ≡ world → Some r ≡ numbered number
    → AsTold world (λ w. Leads w main a b number) → AsTold v (λ w. AnswersTest w r (fetch w r) b c (Ok false))
    → AsTold world (λ w. Answers w main (start_from w main 1 required) a c (Ok (starts.NoBoot number)))
told_end world v main number r a b c same e h k =
    told_two world v (λ w. Leads w main a b number) (λ w. AnswersTest w r (fetch w r) b c (Ok false)) (λ w. Answers w main (start_from w main 1 required) a c (Ok (starts.NoBoot number))) same
    (λ w. ends_at w main number r a b c e) h k

pub told_stop : (world v : World) (main : Name) (number : ℕ) (r : Required) (a b : Progress) (stop : ClassesFault) → v ≡ world → Some r ≡ numbered number
    → AsTold world (λ w. Leads w main a b number) → AsTold v (λ w. Stops w (fetch w r) b stop) → AsTold world (λ w. Answers w main (start_from w main 1 required) a b (Err stop))
told_stop world v main number r a b stop same e h k =
    told_two world v (λ w. Leads w main a b number) (λ w. Stops w (fetch w r) b stop) (λ w. Answers w main (start_from w main 1 required) a b (Err stop)) same
    (λ w. stops_at w main number r a b stop e) h k

pub told_main : (world v : World) (main : Name) (number : ℕ) (a b c : Progress) (result : Result Start ClassesFault) → v ≡ world → 1 ≤ number → None ≡ numbered number
    → AsTold world (λ w. Leads w main a b number) → AsTold v (λ w. Answers w main (start_main w main) b c result) → AsTold world (λ w. Answers w main (start_from w main 1 required) a c result)
told_main world v main number a b c result same l e h k =
    told_two world v (λ w. Leads w main a b number) (λ w. Answers w main (start_main w main) b c result) (λ w. Answers w main (start_from w main 1 required) a c result) same
    (λ w. main_at w main number a b c result l e) h k
