-- What a function did, from what the functions did that it calls.
--
-- How a row is written so that it is proved with no answers:
-- 1. Its definition is `unfoldable`, and its attribute opens this one alone: `#[tactic(auto, unfolding(crate::specs::M::row))]`. It names no lemma.
--    Definitions that are `abbrev` (`over`, `over_asked`, `and_then`, `silent`, `test`) are open anyway.
-- 2. What changes a stack or a frame and asks nothing ensures { Does (row .. stack.old) result stack.new }.
-- 3. What changes one and asks ensures { Did (row .. frame.old) asks.old asks.new result frame.new }.
-- 4. A test that asks ensures { Checked (check ..) asks.old asks.new result }.
-- 5. A test that asks nothing takes no questions, and ensures { Checked (check ..) [] [] result }. A clause over all lists of questions doesn't serve.
-- 6. The body is straight: `f(..)?; g(..)?; h(..)`, at its end a call or `Ok(())`; before it `if .. { return Err(Stop::Fault(cause)); }`, `if .. { return f(..); }`
--    and `let Some(x) = .. else { return Err(..); };`. The calls are of any of these kinds. `&mut frame.stack` may be lent to a function on stacks.
-- 7. A loop is a function of its own, whose attribute opens the recursion that it follows. It takes one invariant, and no answers:
--    `for x in xs { f(asks, .., x)?; } Ok(())` against `each`: Leads (each (f ..) l.xs) (each (f ..) (drop l.x-index l.xs)) l.fn.asks l.asks
--    `loop { let [x, more @ ..] = left else { .. }; f(asks, ..)?; left = more; }` against a recursion r on lists: Leads (r l.xs) (r l.left) l.fn.asks l.asks
--    where the frame changes too: Leads (r l.xs l.fn.frame) (r (drop l.x-index l.xs) l.frame) l.fn.asks l.asks
--    `for i in 0..count { f(stack)?; } Ok(())` against a recursion r on the number, with using(crate::proofs::Asked::step_down):
--    r (l.count - l.i) l.stack ≡ r l.count l.fn.stack
-- The lemmas below are for what doesn't go so.
use Rattle.std.proofs.Common.{◌≡◌, ℕ, ◌+◌, ◌<◌, ◌≤◌, Bool, true, false, List, [], ◌++◌, length, drop, get_or, refl, sym, ap, ◌∙◌, append_assoc, subst, ◌-◌, suc, arith}
use Rattle.std.proofs.lemmas.List.{append-nil, drop_all, drop_more}
use Rattle.std.specs.Prelude.{Result, Ok, Err, IsErrAnd}
use Rattle.verify_rules.specs.declared.ask.Ask.{Ask}
use Rattle.verify_rules.specs.declared.cause.Cause.{Cause}
use Rattle.verify_rules.specs.declared.cause.Stop.{Stop}
use Rattle.verify_rules.specs.declared.cause.Stop.TheVariants.{Fault, Memory}
use Rattle.verify_rules.specs.Causes.{Typed, Does, where_true}
use Rattle.verify_rules.specs.Causes as causes
use Rattle.verify_rules.specs.Asking.{Asking, Check, Did, Checked, gives, refused, silent, follows, fine, test, and_then, each, ◌>>=◌}

-- ---- what asks nothing

pub did_silent : {A U : Type 0} (answer : Typed A) (asks : List Ask) (r : Result U Stop) (x : A) → Does answer r x → Did (silent answer) asks asks r x
did_silent answer asks (Ok u) x h = (sym (append-nil asks), h)
did_silent answer asks (Err (Fault cause)) x h = (sym (append-nil asks), h)
did_silent answer asks (Err Memory) x h = tt

pub did_gives : {A U : Type 0} (x : A) (asks : List Ask) (u : U) → Did (gives x) asks asks (Ok u) x
did_gives x asks u = (sym (append-nil asks), refl)

pub did_fine : {U : Type 0} (asks : List Ask) (u : U) → Checked fine asks asks (Ok u)
did_fine asks u = did_gives tt asks u

pub did_refused : {A : Type 0} (U : Type 0) (cause : Cause) (asks : List Ask) (x : A) → Did {U = U} (refused cause) asks asks (Err (Fault cause)) x
did_refused U cause asks x = (sym (append-nil asks), refl)

pub did_test : {U : Type 0} (cause : Cause) (holds : Bool) (asks : List Ask) (r : Result U Stop) → Does (where_true {A = Unit {0}} holds cause (Ok tt)) r tt → Checked (test cause holds) asks asks r
did_test cause true asks (Ok u) h = did_fine asks u
did_test cause false asks (Ok u) h = absurd cc
did_test {U} cause true asks (Err (Fault other)) h = absurd cc
did_test {U} cause false asks (Err (Fault other)) h = (sym (append-nil asks), h)
did_test cause holds asks (Err Memory) h = tt

-- a test that asked nothing of no questions asks nothing of any
pub did_nothing : {A U : Type 0} (a : Asking A) (asks : List Ask) (r : Result U Stop) (x : A) → Did a [] [] r x → Did a asks asks r x
did_nothing a asks (Ok u) x h = (sym (append-nil asks) ∙ ap (λ (l : List Ask). asks ++ l) h.0, h.1)
did_nothing a asks (Err (Fault cause)) x h = (sym (append-nil asks) ∙ ap (λ (l : List Ask). asks ++ l) h.0, h.1)
did_nothing a asks (Err Memory) x h = tt

-- The exit of a `?`, whose error is that of the call: c.from_residual.result and c.from_residual.ensures.1 of an answer.
pub did_exit : {A U : Type 0} (a : Asking A) (old new : List Ask) (r : Result U Stop) (e : Stop) (x : A) → IsErrAnd r (λ (y : Stop). y ≡ e) → Did {U = U} a old new (Err e) x → Did a old new r x
did_exit a old new (Ok u) e x s h = absurd s
did_exit {A} {U} a old new (Err y) e x s h = subst (λ (z : Stop). Did {U = U} a old new (Err z) x) (sym s) h

-- ---- one after another

module _ {A B : Type 0} (f : A → Asking B) (old mid : List Ask) where
  stop_at : (asks : List Ask) (o : Typed A) (cause : Cause) → mid ≡ old ++ asks → o ≡ Err cause → (mid ≡ old ++ (follows asks o f).asks) × ((follows asks o f).value ≡ Err cause)
  stop_at asks (Err c) cause e h = (e, cc)
  stop_at asks (Ok x) cause e h = absurd cc

  then_at : {V : Type 0} (asks : List Ask) (o : Typed A) (new : List Ask) (x : A) (r : Result V Stop) (y : B) → mid ≡ old ++ asks → o ≡ Ok x → Did (f x) mid new r y → Did (follows asks o f) old new r y
  then_at asks (Err c) new x r y e h k = absurd cc
  then_at {V} asks (Ok z) new x (Ok u) y e h k =
      let s : z ≡ x = cc in
      subst (λ (w : A). Did (follows asks (Ok w) f) old new (Ok u) y) (sym s) (k.0 ∙ ap (λ (l : List Ask). l ++ (f x).asks) e ∙ append_assoc old asks (f x).asks, k.1)
  then_at {V} asks (Ok z) new x (Err (Fault cause)) y e h k =
      let s : z ≡ x = cc in
      subst (λ (w : A). Did {U = V} (follows asks (Ok w) f) old new (Err (Fault cause)) y) (sym s) (k.0 ∙ ap (λ (l : List Ask). l ++ (f x).asks) e ∙ append_assoc old asks (f x).asks, k.1)
  then_at asks (Ok z) new x (Err Memory) y e h k = tt

-- A refusal says nothing of the value, so any stands there.
pub did_stop : {A B : Type 0} (U V : Type 0) (a : Asking A) (f : A → Asking B) (old new : List Ask) (e : Stop) (x : A) (y : B) → Did {U = U} a old new (Err e) x → Did {U = V} (a >>= f) old new (Err e) y
did_stop U V a f old new (Fault cause) x y h = stop_at f old new a.asks a.value cause h.0 h.1
did_stop U V a f old new Memory x y h = tt

pub did_then : {A B U V : Type 0} (a : Asking A) (f : A → Asking B) (old mid new : List Ask) (u : U) (x : A) (r : Result V Stop) (y : B) → Did a old mid (Ok u) x → Did (f x) mid new r y → Did (a >>= f) old new r y
did_then a f old mid new u x r y h k = then_at f old mid a.asks a.value new x r y h.0 h.1 k

pub checked_stop : {B : Type 0} (U V : Type 0) (a : Check) (b : Asking B) (old new : List Ask) (e : Stop) (y : B) → Checked {U = U} a old new (Err e) → Did {U = V} (and_then a b) old new (Err e) y
checked_stop U V a b old new e y h = did_stop U V a (λ (u : Unit {0}). b) old new e tt y h

pub checked_then : {B U V : Type 0} (a : Check) (b : Asking B) (old mid new : List Ask) (u : U) (r : Result V Stop) (y : B) → Checked a old mid (Ok u) → Did b mid new r y → Did (and_then a b) old new r y
checked_then a b old mid new u r y h k = did_then a (λ (w : Unit {0}). b) old mid new u tt r y h k

does_stop_at : {A B : Type 0} (f : A → Typed B) (o : Typed A) (cause : Cause) → o ≡ Err cause → causes.◌>>=◌ o f ≡ Err cause
does_stop_at f (Ok x) cause h = absurd cc
does_stop_at f (Err c) cause h = cc

pub does_stop : {A B : Type 0} (U V : Type 0) (a : Typed A) (f : A → Typed B) (e : Stop) (x : A) (y : B) → Does {U = U} a (Err e) x → Does {U = V} (causes.◌>>=◌ a f) (Err e) y
does_stop U V a f (Fault cause) x y h = does_stop_at f a cause h
does_stop U V a f Memory x y h = tt

pub does_then : {A B U V : Type 0} (a : Typed A) (f : A → Typed B) (u : U) (x : A) (r : Result V Stop) (y : B) → Does a (Ok u) x → Does (f x) r y → Does (causes.◌>>=◌ a f) r y
does_then a f u x r y h k = subst (λ (o : Typed _). Does (causes.◌>>=◌ o f) r y) (sym h) k

-- ---- loops

-- What is still to be asked after mid gives what was to be asked after old.
pub record Leads {A : Type 0} (whole rest : Asking A) (old mid : List Ask) : Type 0 where
  pub asks : old ++ whole.asks ≡ mid ++ rest.asks
  pub value : whole.value ≡ rest.value

pub leads_here : {A : Type 0} (a : Asking A) (old : List Ask) → Leads a a old old
leads_here a old = record { asks = refl; value = refl }

-- the rest answers for the whole
pub leads_to : {A U : Type 0} (whole rest : Asking A) (old mid new : List Ask) (r : Result U Stop) (x : A) → Leads whole rest old mid → Did rest mid new r x → Did whole old new r x
leads_to whole rest old mid new (Ok u) x l h = (h.0 ∙ sym l.asks, l.value ∙ h.1)
leads_to whole rest old mid new (Err (Fault cause)) x l h = (h.0 ∙ sym l.asks, l.value ∙ h.1)
leads_to whole rest old mid new (Err Memory) x l h = tt

on_at : {A B : Type 0} (f : A → Asking B) (mid mid2 asks : List Ask) (o : Typed A) (x : A) → mid2 ≡ mid ++ asks → o ≡ Ok x → Leads (follows asks o f) (f x) mid mid2
on_at f mid mid2 asks (Err cause) x e h = absurd cc
on_at {A} f mid mid2 asks (Ok z) x e h =
    let s : z ≡ x = cc in
    subst (λ (w : A). Leads (follows asks (Ok w) f) (f x) mid mid2) (sym s)
    (record { asks = sym (append_assoc mid asks (f x).asks) ∙ ap (λ (l : List Ask). l ++ (f x).asks) (sym e); value = refl })

-- one step was done
pub leads_on : {A B U : Type 0} (whole : Asking B) (a : Asking A) (f : A → Asking B) (old mid mid2 : List Ask) (u : U) (x : A) → Leads whole (a >>= f) old mid → Did a mid mid2 (Ok u) x → Leads whole (f x) old mid2
leads_on whole a f old mid mid2 u x l h =
    let k = on_at f mid mid2 a.asks a.value x h.0 h.1 in
    record { asks = l.asks ∙ k.asks; value = l.value ∙ k.value }

-- the step refused
pub leads_stop : {A B : Type 0} (U V : Type 0) (whole : Asking B) (a : Asking A) (f : A → Asking B) (old mid new : List Ask) (e : Stop) (x : A) (y : B) → Leads whole (a >>= f) old mid → Did {U = U} a mid new (Err e) x → Did {U = V} whole old new (Err e) y
leads_stop U V whole a f old mid new e x y l h = leads_to {U = V} whole (a >>= f) old mid new (Err e) y l (did_stop U V a f mid new e x y h)

-- ---- loops over a list: with the invariant Leads (each check xs) (each check (drop i xs)) at the entry and now

module _ {X : Type 0} (check : X → Check) (xs : List X) (i : ℕ) (whole : Check) (old mid : List Ask) where
  each_here : (x : X) → x ≡ get_or xs i x → i < length xs → each check (drop i xs) ≡ and_then (check x) (each check (drop (i + 1) xs))
  unfolding each
  each_here x at lt = ap (each check) (drop_more xs i x lt) ∙ ap (λ (y : X). and_then (check y) (each check (drop (i + 1) xs))) (sym at)

  pub each_on : {U : Type 0} (x : X) (mid2 : List Ask) (u : U) → x ≡ get_or xs i x → i < length xs → Leads whole (each check (drop i xs)) old mid → Checked (check x) mid mid2 (Ok u) → Leads whole (each check (drop (i + 1) xs)) old mid2
  each_on x mid2 u at lt l h =
      leads_on whole (check x) (λ (w : Unit {0}). each check (drop (i + 1) xs)) old mid mid2 u tt (subst (λ (c : Check). Leads whole c old mid) (each_here x at lt) l) h

  pub each_stop : (U V : Type 0) (x : X) (new : List Ask) (e : Stop) → x ≡ get_or xs i x → i < length xs → Leads whole (each check (drop i xs)) old mid → Checked {U = U} (check x) mid new (Err e) → Checked {U = V} whole old new (Err e)
  each_stop U V x new e at lt l h =
      leads_stop U V whole (check x) (λ (w : Unit {0}). each check (drop (i + 1) xs)) old mid new e tt tt (subst (λ (c : Check). Leads whole c old mid) (each_here x at lt) l) h

  each_none : length xs ≤ i → each check (drop i xs) ≡ fine
  unfolding each
  each_none le = ap (each check) (drop_all i xs le)

  pub each_end : {U : Type 0} (u : U) → length xs ≤ i → Leads whole (each check (drop i xs)) old mid → Checked whole old mid (Ok u)
  each_end u le l = leads_to whole fine old mid mid (Ok u) tt (subst (λ (c : Check). Leads whole c old mid) (each_none le) l) (did_gives tt mid u)

-- for a loop that runs a given number of times, against a recursion on that number
pub step_down : (n i : ℕ) → i < n → n - i ≡ suc (n - (i + 1))
step_down n i lt = omega arith
