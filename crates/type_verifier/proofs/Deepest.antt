-- Operands on a stack, from the deepest on.
use Rattle.std.proofs.Common.{◌≡◌, ℕ, suc, zero, ◌+◌, ◌-◌, ◌<◌, ◌≤◌, cond, List, [], ◌∷◌, ◌++◌, length, drop, get_or, Option, None, Some, refl, sym, ap, ◌∙◌, subst, add-one, arith}
use Rattle.std.specs.Prelude.{slice_get, nat_le, MatchOption, Result, Ok, Err}
use Rattle.std.proofs.lemmas.Bool.{le-leb, lt-leb}
use Rattle.std.proofs.lemmas.List.{drop_all, drop_more}
use Rattle.verify_rules.specs.declared.ask.Ask.{Ask}
use Rattle.verify_rules.specs.declared.types.VType.{VType}
use Rattle.verify_rules.specs.declared.cause.Cause.TheVariants.{Operands}
use Rattle.verify_rules.specs.declared.cause.Stop.{Stop}
use Rattle.verify_rules.specs.declared.cause.Stop.TheVariants.{Fault}
use Rattle.verify_rules.specs.Asking.{Asking, Check, Did, Checked, gives, refused, fine, and_then}
use Rattle.verify_rules.specs.Assign.{assign}
use Rattle.verify_rules.specs.Calls.{all_assign, operands, took}
use Rattle.type_verifier.proofs.Asked.{Leads, leads_here, leads_on, leads_stop, leads_to, did_gives, did_refused, checked_then, checked_stop}

-- the item at a place comes before those above it
pub operands_more : (k : ℕ) (stack : List VType) (t : VType) → slice_get stack k ≡ Some t → operands (suc k) stack ≡ t ∷ operands k stack
operands_more k [] t e = absurd cc
operands_more zero (x ∷ stack) t e = cc
operands_more (suc k) (x ∷ stack) t e = ap (λ (ts : List VType). ts ++ x ∷ []) (operands_more k stack t e)

-- what is still to be compared after so many of the types
abbrev pub still : List VType → List VType → ℕ → Check
still wanted stack k = all_assign (operands (length wanted - k) stack) (drop k wanted)

module _ (wanted stack : List VType) (k : ℕ) (a t : VType) (lt : k < length wanted) (to : t ≡ get_or wanted k t) (from : slice_get stack (length wanted - 1 - k) ≡ Some a) where
  assign_here : still wanted stack k ≡ and_then (assign a t) (still wanted stack (k + 1))
  unfolding all_assign
  assign_here =
      let n : length wanted - k ≡ suc (length wanted - 1 - k) = omega arith in
      let m : length wanted - 1 - k ≡ length wanted - (k + 1) = omega arith in
      let d : drop k wanted ≡ t ∷ drop (k + 1) wanted = drop_more wanted k t lt ∙ ap (λ (x : VType). x ∷ drop (k + 1) wanted) (sym to) in
      let o : operands (suc (length wanted - 1 - k)) stack ≡ a ∷ operands (length wanted - (k + 1)) stack =
      operands_more (length wanted - 1 - k) stack a from ∙ ap (λ (i : ℕ). a ∷ operands i stack) m in
      ap (λ (i : ℕ). all_assign (operands i stack) (drop k wanted)) n ∙ (ap (λ (ts : List VType). all_assign ts (drop k wanted)) o ∙ ap (all_assign (a ∷ operands (length wanted - (k + 1)) stack)) d)

  pub assign_on : {U : Type 0} (whole : Check) (old mid new : List Ask) (u : U) → Leads whole (still wanted stack k) old mid → Checked (assign a t) mid new (Ok u) → Leads whole (still wanted stack (k + 1)) old new
  assign_on whole old mid new u l h =
      leads_on whole (assign a t) (λ (w : Unit {0}). still wanted stack (k + 1)) old mid new u tt (subst (λ (c : Check). Leads whole c old mid) assign_here l) h

  pub assign_stop : (U V : Type 0) (whole : Check) (old mid new : List Ask) (e : Stop) → Leads whole (still wanted stack k) old mid → Checked {U = U} (assign a t) mid new (Err e) → Checked {U = V} whole old new (Err e)
  assign_stop U V whole old mid new e l h =
      leads_stop U V whole (assign a t) (λ (w : Unit {0}). still wanted stack (k + 1)) old mid new e tt tt (subst (λ (c : Check). Leads whole c old mid) assign_here l) h

pub still_all : (wanted stack : List VType) (old : List Ask) → Leads (all_assign (operands (length wanted) stack) wanted) (still wanted stack 0) old old
still_all wanted stack old =
    let n : length wanted ≡ length wanted - 0 = omega arith in
    subst (λ (i : ℕ). Leads (all_assign (operands (length wanted) stack) wanted) (all_assign (operands i stack) wanted) old old) n (leads_here _ old)

still_none : (wanted stack : List VType) (k : ℕ) → length wanted ≤ k → still wanted stack k ≡ fine
unfolding all_assign
still_none wanted stack k le =
    let n : length wanted - k ≡ 0 = omega arith in
    ap (λ (i : ℕ). all_assign (operands i stack) (drop k wanted)) n ∙ ap (all_assign (operands 0 stack)) (drop_all k wanted le)

pub assign_end : {U : Type 0} (whole : Check) (wanted stack : List VType) (k : ℕ) (old mid : List Ask) (u : U) → length wanted ≤ k → Leads whole (still wanted stack k) old mid → Checked whole old mid (Ok u)
assign_end whole wanted stack k old mid u le l =
    leads_to whole fine old mid mid (Ok u) tt (subst (λ (c : Check). Leads whole c old mid) (still_none wanted stack k le) l) (did_gives tt mid u)

-- ---- operands that are taken off

behind : (k : ℕ) (s : List VType) (x : VType) (rest : List VType) → drop k s ≡ x ∷ rest → drop (suc k) s ≡ rest
behind zero [] x rest e = absurd cc
behind zero (y ∷ s) x rest e = cc
behind (suc k) [] x rest e = absurd cc
behind (suc k) (y ∷ s) x rest e = behind k s x rest e

none_behind : (k : ℕ) (s : List VType) → drop k s ≡ [] → drop (suc k) s ≡ []
none_behind zero [] e = refl
none_behind zero (y ∷ s) e = absurd cc
none_behind (suc k) [] e = refl
none_behind (suc k) (y ∷ s) e = none_behind k s e

pub popped_more : (o : Option VType) (k : ℕ) (s old new : List VType) → old ≡ drop k s → MatchOption o ((old ≡ []) × (new ≡ [])) (λ x. old ≡ x ∷ new) → new ≡ drop (k + 1) s
popped_more None k s old new e h = rw add-one (h.1 ∙ sym (none_behind k s (sym e ∙ h.0)))
popped_more (Some x) k s old new e h = rw add-one (sym (behind k s x new (sym e ∙ h)))

-- ---- operands that are compared and left there

did_given : {A U : Type 0} (c : Check) (x : A) (old new : List Ask) (r : Result U Stop) → Checked c old new r → Did (and_then c (gives x)) old new r x
did_given c x old new (Ok u) h = checked_then c (gives x) old new new u (Ok u) x h (did_gives x new u)
did_given {U = U} c x old new (Err e) h = checked_stop U U c (gives x) old new e x h

short : (n m : ℕ) (check : Asking (List VType)) → m < n → cond (nat_le n m) check (refused Operands) ≡ refused Operands
short n m check lt = rw (lt-leb n m lt) refl

pub took_short : (U : Type 0) (wanted stack : List VType) (asks : List Ask) (x : List VType) → length stack < length wanted → Did {U = U} (took wanted stack) asks asks (Err (Fault Operands)) x
unfolding took
took_short U wanted stack asks x lt =
    subst (λ (a : Asking (List VType)). Did {U = U} a asks asks (Err (Fault Operands)) x) (sym (short (length wanted) (length stack) _ lt)) (did_refused U Operands asks x)

pub took_by : {U : Type 0} (wanted stack : List VType) (old new : List Ask) (r : Result U Stop) → length wanted ≤ length stack → Checked (all_assign (operands (length wanted) stack) wanted) old new r → Did (took wanted stack) old new r (drop (length wanted) stack)
unfolding took
took_by wanted stack old new r le h = rw (le-leb (length wanted) (length stack) le) (did_given _ (drop (length wanted) stack) old new r h)
