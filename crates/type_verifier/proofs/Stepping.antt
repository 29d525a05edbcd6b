-- One instruction: its row, and where it leads.
use Rattle.std.proofs.Common.{◌≡◌, ◌<◌, get_or, ℕ, Bool, true, false, cond, ◌||◌, List, [], ◌∷◌, ◌++◌, refl, sym, ap, ◌∙◌, subst}
use Rattle.std.proofs.lemmas.List.{append-nil}
use Rattle.std.proofs.lemmas.Option.{get_or_from_slice_get, slice_get-get_or}
use Rattle.std.specs.Prelude.{Result, Ok, Err, Some, None, length}
use Rattle.std.specs.List.{list_any}
use Rattle.class_tree.specs.declared.tree.Handler.{Handler}
use Rattle.verify_rules.specs.declared.ask.Ask.{Ask}
use Rattle.verify_rules.specs.declared.types.Frame.{Frame}
use Rattle.verify_rules.specs.Places.{Placed}
use Rattle.verify_rules.specs.declared.cause.Stop.{Stop}
use Rattle.verify_rules.specs.declared.cause.Stop.TheVariants.{Fault, Memory}
use Rattle.verify_rules.specs.Causes.{Typed}
use Rattle.verify_rules.specs.Asking.{Check, Did, Checked, gives, fine, follows, each, and_then}
use Rattle.verify_rules.specs.Env.{Env}
use Rattle.verify_rules.specs.Rows.{row}
use Rattle.verify_rules.specs.Flow.{Frames, holds, handled, target_fits, target_distances, flows, falls_through, leads, step}
use Rattle.verify_rules.specs.Walking.{kept_before, handled_from, leads_from}
use Rattle.type_verifier.proofs.Asked.{did_then, did_stop}

-- an item of a list that is read once more
pub item_again : {A : Type 0} (xs : List A) (i : ℕ) (d : A) → i < length xs → get_or xs i d ≡ get_or xs i (get_or xs i d)
item_again xs i d lt = sym (get_or_from_slice_get xs i (get_or xs i d) (get_or xs i d) (slice_get-get_or xs i d lt))

-- ---- where no handler's range holds the place, the frame before isn't needed

neither : (a b : Bool) → a || b ≡ false → (a ≡ false) × (b ≡ false)
neither false b h = (refl, h)
neither true b h = absurd cc

skipped : (e : Env) (frames : Frames) (place : ℕ) (f : Frame) (h : Handler) → holds h place ≡ false → handled e frames place f h ≡ fine
unfolding handled
skipped e frames place f h q = rw q refl

all_skipped : (e : Env) (frames : Frames) (place : ℕ) (f : Frame) (hs : List Handler) → list_any (λ (h : Handler). holds h place) hs ≡ false → each (handled e frames place f) hs ≡ fine
unfolding each
all_skipped e frames place f [] q = refl
all_skipped e frames place f (h ∷ hs) q =
    let n = neither (holds h place) (list_any (λ (x : Handler). holds x place) hs) q in
    ap (λ (c : Check). and_then c (each (handled e frames place f) hs)) (skipped e frames place f h n.0) ∙ all_skipped e frames place f hs n.1

kept_at : (e : Env) (frames : Frames) (place : ℕ) (f : Frame) (b : Bool) → list_any (λ (h : Handler). holds h place) e.code.handlers ≡ b → handled_from e frames place (cond b (Some f) None) ≡ each (handled e frames place f) e.code.handlers
kept_at e frames place f true q = refl
kept_at e frames place f false q = sym (all_skipped e frames place f e.code.handlers q)

pub leads_kept : (e : Env) (frames : Frames) (s : Placed) (f after : Frame) → leads_from e frames s (kept_before e s.place f) after ≡ leads e frames s f after
unfolding leads leads_from
leads_kept e frames s f after =
    ap (λ (c : Check). and_then (each (target_fits frames s.place after) (target_distances s.instr)) (and_then c (flows frames (length e.code.bytes) (falls_through s.instr) s.next after)))
    (kept_at e frames s.place f (list_any (λ (h : Handler). holds h s.place) e.code.handlers) refl)

-- ---- the row, and then where it leads

gives_at : {A U : Type 0} (x : A) (old new asks : List Ask) (o : Typed (Unit {0})) (r : Result U Stop) → Did (record { asks = asks; value = o }) old new r tt → Did (follows asks o (λ (u : Unit {0}). gives x)) old new r x
gives_at x old new asks (Ok u) (Ok v) h = (h.0 ∙ ap (λ (l : List Ask). old ++ l) (sym (append-nil asks)), refl)
gives_at x old new asks (Ok u) (Err (Fault cause)) h = absurd (let e = h.1 in cc)
gives_at x old new asks (Err c) (Ok v) h = absurd (let e = h.1 in cc)
gives_at x old new asks (Err c) (Err (Fault cause)) h = (h.0, let e = h.1 in cc)
gives_at x old new asks o (Err Memory) h = tt

module _ (U : Type 0) (e : Env) (frames : Frames) (s : Placed) (f : Frame) (old mid : List Ask) where
  pub did_step : {V : Type 0} (after : Frame) (new : List Ask) (u : U) (r : Result V Stop) → Did (row e s.place s.instr f) old mid (Ok u) after → Checked (leads_from e frames s (kept_before e s.place f) after) mid new r → Did (step e frames s f) old new r after
  unfolding step
  did_step after new u r h k =
      let c = leads e frames s f after in
      let l : Checked c mid new r = subst (λ (x : Check). Checked x mid new r) (leads_kept e frames s f after) k in
      did_then (row e s.place s.instr f) (λ (a : Frame). and_then (leads e frames s f a) (gives a)) old mid new u after r after h (gives_at after mid new c.asks c.value r l)

  pub stopped_step : (V : Type 0) (stop : Stop) (x y : Frame) → Did {U = U} (row e s.place s.instr f) old mid (Err stop) x → Did {U = V} (step e frames s f) old mid (Err stop) y
  unfolding step
  stopped_step V stop x y h = did_stop U V (row e s.place s.instr f) (λ (a : Frame). and_then (leads e frames s f a) (gives a)) old mid stop x y h
