-- The walk over a method's instructions, one after the other.
use Rattle.std.proofs.Common.{◌≡◌, ℕ, ◌+◌, ◌≤◌, List, ◌++◌, length, drop, Option, None, Some, refl, sym, ap, ◌∙◌, append_assoc}
use Rattle.std.proofs.lemmas.List.{append-nil, drop_all}
use Rattle.std.specs.Prelude.{Result, Ok, Err, slice_get}
use Rattle.verify_rules.specs.declared.ask.Ask.{Ask}
use Rattle.verify_rules.specs.declared.types.Frame.{Frame}
use Rattle.verify_rules.specs.Places.{Placed}
use Rattle.verify_rules.specs.declared.cause.Cause.{Cause}
use Rattle.verify_rules.specs.declared.cause.Stop.TheVariants.{Fault}
use Rattle.verify_rules.specs.Causes.{Typed}
use Rattle.verify_rules.specs.Asking.{Check, Did, Checked}
use Rattle.verify_rules.specs.Env.{Env}
use Rattle.verify_rules.specs.Flow.{Frames, declared_at, step}
use Rattle.verify_rules.specs.Methods.{Found, frame_or, up_to, then_found, ended, walked, found_behind, before_walk}
use Rattle.verify_rules.specs.Walking.{Finds}
use Rattle.type_verifier.proofs.Numbering.{drop_item}

-- What is found of the rest, behind the questions asked by now, is what is found of the whole behind those before it.
pub record Finding (whole rest : Found) (old mid : List Ask) : Type 0 where
  pub asks : old ++ whole.asks ≡ mid ++ rest.asks
  pub fault : whole.fault ≡ rest.fault

pub finding_here : (found : Found) (old : List Ask) → Finding found found old old
finding_here found old = record { asks = refl; fault = refl }

module _ (whole : Found) (place : ℕ) (rest : Frame → Found) (old mid new : List Ask) where
  on_at : (asks : List Ask) (o : Typed Frame) (x : Frame) → old ++ whole.asks ≡ mid ++ (up_to place asks o rest).asks → whole.fault ≡ (up_to place asks o rest).fault → new ≡ mid ++ asks → o ≡ Ok x → Finding whole (rest x) old new
  on_at asks (Err cause) x a v e h = absurd cc
  on_at asks (Ok y) x a v e h =
      let s : y ≡ x = cc in
      rw (← s) (record { asks = a ∙ sym (append_assoc mid asks (rest y).asks) ∙ ap (λ (l : List Ask). l ++ (rest y).asks) (sym e); fault = v })

  stop_at : (asks : List Ask) (o : Typed Frame) (cause : Cause) → old ++ whole.asks ≡ mid ++ (up_to place asks o rest).asks → whole.fault ≡ (up_to place asks o rest).fault → new ≡ mid ++ asks → o ≡ Err cause → (new ≡ old ++ whole.asks) × (Some place ≡ whole.fault)
  stop_at asks (Err c) cause a v e h = (e ∙ sym a, sym v)
  stop_at asks (Ok y) cause a v e h = absurd cc

-- ---- an instruction of the list

module _ (e : Env) (frames : Frames) (placed : List Placed) (bad : Option ℕ) (k : ℕ) (s : Placed) (f : Frame) (is : slice_get placed k ≡ Some s) where
  here : walked e frames f (drop k placed) bad ≡ then_found s.place (step e frames s (frame_or (declared_at frames s.place) f)) (λ (after : Frame). walked e frames after (drop (k + 1) placed) bad)
  unfolding walked
  here = rw (drop_item placed k s is) refl

  pub walk_on : {U : Type 0} (whole : Found) (old mid new : List Ask) (u : U) (after : Frame)
      → Finding whole (walked e frames f (drop k placed) bad) old mid → Did (step e frames s (frame_or (declared_at frames s.place) f)) mid new (Ok u) after
      → Finding whole (walked e frames after (drop (k + 1) placed) bad) old new
  walk_on whole old mid new u after w h =
      let a = step e frames s (frame_or (declared_at frames s.place) f) in
      on_at whole s.place (λ (x : Frame). walked e frames x (drop (k + 1) placed) bad) old mid new a.asks a.value after (rw here at w.asks) (rw here at w.fault) h.0 h.1

  pub walk_stop : (U : Type 0) (whole : Found) (old mid new : List Ask) (cause : Cause) (after : Frame)
      → Finding whole (walked e frames f (drop k placed) bad) old mid → Did {U = U} (step e frames s (frame_or (declared_at frames s.place) f)) mid new (Err (Fault cause)) after
      → (new ≡ old ++ whole.asks) × (Some s.place ≡ whole.fault)
  walk_stop U whole old mid new cause after w h =
      let a = step e frames s (frame_or (declared_at frames s.place) f) in
      stop_at whole s.place (λ (x : Frame). walked e frames x (drop (k + 1) placed) bad) old mid new a.asks a.value cause (rw here at w.asks) (rw here at w.fault) h.0 h.1

ended_at : (whole : Found) (bad : Option ℕ) (old mid : List Ask) → Finding whole (ended bad) old mid → (mid ≡ old ++ whole.asks) × (bad ≡ whole.fault)
ended_at whole None old mid w = (sym (append-nil mid) ∙ sym w.asks, sym w.fault)
ended_at whole (Some place) old mid w = (sym (append-nil mid) ∙ sym w.asks, sym w.fault)

pub walk_end : (e : Env) (frames : Frames) (placed : List Placed) (bad : Option ℕ) (k : ℕ) (f : Frame) (whole : Found) (old mid : List Ask) → length placed ≤ k → Finding whole (walked e frames f (drop k placed) bad) old mid → (mid ≡ old ++ whole.asks) × (bad ≡ whole.fault)
unfolding walked
walk_end e frames placed bad k f whole old mid le w = ended_at whole bad old mid (rw (drop_all k placed le) at w)

-- ---- what is asked before the walk

pub found_on : {E U : Type 0} (c : Check) (rest : Found) (old mid new : List Ask) (u : U) (r : Result (Option ℕ) E) → Checked c old mid (Ok u) → Finds rest mid new r → Finds (found_behind c rest) old new r
found_on c rest old mid new u (Ok fault) h k = on c.asks c.value h.0 h.1 where
  on : (asks : List Ask) (o : Typed (Unit {0})) → mid ≡ old ++ asks → o ≡ Ok tt → (new ≡ old ++ (before_walk asks o rest).asks) × (fault ≡ (before_walk asks o rest).fault)
  on asks (Err cause) e v = absurd cc
  on asks (Ok v) e w = (k.0 ∙ ap (λ (l : List Ask). l ++ rest.asks) e ∙ append_assoc old asks rest.asks, k.1)
found_on c rest old mid new u (Err x) h k = tt

pub found_stop : (U : Type 0) (c : Check) (rest : Found) (old new : List Ask) (cause : Cause) → Checked {U = U} c old new (Err (Fault cause)) → (new ≡ old ++ (found_behind c rest).asks) × (Some 0 ≡ (found_behind c rest).fault)
found_stop U c rest old new cause h = stop c.asks c.value h.0 h.1 where
  stop : (asks : List Ask) (o : Typed (Unit {0})) → new ≡ old ++ asks → o ≡ Err cause → (new ≡ old ++ (before_walk asks o rest).asks) × (Some 0 ≡ (before_walk asks o rest).fault)
  stop asks (Err c) e v = (e, refl)
  stop asks (Ok v) e w = absurd cc
