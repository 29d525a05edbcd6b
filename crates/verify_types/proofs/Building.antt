-- Building frames and their types one after the other, as a loop does.
use Rattle.std.proofs.Common.{◌≡◌, ℕ, ◌+◌, ◌-◌, ◌*◌, ◌<◌, ◌≤◌, Bool, true, false, cond, List, [], ◌∷◌, ◌++◌, length, take, drop, get_or, Option, Some, None, refl, sym, ap, subst, ◌∙◌, append_assoc, drop-cons, add-one, arith}
use Rattle.std.specs.Prelude.{slice_get, MatchOption}
use Rattle.std.specs.List.{flat_map}
use Rattle.std.proofs.lemmas.List.{append-nil, drop_all, length-append, length-take, take_at, take-take}
use Rattle.std.proofs.lemmas.List.Concat.{flat_map-cons}
use Rattle.jsa_base.specs.Reading.{◌>>=◌}
use Rattle.class_tree.specs.declared.constant_pool.PoolEntry.{PoolEntry}
use Rattle.class_tree.specs.declared.tree.CodeTree.{CodeTree}
use Rattle.verify_rules.specs.declared.types.VType.{VType}
use Rattle.verify_rules.specs.declared.types.VType.TheVariants as types
use Rattle.verify_rules.specs.declared.types.Frame.{Frame}
use Rattle.verify_rules.specs.declared.fault.VerifyFault.{VerifyFault}
use Rattle.verify_rules.specs.declared.fault.VerifyFault.TheVariants.{Bad, Memory}
use Rattle.verify_rules.specs.declared.written.WrittenType.{WrittenType}
use Rattle.verify_rules.specs.declared.written.WrittenFrame.{WrittenFrame}
use Rattle.verify_rules.specs.Types.{size, units, is_top}
use Rattle.verify_rules.specs.Outcomes.{Fails}
use Rattle.verify_rules.specs.Steps.{framed, framed_of, is_top_at, is_top_in}
use Rattle.verify_rules.specs.Frames.{Shown, shown_after, frame_of, type_of, types_of, slots, is_wide, without_seconds, before_written, without_tail, frames_from, place_after}
use Rattle.verify_rules.proofs.Tops.{get_last}
use Rattle.verify_rules.proofs.Units.{rest_is}

-- ---- types

-- what was made before, and what is still made
abbrev pub behind : {B : Type 0} → List B → Option (List B) → Option (List B)
behind front made = made >>= λ xs. Some (front ++ xs)

regroup : {B : Type 0} (front : List B) (y : B) (made : Option (List B)) → behind front (made >>= λ xs. Some (y ∷ xs)) ≡ behind (front ++ y ∷ []) made
regroup {B} front y (Some xs) = ap (λ (ys : List B). Some ys) (simp append_assoc)
regroup front y None = refl

module _ (pool : List PoolEntry) (code : List ℕ) (front : List VType) (ts : List WrittenType) (i : ℕ) (d : WrittenType) (total : Option (List VType)) (lt : i < length ts) where
  types_from : types_of pool code (drop i ts) ≡ (type_of pool code (get_or ts i d) >>= λ first. types_of pool code (drop (i + 1) ts) >>= λ others. Some (first ∷ others))
  unfolding types_of
  types_from =
      let e : drop i ts ≡ get_or ts i d ∷ drop (i + 1) ts = rw add-one (drop-cons ts i d lt) in
      ap (types_of pool code) e

  pub types_go_on : (x : VType) → type_of pool code (get_or ts i d) ≡ Some x → behind front (types_of pool code (drop i ts)) ≡ total → behind (front ++ x ∷ []) (types_of pool code (drop (i + 1) ts)) ≡ total
  types_go_on x h so_far =
      let one : behind front (types_of pool code (drop i ts)) ≡ behind (front ++ x ∷ []) (types_of pool code (drop (i + 1) ts)) = ap (behind front) types_from ∙ rw h (regroup front x (types_of pool code (drop (i + 1) ts))) in
      sym one ∙ so_far

  pub types_fail : (fault : VerifyFault) → Fails fault (type_of pool code (get_or ts i d)) → behind front (types_of pool code (drop i ts)) ≡ total → Fails fault total
  types_fail Memory h so_far = tt
  types_fail Bad h so_far =
      let one : behind front (types_of pool code (drop i ts)) ≡ None = ap (behind front) types_from ∙ rw h refl in
      sym so_far ∙ one

pub types_done : (pool : List PoolEntry) (code : List ℕ) (front : List VType) (ts : List WrittenType) (i : ℕ) (total : Option (List VType)) → length ts ≤ i → behind front (types_of pool code (drop i ts)) ≡ total → total ≡ Some front
unfolding types_of
types_done pool code front ts i total le so_far =
    let one : behind front (types_of pool code (drop i ts)) ≡ Some front = ap (λ (xs : List WrittenType). behind front (types_of pool code xs)) (drop_all i ts le) ∙ ap (λ (ys : List VType). Some ys) (append-nil front) in
    sym so_far ∙ one

-- ---- slots

length-slots : (t : VType) → length (slots t) ≡ size t
length-slots types.Top = refl
length-slots types.Integer = refl
length-slots types.Float = refl
length-slots types.Double = refl
length-slots types.Long = refl
length-slots types.Null = refl
length-slots types.UninitializedThis = refl
length-slots (types.Object name) = refl
length-slots (types.Uninitialized place) = refl

pub slots_are : (b : Bool) (t : VType) → is_wide t ≡ b → slots t ≡ t ∷ cond b (types.Top ∷ []) []
slots_are b types.Top h = ap (λ (w : Bool). types.Top ∷ cond w (types.Top ∷ []) []) h
slots_are b types.Integer h = ap (λ (w : Bool). types.Integer ∷ cond w (types.Top ∷ []) []) h
slots_are b types.Float h = ap (λ (w : Bool). types.Float ∷ cond w (types.Top ∷ []) []) h
slots_are b types.Double h = ap (λ (w : Bool). types.Double ∷ cond w (types.Top ∷ []) []) h
slots_are b types.Long h = ap (λ (w : Bool). types.Long ∷ cond w (types.Top ∷ []) []) h
slots_are b types.Null h = ap (λ (w : Bool). types.Null ∷ cond w (types.Top ∷ []) []) h
slots_are b types.UninitializedThis h = ap (λ (w : Bool). types.UninitializedThis ∷ cond w (types.Top ∷ []) []) h
slots_are b (types.Object name) h = ap (λ (w : Bool). types.Object name ∷ cond w (types.Top ∷ []) []) h
slots_are b (types.Uninitialized place) h = ap (λ (w : Bool). types.Uninitialized place ∷ cond w (types.Top ∷ []) []) h

pub length_flat_slots : (ts : List VType) → length (flat_map slots ts) ≡ units ts
unfolding units
length_flat_slots [] = refl
length_flat_slots (t ∷ ts) =
    let a = length-append (slots t) (flat_map slots ts) in
    let b = length-slots t in
    let c = length_flat_slots ts in
    ap length (flat_map-cons slots t ts) ∙ (let e : length (slots t ++ flat_map slots ts) ≡ size t + units ts = omega arith in e)

-- one type more
pub slots_on : (all : List VType) (ts : List VType) (i : ℕ) (t : VType) (total : List VType) → i < length ts → t ≡ get_or ts i t → all ++ flat_map slots (drop i ts) ≡ total → (all ++ slots t) ++ flat_map slots (drop (i + 1) ts) ≡ total
slots_on all ts i t total lt at h =
    append_assoc all (slots t) (flat_map slots (drop (i + 1) ts))
    ∙ ap (λ (us : List VType). all ++ us) (sym (flat_map-cons slots t (drop (i + 1) ts)) ∙ ap (flat_map slots) (sym (rest_is ts i t lt at)))
    ∙ h

pub slots_done : (all : List VType) (ts : List VType) (i : ℕ) (total : List VType) → length ts ≤ i → all ++ flat_map slots (drop i ts) ≡ total → all ≡ total
slots_done all ts i total le h = sym (append-nil all) ∙ ap (λ (us : List VType). all ++ flat_map slots us) (sym (drop_all i ts le)) ∙ h

-- ---- locals as they are written

pub seconds_on : (kept next_kept : List VType) (second next : Bool) (slots : List VType) (i : ℕ) (t : VType) (total : List VType) → i < length slots → t ≡ get_or slots i t
    → next_kept ++ without_seconds next (drop (i + 1) slots) ≡ kept ++ without_seconds second (t ∷ drop (i + 1) slots) → kept ++ without_seconds second (drop i slots) ≡ total → next_kept ++ without_seconds next (drop (i + 1) slots) ≡ total
seconds_on kept next_kept second next slots i t total lt at e h = e ∙ ap (λ (us : List VType). kept ++ without_seconds second us) (sym (rest_is slots i t lt at)) ∙ h

pub seconds_done : (kept : List VType) (second : Bool) (slots : List VType) (i : ℕ) (total : List VType) → length slots ≤ i → kept ++ without_seconds second (drop i slots) ≡ total → kept ≡ total
unfolding without_seconds
seconds_done kept true slots i total le h = sym (append-nil kept) ∙ ap (λ (us : List VType). kept ++ without_seconds true us) (sym (drop_all i slots le)) ∙ h
seconds_done kept false slots i total le h = sym (append-nil kept) ∙ ap (λ (us : List VType). kept ++ without_seconds false us) (sym (drop_all i slots le)) ∙ h

pub tail_dropped : (xs : List VType) (t : VType) → is_top t ≡ true → without_tail (xs ++ t ∷ []) ≡ without_tail xs
unfolding without_tail
tail_dropped [] t h = rw h refl
tail_dropped (x ∷ xs) t h = ap (before_written x) (tail_dropped xs t h)

pub tail_kept : (xs : List VType) (t : VType) → is_top t ≡ false → without_tail (xs ++ t ∷ []) ≡ xs ++ t ∷ []
unfolding without_tail
tail_kept [] t h = rw h refl
tail_kept (x ∷ xs) t h = ap (before_written x) (tail_kept xs t h) ∙ front x xs t where
  front : (x : VType) (xs : List VType) (t : VType) → before_written x (xs ++ t ∷ []) ≡ x ∷ (xs ++ t ∷ [])
  front x [] t = refl
  front x (y ∷ xs) t = refl

-- what ends in Top, and what doesn't
pub top_gone : (old new : List VType) (popped : Option VType) → MatchOption popped ((old ≡ []) × (new ≡ [])) (λ last. old ≡ new ++ last ∷ []) → is_top_at old (length old - 1) ≡ true → (without_tail new ≡ without_tail old) × (length new < length old)
top_gone old new None h top =
    let e : is_top_at [] (length {A = VType} [] - 1) ≡ true = subst (λ (xs : List VType). is_top_at xs (length xs - 1) ≡ true) h.0 top in
    absurd cc
top_gone old new (Some last) h top =
    let l : length old ≡ length new + 1 = ap length h ∙ length-append new (last ∷ []) in
    let n : length old - 1 ≡ length new = omega arith in
    let last_top : is_top last ≡ true =
    sym (ap is_top_in (get_last new last (length new) refl)) ∙ ap (λ (k : ℕ). is_top_in (slice_get (new ++ last ∷ []) k)) (sym n) ∙ ap (λ (xs : List VType). is_top_in (slice_get xs (length old - 1))) (sym h) ∙ top in
    (sym (tail_dropped new last last_top) ∙ ap without_tail (sym h), omega arith)

split_last : (xs : List VType) (x : VType) → (ys : List VType) × (y : VType) × (x ∷ xs ≡ ys ++ y ∷ [])
split_last [] x = ([], x, refl)
split_last (z ∷ xs) x = let r = split_last xs z in (x ∷ r.0, r.1, ap (λ (us : List VType). x ∷ us) r.2)

pub no_top : (types : List VType) → is_top_at types (length types - 1) ≡ false → without_tail types ≡ types
unfolding without_tail
no_top [] h = refl
no_top (t ∷ ts) h =
    let s = split_last ts t in
    let l : length (t ∷ ts) ≡ length s.0 + 1 = ap length s.2 ∙ length-append s.0 (s.1 ∷ []) in
    let n : length (t ∷ ts) - 1 ≡ length s.0 = omega arith in
    let last : is_top s.1 ≡ false =
    sym (ap is_top_in (get_last s.0 s.1 (length s.0) refl)) ∙ ap (λ (k : ℕ). is_top_in (slice_get (s.0 ++ s.1 ∷ []) k)) (sym n) ∙ ap (λ (xs : List VType). is_top_in (slice_get xs (length (t ∷ ts) - 1))) (sym s.2) ∙ h in
    ap without_tail s.2 ∙ tail_kept s.0 s.1 last ∙ sym s.2

-- ---- popping so many

-- one popped more
pub popped_on : (old now new : List VType) (popped : Option VType) (i : ℕ) → MatchOption popped ((now ≡ []) × (new ≡ [])) (λ last. now ≡ new ++ last ∷ []) → now ≡ take (length old - i) old → new ≡ take (length old - (i + 1)) old
popped_on old now new None i h e =
    let l : length now ≡ 0 = ap length h.0 in
    let m = length-take (length old - i) old in
    let s = ap length e in
    let z : length old - (i + 1) ≡ 0 = omega arith in
    h.1 ∙ sym (ap (λ (n : ℕ). take n old) z)
popped_on old now new (Some last) i h e =
    let l : length now ≡ length new + 1 = ap length h ∙ length-append new (last ∷ []) in
    let m = length-take (length old - i) old in
    let s = ap length e in
    let n : length old - (i + 1) ≡ length new = omega arith in
    let all : take (length new) now ≡ new = ap (take (length new)) h ∙ take_at new (last ∷ []) (length new) refl in
    let shorter : take (length new) (take (length old - i) old) ≡ take (length new) old = take-take (length new) (length old - i) old (omega arith) in
    sym all ∙ ap (take (length new)) e ∙ shorter ∙ ap (λ (k : ℕ). take k old) (sym n)

-- ---- frames

-- a frame in front of those that follow
abbrev pub then_others : List PoolEntry → CodeTree → ℕ → List WrittenFrame → Option (Frame × List VType) → Option (List (ℕ × Frame))
then_others pool c place ws found = found >>= λ x. frames_from pool c (Some place) x.1 ws >>= λ others. Some ((place, x.0) ∷ others)

abbrev pub place_bound : Option ℕ → ℕ → Type 0
place_bound None i = Unit {0}
place_bound (Some place) i = place < 65536 * i

pub within_bound : (before : Option ℕ) (delta i : ℕ) → delta < 65536 → place_bound before i → place_after before delta < 65536 * (i + 1)
within_bound None delta i d b = omega arith
within_bound (Some place) delta i d b = omega (arith, b)

-- the frames from one on
module _ (pool : List PoolEntry) (c : CodeTree) (before : Option ℕ) (locals : List VType) (front : List (ℕ × Frame)) (ws : List WrittenFrame) (i : ℕ) (w : WrittenFrame) (total : Option (List (ℕ × Frame))) (lt : i < length ws) (at : w ≡ get_or ws i w) where
  others_of : Shown → Frame → Option (List (ℕ × Frame))
  others_of s f = frames_from pool c (Some (place_after before w.delta)) s.locals (drop (i + 1) ws) >>= λ others. Some ((place_after before w.delta, f) ∷ others)

  second : (s : Shown) (o : Option Frame) → (o >>= others_of s) ≡ then_others pool c (place_after before w.delta) (drop (i + 1) ws) (o >>= λ f. Some (f, s.locals))
  unfolding others_of
  second s None = refl
  second s (Some f) = refl

  first : (o : Option Shown) → (o >>= λ s. frame_of c s >>= others_of s) ≡ then_others pool c (place_after before w.delta) (drop (i + 1) ws) (o >>= framed_of c)
  first None = refl
  first (Some s) = second s (frame_of c s)

  frames_here : frames_from pool c before locals (drop i ws) ≡ then_others pool c (place_after before w.delta) (drop (i + 1) ws) (framed pool c.bytes c locals w.change)
  unfolding frames_from others_of
  frames_here = ap (frames_from pool c before locals) (rest_is ws i w lt at) ∙ first (shown_after pool c.bytes locals w.change)

  pub frames_go_on : (f : Frame) (next_locals : List VType) → framed pool c.bytes c locals w.change ≡ Some (f, next_locals) → behind front (frames_from pool c before locals (drop i ws)) ≡ total
      → behind (front ++ (place_after before w.delta, f) ∷ []) (frames_from pool c (Some (place_after before w.delta)) next_locals (drop (i + 1) ws)) ≡ total
  frames_go_on f next_locals h so_far =
      let one : behind front (frames_from pool c before locals (drop i ws)) ≡ behind (front ++ (place_after before w.delta, f) ∷ []) (frames_from pool c (Some (place_after before w.delta)) next_locals (drop (i + 1) ws)) =
      ap (behind front) (frames_here ∙ ap (then_others pool c (place_after before w.delta) (drop (i + 1) ws)) h) ∙ regroup front (place_after before w.delta, f) (frames_from pool c (Some (place_after before w.delta)) next_locals (drop (i + 1) ws)) in
      sym one ∙ so_far

  pub frames_fail : (fault : VerifyFault) → Fails fault (framed pool c.bytes c locals w.change) → behind front (frames_from pool c before locals (drop i ws)) ≡ total → Fails fault total
  frames_fail Memory h so_far = tt
  frames_fail Bad h so_far =
      let one : behind front (frames_from pool c before locals (drop i ws)) ≡ None = ap (behind front) (frames_here ∙ ap (then_others pool c (place_after before w.delta) (drop (i + 1) ws)) h) in
      sym so_far ∙ one

pub frames_done : (pool : List PoolEntry) (c : CodeTree) (before : Option ℕ) (locals : List VType) (front : List (ℕ × Frame)) (ws : List WrittenFrame) (i : ℕ) (total : Option (List (ℕ × Frame))) → length ws ≤ i → behind front (frames_from pool c before locals (drop i ws)) ≡ total → total ≡ Some front
unfolding frames_from
frames_done pool c before locals front ws i total le so_far =
    let one : behind front (frames_from pool c before locals (drop i ws)) ≡ Some front = ap (λ (xs : List WrittenFrame). behind front (frames_from pool c before locals xs)) (drop_all i ws le) ∙ ap (λ (ys : List (ℕ × Frame)). Some ys) (append-nil front) in
    sym so_far ∙ one
