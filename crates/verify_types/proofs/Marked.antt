-- The marks of a code's instructions, as a walk along them makes them.
use Rattle.std.proofs.Common.{◌≡◌, ℕ, ◌+◌, ◌-◌, ◌<◌, ◌≤◌, zero, suc, Bool, true, false, cond, eqb, List, [], ◌∷◌, ◌++◌, length, Option, Some, None, Result, Ok, Err, refl, sym, ◌∙◌, ap, subst, arith, inl, inr, append_assoc}
use Rattle.std.specs.Prelude.{slice_get, slice_set, option_map, map, replicate, ◌==◌, ◌&&◌, ◌||◌, ◌⊎◌}
use Rattle.std.specs.List.{list_any}
use Rattle.std.proofs.lemmas.Bool.{cases_lt, ne_eqb}
use Rattle.std.proofs.lemmas.Bool.Decides.{eqb_tells}
use Rattle.std.proofs.lemmas.List.{append-nil, get_or-replicate, length-replicate}
use Rattle.std.proofs.Math.Dec.{eqb-zero-suc, eqb-suc-zero, eqb-suc-suc}
use Rattle.std.proofs.lemmas.Option.{slice_get-get_or, slice_get-map, slice_get_past}
use Rattle.jsa_base.specs.Reading.{IsBytes}
use Rattle.jsa_ops.specs.declared.fault.OpFault.{OpFault}
use Rattle.jsa_ops.specs.Instruction.{Instruction}
use Rattle.jsa_ops.specs.Reading.{decoded}
use Rattle.verify_types.specs.declared.places.Mark.{Mark}
use Rattle.verify_types.specs.declared.places.Mark.TheVariants.{Inside, Start, New}
use Rattle.verify_rules.specs.Places.{Placed, Instructions, is_new_instruction, decoded_before, instructions_from, instructions, is_start, is_new}
use Rattle.verify_types.specs.Marks.{mark_of, begins, makes, place_of, Knows}
use Rattle.verify_types.proofs.InOrder.{Stands, Chain, none_left, from_within, from_past, short_instructions, long_instructions, in_a_chain, stands}

-- ---- one mark

abbrev begins_at : ℕ → Placed → Bool
begins_at place p = p.place == place

abbrev makes_at : ℕ → Placed → Bool
makes_at place p = p.place == place && is_new_instruction p.instr

-- the mark of a byte behind a walk
mark_in : ℕ → List Placed → Mark → Mark
mark_in place [] mark = mark
mark_in place (p ∷ ps) mark = mark_in place ps (cond (p.place == place) (mark_of p.instr) mark)

-- the marks behind a walk
pub marked_with : List Placed → List Mark → List Mark
marked_with [] marks = marks
marked_with (p ∷ ps) marks = marked_with ps (slice_set marks p.place (mark_of p.instr))

kept : (o : Option Mark) → o ≡ option_map (λ m. m) o
kept None = refl
kept (Some m) = refl

-- the mark at a place behind a write at another
at_other : Bool → Mark → Option Mark → Option Mark
at_other here mark found = option_map (λ m. cond here mark m) found

set_past : (i place : ℕ) (y : Mark) (xs : List Mark) → slice_get (slice_set xs i y) place ≡ at_other (eqb i place) y (slice_get xs place)
unfolding at_other
set_past i place y [] = refl
set_past zero zero y (m ∷ xs) = refl
set_past zero (suc place) y (m ∷ xs) = kept (slice_get xs place) ∙ ap (λ (b : Bool). at_other b y (slice_get xs place)) (sym (eqb-zero-suc place))
set_past (suc i) zero y (m ∷ xs) = ap (λ (b : Bool). at_other b y (Some m)) (sym (eqb-suc-zero i))
set_past (suc i) (suc place) y (m ∷ xs) = set_past i place y xs ∙ ap (λ (b : Bool). at_other b y (slice_get xs place)) (sym (eqb-suc-suc i place))

twice : (place : ℕ) (ps : List Placed) (here : Bool) (y : Mark) (o : Option Mark) → option_map (mark_in place ps) (at_other here y o) ≡ option_map (λ m. mark_in place ps (cond here y m)) o
unfolding at_other
twice place ps here y None = refl
twice place ps here y (Some m) = refl

get_marked : (place : ℕ) (ps : List Placed) (marks : List Mark) → slice_get (marked_with ps marks) place ≡ option_map (mark_in place ps) (slice_get marks place)
unfolding marked_with mark_in
get_marked place [] marks = kept (slice_get marks place)
get_marked place (p ∷ ps) marks =
    get_marked place ps (slice_set marks p.place (mark_of p.instr))
    ∙ ap (option_map (mark_in place ps)) (set_past p.place place (mark_of p.instr) marks)
    ∙ twice place ps (eqb p.place place) (mark_of p.instr) (slice_get marks place)

-- ---- what a mark says

mark_begins : (i : Instruction) (here : Bool) (m : Mark) → begins (Some (cond here (mark_of i) m)) ≡ (here || begins (Some m))
mark_begins i false m = refl
mark_begins i true m = begun (is_new_instruction i) where
  begun : (b : Bool) → begins (Some (cond b New Start)) ≡ true
  begun true = refl
  begun false = refl

mark_makes : (i : Instruction) → makes (Some (mark_of i)) ≡ is_new_instruction i
mark_makes i = made (is_new_instruction i) where
  made : (b : Bool) → makes (Some (cond b New Start)) ≡ b
  made true = refl
  made false = refl

swapped : (a b c : Bool) → (a || (b || c)) ≡ ((b || a) || c)
swapped true true c = refl
swapped true false c = refl
swapped false true c = refl
swapped false false c = refl

begins_in : (place : ℕ) (ps : List Placed) (m : Mark) → begins (Some (mark_in place ps m)) ≡ (list_any (begins_at place) ps || begins (Some m))
unfolding mark_in
begins_in place [] m = refl
begins_in place (p ∷ ps) m =
    begins_in place ps (cond (eqb p.place place) (mark_of p.instr) m)
    ∙ ap (λ (b : Bool). list_any (begins_at place) ps || b) (mark_begins p.instr (eqb p.place place) m)
    ∙ swapped (list_any (begins_at place) ps) (eqb p.place place) (begins (Some m))

-- ---- where nothing begins

neither : (a b : Bool) → (a || b) ≡ false → (a ≡ false) × (b ≡ false)
neither true b h = absurd cc
neither false b h = (refl, h)

none_past : (code : List ℕ) (from place : ℕ) (ps : List Placed) → Chain code from ps → length code ≤ place → list_any (begins_at place) ps ≡ false
unfolding Chain
none_past code from place [] c h = refl
none_past code from place (p ∷ ps) c h =
    let s = c.0 in
    let e : eqb p.place place ≡ false = ne_eqb p.place place (λ q. omega (arith, s.here, s.within, q)) in
    rw (e, none_past code p.next place ps c.1 h) refl

none_before : (code : List ℕ) (from place : ℕ) (ps : List Placed) → Chain code from ps → place < from → list_any (begins_at place) ps ≡ false
unfolding Chain
none_before code from place [] c h = refl
none_before code from place (p ∷ ps) c h =
    let s = c.0 in
    let e : eqb p.place place ≡ false = ne_eqb p.place place (λ q. omega (arith, s.here, q)) in
    rw (e, none_before code p.next place ps c.1 (omega (arith, s.on))) refl

mark_stays : (place : ℕ) (ps : List Placed) (m : Mark) → list_any (begins_at place) ps ≡ false → mark_in place ps m ≡ m
unfolding mark_in
mark_stays place [] m h = refl
mark_stays place (p ∷ ps) m h =
    let n = neither (eqb p.place place) (list_any (begins_at place) ps) h in
    ap (λ (b : Bool). mark_in place ps (cond b (mark_of p.instr) m)) n.0 ∙ mark_stays place ps m n.1

none_made : (place : ℕ) (ps : List Placed) → list_any (begins_at place) ps ≡ false → list_any (makes_at place) ps ≡ false
none_made place [] h = refl
none_made place (p ∷ ps) h =
    let n = neither (eqb p.place place) (list_any (begins_at place) ps) h in
    let e : (eqb p.place place && is_new_instruction p.instr) ≡ false = ap (λ (b : Bool). b && is_new_instruction p.instr) n.0 in
    ap (λ (b : Bool). b || list_any (makes_at place) ps) e ∙ none_made place ps n.1

alone : (b : Bool) → b ≡ ((true && b) || false)
alone true = refl
alone false = refl

-- ---- what the marks behind the walk say

makes_in : (code : List ℕ) (from place : ℕ) (ps : List Placed) (m : Mark) → Chain code from ps → makes (Some m) ≡ false → makes (Some (mark_in place ps m)) ≡ list_any (makes_at place) ps
unfolding mark_in Chain
makes_in code from place [] m c h = h
makes_in code from place (p ∷ ps) m c h =
    elim (eqb_tells p.place place) [
      | inl e ↦ here e.0 e.1
      | inr e ↦ past e.0 (makes_in code p.next place ps m c.1 h)
    ] where
      here : eqb p.place place ≡ true → p.place ≡ place → makes (Some (mark_in place ps (cond (eqb p.place place) (mark_of p.instr) m))) ≡ ((eqb p.place place && is_new_instruction p.instr) || list_any (makes_at place) ps)
      here is e =
          let s = c.0 in
          let none = none_before code p.next place ps c.1 (omega (arith, s.here, s.on, e)) in
          let left : makes (Some (mark_in place ps (cond (eqb p.place place) (mark_of p.instr) m))) ≡ is_new_instruction p.instr =
          ap (λ (b : Bool). makes (Some (mark_in place ps (cond b (mark_of p.instr) m)))) is ∙ ap (λ (k : Mark). makes (Some k)) (mark_stays place ps (mark_of p.instr) none) ∙ mark_makes p.instr in
          left ∙ alone (is_new_instruction p.instr) ∙ ap (λ (b : Bool). (b && is_new_instruction p.instr) || false) (sym is) ∙ ap (λ (b : Bool). (eqb p.place place && is_new_instruction p.instr) || b) (sym (none_made place ps none))

      past : eqb p.place place ≡ false → makes (Some (mark_in place ps m)) ≡ list_any (makes_at place) ps → makes (Some (mark_in place ps (cond (eqb p.place place) (mark_of p.instr) m))) ≡ ((eqb p.place place && is_new_instruction p.instr) || list_any (makes_at place) ps)
      past is others =
          ap (λ (b : Bool). makes (Some (mark_in place ps (cond b (mark_of p.instr) m)))) is ∙ others ∙ ap (λ (b : Bool). (b && is_new_instruction p.instr) || list_any (makes_at place) ps) (sym is)

unmarked_within : (n place : ℕ) → place < n → slice_get (replicate n Inside) place ≡ Some Inside
unmarked_within n place h =
    let l = length-replicate n Inside in
    slice_get-get_or (replicate n Inside) place Inside (omega arith) ∙ ap (λ (m : Mark). Some m) (get_or-replicate n place Inside Inside h)

unmarked_past : (n place : ℕ) → n ≤ place → slice_get (replicate n Inside) place ≡ None
unmarked_past n place h =
    let l = length-replicate n Inside in
    slice_get_past (replicate n Inside) place (omega arith)

or_false : (b : Bool) → (b || false) ≡ b
or_false true = refl
or_false false = refl

module _ (code : List ℕ) (bytes : IsBytes code) where
  marks : List Mark
  marks = marked_with (instructions code).placed (replicate (length code) Inside)

  mark_within : (place : ℕ) → place < length code → slice_get marks place ≡ Some (mark_in place (instructions code).placed Inside)
  unfolding marks
  mark_within place h =
      get_marked place (instructions code).placed (replicate (length code) Inside) ∙ ap (option_map (mark_in place (instructions code).placed)) (unmarked_within (length code) place h)

  mark_past : (place : ℕ) → length code ≤ place → slice_get marks place ≡ None
  unfolding marks
  mark_past place h =
      get_marked place (instructions code).placed (replicate (length code) Inside) ∙ ap (option_map (mark_in place (instructions code).placed)) (unmarked_past (length code) place h)

  start_is : (place : ℕ) → begins (slice_get marks place) ≡ is_start code place
  unfolding is_start
  start_is place =
      elim (cases_lt place (length code)) [
        | inl h ↦ ap begins (mark_within place h) ∙ begins_in place (instructions code).placed Inside ∙ or_false (list_any (begins_at place) (instructions code).placed)
        | inr h ↦ ap begins (mark_past place h) ∙ sym (none_past code 0 place (instructions code).placed (in_a_chain code bytes) h)
      ]

  made_is : (place : ℕ) → makes (slice_get marks place) ≡ is_new code place
  unfolding is_new
  made_is place =
      elim (cases_lt place (length code)) [
        | inl h ↦ ap makes (mark_within place h) ∙ makes_in code 0 place (instructions code).placed Inside (in_a_chain code bytes) refl
        | inr h ↦ ap makes (mark_past place h) ∙ sym (none_made place (instructions code).placed (none_past code 0 place (instructions code).placed (in_a_chain code bytes) h))
      ]

  -- what a walk over the whole code leaves
  pub walk_knows : (kept : List Mark) (starts : List ℕ) (bad : Option ℕ) → kept ≡ marked_with (instructions code).placed (replicate (length code) Inside) → starts ≡ map place_of (instructions code).placed → bad ≡ (instructions code).bad → Knows code kept starts bad
  unfolding marks
  walk_knows kept starts bad k s b = record {
    bytes = bytes;
    start = λ place. ap (λ (ms : List Mark). begins (slice_get ms place)) k ∙ start_is place;
    made = λ place. ap (λ (ms : List Mark). makes (slice_get ms place)) k ∙ made_is place;
    places = s;
    stops = b;
  }

  -- a code that is too long
  pub long_knows : 65535 < length code → Knows code [] [] (Some 0)
  unfolding is_start is_new
  long_knows h =
      let e = sym (long_instructions code h) in
      record {
        bytes = bytes;
        start = λ place. ap (λ (i : Instructions). list_any (begins_at place) i.placed) e;
        made = λ place. ap (λ (i : Instructions). list_any (makes_at place) i.placed) e;
        places = ap (λ (i : Instructions). map place_of i.placed) e;
        stops = ap (λ (i : Instructions). i.bad) e;
      }

-- ---- the walk

-- What was marked and noted, and what is left of the walk.
pub record Walks (all : Instructions) (size : ℕ) (marks : List Mark) (starts : List ℕ) (rest : Instructions) : Type 0 where
  pub marked : marked_with rest.placed marks ≡ marked_with all.placed (replicate size Inside)
  pub noted : starts ++ map place_of rest.placed ≡ map place_of all.placed
  pub stops : rest.bad ≡ all.bad

pub walk_begins : (all : Instructions) (size : ℕ) → Walks all size (replicate size Inside) [] all
walk_begins all size = record { marked = refl; noted = refl; stops = refl }

module _ (all : Instructions) (size : ℕ) (marks : List Mark) (starts : List ℕ) (code : List ℕ) (place : ℕ) where
  pub walk_on : (count i : ℕ) (instr : Instruction) (next : ℕ) → i < count → place < length code → decoded code place ≡ Ok (instr, next) → Walks all size marks starts (instructions_from (count - i) code place)
      → Walks all size (slice_set marks place (mark_of instr)) (starts ++ place ∷ []) (instructions_from (count - (i + 1)) code next)
  unfolding marked_with
  walk_on count i instr next lt inside e w =
      let k : count - i ≡ suc (count - (i + 1)) = omega arith in
      let rest = instructions_from (count - (i + 1)) code next in
      let one : instructions_from (count - i) code place ≡ record { placed = record { place = place; instr = instr; next = next } ∷ rest.placed; bad = rest.bad } =
      ap (λ (n : ℕ). instructions_from n code place) k ∙ from_within (count - (i + 1)) code place inside ∙ ap (λ (r : Result (Instruction × ℕ) OpFault). decoded_before place r (instructions_from (count - (i + 1)) code)) e in
      let v = subst (Walks all size marks starts) one w in
      record { marked = v.marked; noted = append_assoc starts (place ∷ []) (map place_of rest.placed) ∙ v.noted; stops = v.stops }

  pub walk_stops : (count i : ℕ) (fault : OpFault) → i < count → place < length code → decoded code place ≡ Err fault → Walks all size marks starts (instructions_from (count - i) code place)
      → Walks all size marks starts (record { placed = []; bad = Some place })
  walk_stops count i fault lt inside e w =
      let k : count - i ≡ suc (count - (i + 1)) = omega arith in
      let one : instructions_from (count - i) code place ≡ record { placed = []; bad = Some place } =
      ap (λ (n : ℕ). instructions_from n code place) k ∙ from_within (count - (i + 1)) code place inside ∙ ap (λ (r : Result (Instruction × ℕ) OpFault). decoded_before place r (instructions_from (count - (i + 1)) code)) e in
      subst (Walks all size marks starts) one w

  pub walk_ends : (room : ℕ) → (room ≡ 0) ⊎ (length code ≤ place) → Walks all size marks starts (instructions_from room code place) → Walks all size marks starts (record { placed = []; bad = None })
  unfolding instructions_from none_left
  walk_ends room (inl h) w = subst (λ (n : ℕ). Walks all size marks starts (instructions_from n code place)) h w
  walk_ends room (inr h) w = subst (Walks all size marks starts) (from_past room code place h) w

-- Where nothing is left, all is known.
pub walked_knows : (code : List ℕ) → IsBytes code → length code < 65536 → (marks : List Mark) (starts : List ℕ) (bad : Option ℕ) → Walks (instructions_from (length code) code 0) (length code) marks starts (record { placed = []; bad = bad }) → Knows code marks starts bad
unfolding marked_with
walked_knows code bytes short marks starts bad w =
    let e = sym (short_instructions code (omega arith)) in
    walk_knows code bytes marks starts bad
    (w.marked ∙ ap (λ (i : Instructions). marked_with i.placed (replicate (length code) Inside)) e)
    (sym (append-nil starts) ∙ w.noted ∙ ap (λ (i : Instructions). map place_of i.placed) e)
    (w.stops ∙ ap (λ (i : Instructions). i.bad) e)

-- ---- what is kept of one of them

-- An instruction is there, and it stands at its place.
pub record IsKept (code : List ℕ) (k place : ℕ) : Type 0 where
  pub placed : Placed
  pub there : slice_get (instructions code).placed k ≡ Some placed
  pub stands : Stands code place placed
  pub short : length code < 65536

short_code : (code : List ℕ) (k : ℕ) (p : Placed) → slice_get (instructions code).placed k ≡ Some p → length code < 65536
short_code code k p h =
    elim (cases_lt (length code) 65536) [
      | inl l ↦ l
      | inr l ↦ let e : slice_get {X = Placed} [] k ≡ Some p = sym (ap (λ (i : Instructions). slice_get i.placed k) (long_instructions code (omega arith))) ∙ h in absurd cc
    ]

none_there : (k : ℕ) → slice_get {X = Placed} [] k ≡ None
none_there k = refl

mapped : (o : Option Placed) (place : ℕ) → option_map place_of o ≡ Some place → (p : Placed) × (o ≡ Some p) × (p.place ≡ place)
mapped None place h = absurd cc
mapped (Some p) place h = (p, refl, cc)

unmapped : (o : Option Placed) → option_map place_of o ≡ None → o ≡ None
unmapped None h = refl
unmapped (Some p) h = absurd cc

seen_at : (code : List ℕ) (kept : List Mark) (starts : List ℕ) (bad : Option ℕ) (k : ℕ) → Knows code kept starts bad → slice_get starts k ≡ option_map place_of (slice_get (instructions code).placed k)
seen_at code kept starts bad k w = ap (λ (ps : List ℕ). slice_get ps k) w.places ∙ slice_get-map place_of (instructions code).placed k

pub is_kept : (code : List ℕ) (kept : List Mark) (starts : List ℕ) (bad : Option ℕ) (k place : ℕ) → Knows code kept starts bad → slice_get starts k ≡ Some place → IsKept code k place
is_kept code kept starts bad k place w h =
    let m = mapped (slice_get (instructions code).placed k) place (sym (seen_at code kept starts bad k w) ∙ h) in
    let s = stands code w.bytes k m.0 m.1 in
    record { placed = m.0; there = m.1; stands = subst (λ (n : ℕ). Stands code n m.0) m.2 s; short = short_code code k m.0 m.1 }

pub is_past : (code : List ℕ) (kept : List Mark) (starts : List ℕ) (bad : Option ℕ) (k : ℕ) → Knows code kept starts bad → slice_get starts k ≡ None → slice_get (instructions code).placed k ≡ None
is_past code kept starts bad k w h = unmapped (slice_get (instructions code).placed k) (sym (seen_at code kept starts bad k w) ∙ h)

abbrev ok : Instruction × ℕ → Result (Instruction × ℕ) OpFault
ok x = Ok x

ok_is : (x y : Instruction × ℕ) → ok x ≡ ok y → x ≡ y
ok_is x y e = cc

-- the answer of decoding again
pub again : (code : List ℕ) (k place next : ℕ) (instr : Instruction) (s : IsKept code k place) → decoded code place ≡ Ok (instr, next) → slice_get (instructions code).placed k ≡ Some (record { place = place; instr = instr; next = next })
again code k place next instr s e =
    let both = ok_is (s.placed.instr, s.placed.next) (instr, next) (sym s.stands.read ∙ e) in
    let i : s.placed.instr ≡ instr = ap (λ (x : Instruction × ℕ). x.0) both in
    let n : s.placed.next ≡ next = ap (λ (x : Instruction × ℕ). x.1) both in
    s.there ∙ ap (λ (q : ℕ). Some (record { place = q; instr = s.placed.instr; next = s.placed.next })) s.stands.here ∙ ap (λ (j : Instruction). Some (record { place = place; instr = j; next = s.placed.next })) i ∙ ap (λ (q : ℕ). Some (record { place = place; instr = instr; next = q })) n

pub never_fails : (code : List ℕ) (k place : ℕ) (fault : OpFault) → IsKept code k place → decoded code place ≡ Err fault → ⊥
never_fails code k place fault s e =
    let both : ok (s.placed.instr, s.placed.next) ≡ Err fault = sym s.stands.read ∙ e in
    absurd cc

pub length-places : (ps : List Placed) → length (map place_of ps) ≡ length ps
length-places [] = refl
length-places (p ∷ ps) = ap suc (length-places ps)
