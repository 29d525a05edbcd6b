-- The instructions of a code stand one behind the other.
use Rattle.std.proofs.Common.{◌≡◌, ℕ, ◌+◌, ◌<◌, ◌≤◌, zero, suc, true, false, ltb, leb, List, [], ◌∷◌, length, Some, None, Result, Ok, Err, refl, sym, ◌∙◌, ap, subst, arith}
use Rattle.std.specs.Prelude.{slice_get, unwrap_or}
use Rattle.std.proofs.Common.{inl, inr}
use Rattle.std.proofs.lemmas.Bool.{cases_lt, lt-ltb, le-ltb, lt-leb, le-leb}
use Rattle.std.proofs.lemmas.Bool.Decides.{leb_tells}
use Rattle.jsa_base.specs.Reading.{IsBytes}
use Rattle.jsa_ops.specs.declared.fault.OpFault.{OpFault}
use Rattle.jsa_ops.specs.Instruction.{Instruction}
use Rattle.jsa_ops.specs.Reading.{decoded}
use Rattle.jsa_ops.proofs.Placed.{next_is}
use Rattle.verify_rules.specs.Places.{Placed, Instructions, decoded_before, instructions_from, instructions}

-- What is said of an instruction that is decoded at a place of a code.
pub record Stands (code : List ℕ) (place : ℕ) (p : Placed) : Type 0 where
  pub here : p.place ≡ place
  pub read : decoded code place ≡ Ok (p.instr, p.next)
  pub within : place < length code
  pub on : place < p.next
  pub upto : p.next ≤ length code

-- Each begins where the one before it ends.
unfoldable pub Chain : List ℕ → ℕ → List Placed → Type 0
Chain code place [] = Unit {0}
Chain code place (p ∷ ps) = Stands code place p × Chain code p.next ps

-- the place behind the last
pub end_of : ℕ → List Placed → ℕ
end_of place [] = place
end_of place (p ∷ ps) = end_of p.next ps

-- what is made of a decoding
module _ (code : List ℕ) (bytes : IsBytes code) (place : ℕ) (inside : place < length code) (others : ℕ → Instructions) where
  chain_before : (r : Result (Instruction × ℕ) OpFault) → decoded code place ≡ r → ((next : ℕ) → Chain code next (others next).placed) → Chain code place (decoded_before place r others).placed
  unfolding Chain
  chain_before (Err fault) e h = tt
  chain_before (Ok x) e h =
      let n = next_is code place x.0 x.1 bytes e in
      (record { here = refl; read = e; within = inside; on = n.0; upto = n.1 }, h x.1)

  end_before : (r : Result (Instruction × ℕ) OpFault) → decoded code place ≡ r → ((next : ℕ) → place < next → next ≤ length code → unwrap_or (others next).bad (length code) ≡ end_of next (others next).placed)
      → unwrap_or (decoded_before place r others).bad (length code) ≡ end_of place (decoded_before place r others).placed
  unfolding end_of
  end_before (Err fault) e h = refl
  end_before (Ok x) e h = let n = next_is code place x.0 x.1 bytes e in h x.1 n.0 n.1

unfoldable pub none_left : Instructions
none_left = record { placed = []; bad = None }

pub from_within : (room : ℕ) (code : List ℕ) (place : ℕ) → place < length code → instructions_from (suc room) code place ≡ decoded_before place (decoded code place) (instructions_from room code)
unfolding instructions_from
from_within room code place h = let e : ltb place (length code) ≡ true = lt-ltb place (length code) h in rw e refl

pub from_past : (room : ℕ) (code : List ℕ) (place : ℕ) → length code ≤ place → instructions_from room code place ≡ none_left
unfolding instructions_from none_left
from_past zero code place h = refl
from_past (suc room) code place h = let e : ltb place (length code) ≡ false = le-ltb place (length code) h in rw e refl

chain_from : (code : List ℕ) → IsBytes code → (room place : ℕ) → Chain code place (instructions_from room code place).placed
unfolding instructions_from Chain none_left
chain_from code bytes zero place = tt
chain_from code bytes (suc room) place =
    elim (cases_lt place (length code)) [
      | inl h ↦ subst (λ (i : Instructions). Chain code place i.placed) (sym (from_within room code place h)) (chain_before code bytes place h (instructions_from room code) (decoded code place) refl (chain_from code bytes room))
      | inr h ↦ subst (λ (i : Instructions). Chain code place i.placed) (sym (from_past (suc room) code place h)) tt
    ]

end_from : (code : List ℕ) → IsBytes code → (room place : ℕ) → length code ≤ room + place → place ≤ length code
    → unwrap_or (instructions_from room code place).bad (length code) ≡ end_of place (instructions_from room code place).placed
unfolding instructions_from end_of none_left
end_from code bytes zero place h k = omega arith
end_from code bytes (suc room) place h k =
    elim (cases_lt place (length code)) [
      | inl w ↦ subst (λ (i : Instructions). unwrap_or i.bad (length code) ≡ end_of place i.placed) (sym (from_within room code place w))
          (end_before code bytes place w (instructions_from room code) (decoded code place) refl (λ next on upto. end_from code bytes room next (omega arith) upto))
      | inr w ↦ subst (λ (i : Instructions). unwrap_or i.bad (length code) ≡ end_of place i.placed) (sym (from_past (suc room) code place w)) (let e : length code ≡ place = omega arith in e)
    ]

pub short_instructions : (code : List ℕ) → length code ≤ 65535 → instructions code ≡ instructions_from (length code) code 0
unfolding instructions
short_instructions code h = let e : leb (length code) 65535 ≡ true = le-leb (length code) 65535 h in rw e refl

pub long_instructions : (code : List ℕ) → 65535 < length code → instructions code ≡ record { placed = []; bad = Some 0 }
unfolding instructions
long_instructions code h = let e : leb (length code) 65535 ≡ false = lt-leb (length code) 65535 h in rw e refl

pub in_a_chain : (code : List ℕ) → IsBytes code → Chain code 0 (instructions code).placed
unfolding Chain
in_a_chain code bytes =
    elim (leb_tells (length code) 65535) [
      | inl h ↦ subst (λ (i : Instructions). Chain code 0 i.placed) (sym (short_instructions code h.1)) (chain_from code bytes (length code) 0)
      | inr h ↦ subst (λ (i : Instructions). Chain code 0 i.placed) (sym (long_instructions code h.1)) tt
    ]

-- ---- along a chain

stands_in : (code : List ℕ) (place : ℕ) (ps : List Placed) (k : ℕ) (p : Placed) → Chain code place ps → slice_get ps k ≡ Some p → Stands code p.place p × (place ≤ p.place)
unfolding Chain
stands_in code place [] k p c h = absurd cc
stands_in code place (q ∷ ps) zero p c h =
    let e : q ≡ p = cc in
    let s = c.0 in
    let here : place ≡ p.place = sym s.here ∙ ap (λ (x : Placed). x.place) e in
    (subst (λ (x : Placed). Stands code x.place x) e (subst (λ (n : ℕ). Stands code n q) (sym s.here) s), omega arith)
stands_in code place (q ∷ ps) (suc k) p c h =
    let s = c.0 in
    let r = stands_in code q.next ps k p c.1 h in
    (r.0, omega (arith, s.on, r.1))

first_in : (code : List ℕ) (place : ℕ) (ps : List Placed) (p : Placed) → Chain code place ps → slice_get ps 0 ≡ Some p → p.place ≡ place
unfolding Chain
first_in code place [] p c h = absurd cc
first_in code place (q ∷ ps) p c h = let e : q ≡ p = cc in sym (ap (λ (x : Placed). x.place) e) ∙ c.0.here

next_in : (code : List ℕ) (place : ℕ) (ps : List Placed) (k : ℕ) (p q : Placed) → Chain code place ps → slice_get ps k ≡ Some p → slice_get ps (suc k) ≡ Some q → q.place ≡ p.next
unfolding Chain
next_in code place [] k p q c h i = absurd cc
next_in code place (r ∷ ps) zero p q c h i = let e : r ≡ p = cc in first_in code r.next ps q c.1 i ∙ ap (λ (x : Placed). x.next) e
next_in code place (r ∷ ps) (suc k) p q c h i = next_in code r.next ps k p q c.1 h i

later_in : (code : List ℕ) (place : ℕ) (ps : List Placed) (j k : ℕ) (p q : Placed) → Chain code place ps → j < k → slice_get ps j ≡ Some p → slice_get ps k ≡ Some q → p.next ≤ q.place
unfolding Chain
later_in code place [] j k p q c lt h i = absurd cc
later_in code place (r ∷ ps) j zero p q c lt h i = absurd (omega arith)
later_in code place (r ∷ ps) zero (suc k) p q c lt h i =
    let e : r ≡ p = cc in
    let n : r.next ≡ p.next = ap (λ (x : Placed). x.next) e in
    let s = stands_in code r.next ps k q c.1 i in
    omega (arith, n, s.1)
later_in code place (r ∷ ps) (suc j) (suc k) p q c lt h i = later_in code r.next ps j k p q c.1 (omega arith) h i

last_in : (place : ℕ) (ps : List Placed) (k : ℕ) (p : Placed) → slice_get ps k ≡ Some p → slice_get ps (suc k) ≡ None → end_of place ps ≡ p.next
unfolding end_of
last_in place [] k p h i = absurd cc
last_in place (q ∷ []) zero p h i = let e : q ≡ p = cc in ap (λ (x : Placed). x.next) e
last_in place (q ∷ r ∷ ps) zero p h i = absurd cc
last_in place (q ∷ ps) (suc k) p h i = last_in q.next ps k p h i

-- ---- the instructions of a code

-- Each stands at its place, and the next place is above it and in the code, or its end.
pub stands : (code : List ℕ) → IsBytes code → (k : ℕ) (p : Placed) → slice_get (instructions code).placed k ≡ Some p → Stands code p.place p
stands code bytes k p h = (stands_in code 0 (instructions code).placed k p (in_a_chain code bytes) h).0

-- The first stands at 0.
pub first_place : (code : List ℕ) → IsBytes code → (p : Placed) → slice_get (instructions code).placed 0 ≡ Some p → p.place ≡ 0
first_place code bytes p h = first_in code 0 (instructions code).placed p (in_a_chain code bytes) h

-- The next place of one is the place of the one behind it.
pub next_place : (code : List ℕ) → IsBytes code → (k : ℕ) (p q : Placed) → slice_get (instructions code).placed k ≡ Some p → slice_get (instructions code).placed (suc k) ≡ Some q → q.place ≡ p.next
next_place code bytes k p q h i = next_in code 0 (instructions code).placed k p q (in_a_chain code bytes) h i

-- Places ascend strictly.
pub places_ascend : (code : List ℕ) → IsBytes code → (j k : ℕ) (p q : Placed) → j < k → slice_get (instructions code).placed j ≡ Some p → slice_get (instructions code).placed k ≡ Some q → p.place < q.place
places_ascend code bytes j k p q lt h i =
    let s = stands code bytes j p h in
    let l = later_in code 0 (instructions code).placed j k p q (in_a_chain code bytes) lt h i in
    omega (arith, s.on, l)

-- Behind the last comes the bad place, or where there is none the end of the code.
pub last_next : (code : List ℕ) → IsBytes code → length code ≤ 65535 → (k : ℕ) (p : Placed) → slice_get (instructions code).placed k ≡ Some p → slice_get (instructions code).placed (suc k) ≡ None
    → unwrap_or (instructions code).bad (length code) ≡ p.next
last_next code bytes short k p h i =
    let e : unwrap_or (instructions code).bad (length code) ≡ end_of 0 (instructions code).placed =
    subst (λ (is : Instructions). unwrap_or is.bad (length code) ≡ end_of 0 is.placed) (sym (short_instructions code short)) (end_from code bytes (length code) 0 (omega arith) (omega arith)) in
    e ∙ last_in 0 (instructions code).placed k p h i
