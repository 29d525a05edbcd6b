-- An instruction begins at a place exactly where one of the code's instructions stands there.
use Rattle.std.proofs.Common.{◌≡◌, ℕ, zero, suc, Bool, true, false, eqb, List, [], ◌∷◌, Some, refl, ap, ◌∙◌}
use Rattle.std.specs.Prelude.{slice_get, ◌==◌, ◌||◌}
use Rattle.std.specs.List.{list_any}
use Rattle.std.proofs.lemmas.Bool.{eqb-true, eq-eqb}
use Rattle.verify_rules.specs.Places.{Placed, instructions, is_start}

abbrev begins_at : ℕ → Placed → Bool
begins_at place p = p.place == place

either : (a b : Bool) → b ≡ true → (a || b) ≡ true
either true b h = refl
either false b h = h

-- one of them begins there
record OneOf (place : ℕ) (ps : List Placed) : Type 0 where
  k : ℕ
  placed : Placed
  there : slice_get ps k ≡ Some placed
  here : placed.place ≡ place

any_of : (place : ℕ) (ps : List Placed) (k : ℕ) (p : Placed) → slice_get ps k ≡ Some p → p.place ≡ place → list_any (begins_at place) ps ≡ true
any_of place [] k p h e = absurd cc
any_of place (q ∷ ps) zero p h e =
    let same : q ≡ p = cc in
    let is : eqb q.place place ≡ true = eq-eqb q.place place (ap (λ (x : Placed). x.place) same ∙ e) in
    rw is refl
any_of place (q ∷ ps) (suc k) p h e = either (eqb q.place place) (list_any (begins_at place) ps) (any_of place ps k p h e)

one_of : (place : ℕ) (ps : List Placed) → list_any (begins_at place) ps ≡ true → OneOf place ps
one_of place [] h = absurd cc
one_of place (q ∷ ps) h =
    elim (eqb q.place place) as (λ b. eqb q.place place ≡ b → (b || list_any (begins_at place) ps) ≡ true → OneOf place (q ∷ ps)) [
      | true ↦ λ is g. record { k = 0; placed = q; there = refl; here = eqb-true q.place place is }
      | false ↦ λ is g. let r = one_of place ps g in record { k = suc r.k; placed = r.placed; there = r.there; here = r.here }
    ] refl h

-- An instruction begins where one of them stands.
pub stands_at_start : (code : List ℕ) (k : ℕ) (p : Placed) → slice_get (instructions code).placed k ≡ Some p → is_start code p.place ≡ true
unfolding is_start
stands_at_start code k p h = any_of p.place (instructions code).placed k p h refl

-- Where an instruction begins, one of them stands.
pub start_stands : (code : List ℕ) (place : ℕ) → is_start code place ≡ true → (k : ℕ) × (p : Placed) × (slice_get (instructions code).placed k ≡ Some p) × (p.place ≡ place)
unfolding is_start
start_stands code place h = let r = one_of place (instructions code).placed h in (r.k, r.placed, r.there, r.here)
