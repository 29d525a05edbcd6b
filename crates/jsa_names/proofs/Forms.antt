-- Units of modified UTF-8, one form at a time.
use Rattle.std.proofs.Common.{◌≡◌, ℕ, suc, ◌<◌, Bool, true, false, cond, Option, Some, None, List, [], ◌∷◌, ◌++◌, length, refl, ap, subst, sym, ◌∙◌, arith, append-nil, append_assoc, is_some, eqb}
use Rattle.std.specs.Option.{option_map}
use Rattle.jsa_names.specs.Texts.{is_one, is_two, is_three, two_unit, three_unit, before, units_of, is_mutf8, unit_at}

-- units behind others, where there are some
abbrev pub behind : List ℕ → Option (List ℕ) → Option (List ℕ)
behind front o = option_map (λ units. front ++ units) o

-- what follows from the form at the front
abbrev through : Option (ℕ × List ℕ) → Option (List ℕ)
through None = None
through (Some x) = before x.0 (units_of x.1)

through_cond : (b : Bool) (x : ℕ × List ℕ) (o : Option (ℕ × List ℕ)) (r s : Option (List ℕ)) → r ≡ through (Some x) → s ≡ through o → cond b r s ≡ through (cond b (Some x) o)
through_cond true x o r s h k = h
through_cond false x o r s h k = k

units_through : (a : ℕ) (rest : List ℕ) → units_of (a ∷ rest) ≡ through (unit_at (a ∷ rest))
unfolding units_of
units_through a [] = through_cond (is_one a) (a, []) None (Some (a ∷ [])) None refl refl
units_through a (b ∷ []) =
    through_cond (is_one a) (a, b ∷ []) (cond (is_two a b) (Some (two_unit a b, [])) None) (before a (units_of (b ∷ []))) (cond (is_two a b) (Some (two_unit a b ∷ [])) None) refl
    (through_cond (is_two a b) (two_unit a b, []) None (Some (two_unit a b ∷ [])) None refl refl)
units_through a (b ∷ c ∷ rest) =
    through_cond (is_one a) (a, b ∷ c ∷ rest) (cond (is_two a b) (Some (two_unit a b, c ∷ rest)) (cond (is_three a b c) (Some (three_unit a b c, rest)) None)) (before a (units_of (b ∷ c ∷ rest))) (cond (is_two a b) (before (two_unit a b) (units_of (c ∷ rest))) (cond (is_three a b c) (before (three_unit a b c) (units_of rest)) None)) refl
    (through_cond (is_two a b) (two_unit a b, c ∷ rest) (cond (is_three a b c) (Some (three_unit a b c, rest)) None) (before (two_unit a b) (units_of (c ∷ rest))) (cond (is_three a b c) (before (three_unit a b c) (units_of rest)) None) refl
    (through_cond (is_three a b c) (three_unit a b c, rest) None (before (three_unit a b c) (units_of rest)) None refl refl))

abbrev Shorter : List ℕ → Option (ℕ × List ℕ) → Type 0
Shorter bytes None = Unit {0}
Shorter bytes (Some x) = length x.1 < length bytes

cond_shorter : (bytes : List ℕ) (x : ℕ × List ℕ) (b : Bool) (o : Option (ℕ × List ℕ)) → length x.1 < length bytes → Shorter bytes o → Shorter bytes (cond b (Some x) o)
cond_shorter bytes x true o h k = h
cond_shorter bytes x false o h k = k

unit_shorter : (bytes : List ℕ) → Shorter bytes (unit_at bytes)
unit_shorter [] = tt
unit_shorter (a ∷ []) = cond_shorter (a ∷ []) (a, []) (is_one a) None (omega arith) tt
unit_shorter (a ∷ b ∷ []) = cond_shorter (a ∷ b ∷ []) (a, b ∷ []) (is_one a) _ (omega arith) (cond_shorter (a ∷ b ∷ []) (two_unit a b, []) (is_two a b) None (omega arith) tt)
unit_shorter (a ∷ b ∷ c ∷ rest) = cond_shorter (a ∷ b ∷ c ∷ rest) (a, b ∷ c ∷ rest) (is_one a) _ (omega arith) (cond_shorter (a ∷ b ∷ c ∷ rest) (two_unit a b, c ∷ rest) (is_two a b) _ (omega arith) (cond_shorter (a ∷ b ∷ c ∷ rest) (three_unit a b c, rest) (is_three a b c) None (omega arith) tt))

pub shorter : (bytes : List ℕ) (u : ℕ) (rest : List ℕ) → unit_at bytes ≡ Some (u, rest) → length rest < length bytes
shorter bytes u rest h = let P : Option (ℕ × List ℕ) → Type 0 = Shorter bytes in subst P h (unit_shorter bytes)

-- a form at the front
pub goes : (bytes : List ℕ) (u : ℕ) (rest : List ℕ) → unit_at bytes ≡ Some (u, rest) → units_of bytes ≡ before u (units_of rest)
goes [] u rest h = absurd cc
goes (a ∷ bytes) u rest h = rw (units_through a bytes) (ap through h)

-- what is read where no form stands at the front
abbrev pub at_end : Bool → Option (List ℕ)
at_end true = Some []
at_end false = None

pub at_end_some : (b : Bool) → is_some (at_end b) ≡ b
at_end_some true = refl
at_end_some false = refl

suc_not_zero : (n : ℕ) → eqb (suc n) 0 ≡ false
suc_not_zero n = grind arith

-- no form at the front
pub stops : (bytes : List ℕ) → unit_at bytes ≡ None → units_of bytes ≡ at_end (eqb (length bytes) 0)
unfolding units_of
stops [] h = refl
stops (a ∷ bytes) h = units_through a bytes ∙ ap through h ∙ sym (ap at_end (suc_not_zero (length bytes)))

pub before_some : (u : ℕ) (o : Option (List ℕ)) → is_some (before u o) ≡ is_some o
before_some u None = refl
before_some u (Some units) = refl

pub behind_before : (front : List ℕ) (u : ℕ) (o : Option (List ℕ)) → behind front (before u o) ≡ behind (front ++ u ∷ []) o
behind_before front u None = refl
behind_before front u (Some units) = ap (λ (l : List ℕ). Some l) (sym (append_assoc front (u ∷ []) units))

pub behind_nothing : (o : Option (List ℕ)) → behind [] o ≡ o
behind_nothing None = refl
behind_nothing (Some units) = refl

-- Where no form is left and the bytes are modified UTF-8, the units at hand are all.
pub ended : (rest bytes units : List ℕ) → unit_at rest ≡ None → is_mutf8 bytes ≡ true → behind units (units_of rest) ≡ units_of bytes → units_of bytes ≡ Some units
ended rest bytes units none right so_far = by_length (eqb (length rest) 0) (sym so_far ∙ ap (behind units) (stops rest none))
  where
    by_length : (b : Bool) → units_of bytes ≡ behind units (at_end b) → units_of bytes ≡ Some units
    by_length true h = h ∙ ap (λ (l : List ℕ). Some l) (append-nil units)
    by_length false h = absurd (cc (right, ap is_some h))

before_is : (v u : ℕ) (us : List ℕ) (o : Option (List ℕ)) → before v o ≡ Some (u ∷ us) → (v ≡ u) × (o ≡ Some us)
before_is v u us None h = absurd cc
before_is v u us (Some units) h = (cc, cc)

before_nothing : (v : ℕ) (o : Option (List ℕ)) → before v o ≡ Some [] → ⊥
before_nothing v None h = cc
before_nothing v (Some units) h = cc

-- Where no unit is read, there are no bytes.
pub read_nothing : (bytes : List ℕ) → units_of bytes ≡ Some [] → bytes ≡ []
read_nothing [] h = refl
read_nothing (a ∷ bytes) h =
    elim (unit_at (a ∷ bytes)) as (λ o. through o ≡ Some [] → (a ∷ bytes) ≡ []) [
      | Some x ↦ λ e. absurd (before_nothing x.0 (units_of x.1) e)
      | None ↦ λ e. absurd cc
    ] (sym (units_through a bytes) ∙ h)

-- The first unit is that of the form at the front, and the others are those of the bytes behind it.
pub read_first : (bytes : List ℕ) (u : ℕ) (us : List ℕ) → units_of bytes ≡ Some (u ∷ us) → (rest : List ℕ) × (unit_at bytes ≡ Some (u, rest)) × (units_of rest ≡ Some us)
unfolding units_of
read_first [] u us h = absurd cc
read_first (a ∷ bytes) u us h =
    elim (unit_at (a ∷ bytes)) as (λ o. through o ≡ Some (u ∷ us) → (rest : List ℕ) × (o ≡ Some (u, rest)) × (units_of rest ≡ Some us)) [
      | Some x ↦ λ e. let p = before_is x.0 u us (units_of x.1) e in (x.1, ap (λ (v : ℕ). Some (v, x.1)) p.0, p.1)
      | None ↦ λ e. absurd cc
    ] (sym (units_through a bytes) ∙ h)
