-- Types that stand one after the other.
use Rattle.std.proofs.Common.{◌≡◌, ℕ, zero, suc, ◌+◌, ◌-◌, ◌<◌, ◌≤◌, Bool, true, false, cond, Option, Some, None, List, [], ◌∷◌, length, drop, take, position, slice_get, refl, sym, ap, subst, ◌∙◌, arith}
use Rattle.std.proofs.lemmas.List.{length-drop}
use Rattle.std.proofs.lemmas.Bool.{le-leb, lt-leb}
use Rattle.jsa_names.specs.Binding.{◌>>=◌}
use Rattle.jsa_names.specs.Types.{JavaType, Byte, Char, Double, Float, Int, Long, Short, Boolean, Class, Array, is_semicolon, is_no_bracket, begins_class, field_type_of, type_length, type_at, more_types, types_at, front_types, slots_of_type, slots_of, few_types}

abbrev Positive : Option ℕ → Type 0
Positive None = Unit {0}
Positive (Some n) = 0 < n

positive_more : (o : Option ℕ) → Positive (o >>= λ n. Some (n + 1))
positive_more None = tt
positive_more (Some n) = omega arith

positive_cond : (b : Bool) (o p : Option ℕ) → Positive o → Positive p → Positive (cond b o p)
positive_cond true o p h k = h
positive_cond false o p h k = k

positive_length : (bytes : List ℕ) → Positive (type_length bytes)
unfolding type_length
positive_length bytes =
    elim (position is_no_bracket bytes) as (λ o. Positive (o >>= λ depth. cond (begins_class (drop depth bytes)) (position is_semicolon bytes >>= λ n. Some (n + 1)) (Some (depth + 1)))) [
      | Some depth ↦ positive_cond (begins_class (drop depth bytes)) (position is_semicolon bytes >>= λ n. Some (n + 1)) (Some (depth + 1)) (positive_more (position is_semicolon bytes)) (omega arith)
      | None ↦ tt
    ]

abbrev Shorter : List ℕ → Option (JavaType × List ℕ) → Type 0
Shorter bytes None = Unit {0}
Shorter bytes (Some x) = length x.1 < length bytes

shorter_by : (bytes : List ℕ) (n : ℕ) (o : Option JavaType) → length (drop n bytes) < length bytes → Shorter bytes (o >>= λ t. Some (t, drop n bytes))
shorter_by bytes n None h = tt
shorter_by bytes n (Some t) h = h

pub nothing_at : type_at [] ≡ None
unfolding type_at type_length
nothing_at = refl

pub type_shorter : (bytes : List ℕ) → Shorter bytes (type_at bytes)
unfolding type_at
type_shorter [] = let P : Option (JavaType × List ℕ) → Type 0 = Shorter [] in subst P (sym nothing_at) tt
type_shorter (a ∷ bytes) =
    elim (type_length (a ∷ bytes)) as (λ o. Positive o → Shorter (a ∷ bytes) (o >>= λ n. (field_type_of (take n (a ∷ bytes)) >>= λ t. Some (t, drop n (a ∷ bytes))))) [
      | Some n ↦ λ p. shorter_by (a ∷ bytes) n (field_type_of (take n (a ∷ bytes))) (omega (arith, length-drop n (a ∷ bytes)))
      | None ↦ λ p. tt
    ] (positive_length (a ∷ bytes))

pub shorter : (bytes : List ℕ) (t : JavaType) (rest : List ℕ) → type_at bytes ≡ Some (t, rest) → length rest < length bytes
shorter bytes t rest h = let P : Option (JavaType × List ℕ) → Type 0 = Shorter bytes in subst P h (type_shorter bytes)

-- More turns than bytes make no difference.
types_enough : (n m : ℕ) (bytes : List ℕ) → length bytes ≤ n → length bytes ≤ m → types_at n bytes ≡ types_at m bytes
unfolding types_at
types_enough zero zero bytes h k = refl
types_enough zero (suc m) [] h k = sym (ap (λ (o : Option (JavaType × List ℕ)). more_types [] o (types_at m)) nothing_at)
types_enough zero (suc m) (a ∷ bytes) h k = absurd (omega arith)
types_enough (suc n) zero [] h k = ap (λ (o : Option (JavaType × List ℕ)). more_types [] o (types_at n)) nothing_at
types_enough (suc n) zero (a ∷ bytes) h k = absurd (omega arith)
types_enough (suc n) (suc m) bytes h k =
    elim (type_at bytes) as (λ o. Shorter bytes o → more_types bytes o (types_at n) ≡ more_types bytes o (types_at m)) [
      | Some x ↦ λ s. ap (λ (r : List JavaType × List ℕ). (x.0 ∷ r.0, r.1)) (types_enough n m x.1 (omega arith) (omega arith))
      | None ↦ λ s. refl
    ] (type_shorter bytes)

-- a type at the front
pub goes : (bytes : List ℕ) (t : JavaType) (rest : List ℕ) → type_at bytes ≡ Some (t, rest) → types_at (length bytes) bytes ≡ (t ∷ front_types rest, (types_at (length rest) rest).1)
unfolding types_at
goes [] t rest h = absurd (cc nothing_at)
goes (a ∷ bytes) t rest h =
    let s = shorter (a ∷ bytes) t rest h in
    ap (λ (o : Option (JavaType × List ℕ)). more_types (a ∷ bytes) o (types_at (length bytes))) h
    ∙ ap (λ (r : List JavaType × List ℕ). (t ∷ r.0, r.1)) (types_enough (length bytes) (length rest) rest (omega arith) (omega arith))

-- no type at the front
pub stops : (bytes : List ℕ) → type_at bytes ≡ None → types_at (length bytes) bytes ≡ ([], bytes)
unfolding types_at
stops [] h = refl
stops (a ∷ bytes) h = ap (λ (o : Option (JavaType × List ℕ)). more_types (a ∷ bytes) o (types_at (length bytes))) h

pub front_goes : (bytes : List ℕ) (t : JavaType) (rest : List ℕ) → type_at bytes ≡ Some (t, rest) → front_types bytes ≡ t ∷ front_types rest
front_goes bytes t rest h = ap (λ (r : List JavaType × List ℕ). r.0) (goes bytes t rest h)

pub front_stops : (bytes : List ℕ) → type_at bytes ≡ None → front_types bytes ≡ []
front_stops bytes h = ap (λ (r : List JavaType × List ℕ). r.0) (stops bytes h)

-- ---- slots

pub slots_go : (bytes : List ℕ) (t : JavaType) (rest : List ℕ) → type_at bytes ≡ Some (t, rest) → slots_of (front_types bytes) ≡ slots_of_type t + slots_of (front_types rest)
unfolding slots_of
slots_go bytes t rest h = ap slots_of (front_goes bytes t rest h)

pub slots_stop : (bytes : List ℕ) → type_at bytes ≡ None → slots_of (front_types bytes) ≡ 0
unfolding slots_of
slots_stop bytes h = ap slots_of (front_stops bytes h)

pub too_many : (bytes : List ℕ) → 255 < slots_of (front_types bytes) → few_types bytes ≡ None
unfolding few_types
too_many bytes h = rw (lt-leb (slots_of (front_types bytes)) 255 h)

pub few : (bytes : List ℕ) → slots_of (front_types bytes) ≤ 255 → few_types bytes ≡ Some (front_types bytes, (types_at (length bytes) bytes).1)
unfolding few_types
few bytes h = rw (le-leb (slots_of (front_types bytes)) 255 h)

some_slots : (t : JavaType) → 1 ≤ slots_of_type t
some_slots Byte = omega arith
some_slots Char = omega arith
some_slots Double = omega arith
some_slots Float = omega arith
some_slots Int = omega arith
some_slots Long = omega arith
some_slots Short = omega arith
some_slots Boolean = omega arith
some_slots (Class name) = omega arith
some_slots (Array depth element) = omega arith

-- each type takes a slot at least
pub no_fewer_slots : (types : List JavaType) → length types ≤ slots_of types
unfolding slots_of
no_fewer_slots [] = omega arith
no_fewer_slots (t ∷ types) = omega (arith, some_slots t, no_fewer_slots types)

-- ---- the type at a place

pub get_goes : (bytes : List ℕ) (t : JavaType) (rest : List ℕ) (k i : ℕ) → i < k → type_at bytes ≡ Some (t, rest) → slice_get (front_types bytes) (k - i) ≡ slice_get (front_types rest) (k - (i + 1))
get_goes bytes t rest k i lt h =
    let n : k - i ≡ suc (k - (i + 1)) = omega arith in
    rw (n, front_goes bytes t rest h) refl

abbrev no_types : List JavaType
no_types = []

nothing_there : (n : ℕ) → slice_get no_types n ≡ None
nothing_there zero = refl
nothing_there (suc n) = refl

pub get_stops : (bytes : List ℕ) (n : ℕ) → type_at bytes ≡ None → slice_get (front_types bytes) n ≡ None
get_stops bytes n h = rw (front_stops bytes h) (nothing_there n)

pub get_here : (bytes : List ℕ) (t : JavaType) (rest : List ℕ) (k i : ℕ) → k ≤ i → type_at bytes ≡ Some (t, rest) → slice_get (front_types bytes) (k - i) ≡ Some t
get_here bytes t rest k i le h =
    let n : k - i ≡ 0 = omega arith in
    rw (n, front_goes bytes t rest h) refl
