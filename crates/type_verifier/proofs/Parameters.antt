-- The types of parameters.
use Rattle.std.proofs.Common.{◌≡◌, ℕ, suc, zero, ◌+◌, ◌≤◌, List, [], ◌∷◌, ◌++◌, length, drop, None, Some, refl, sym, ap, ◌∙◌, append_assoc, add-one, arith}
use Rattle.std.specs.Prelude.{slice_get, map}
use Rattle.std.proofs.lemmas.List.{append-nil, length-map}
use Rattle.jsa_names.specs.Types.{JavaType, slots_of, slots_of_type, Byte, Char, Double, Float, Int, Long, Short, Boolean, Class, Array}
use Rattle.verify_rules.specs.declared.types.VType.{VType}
use Rattle.verify_rules.specs.Env.{vtype_of}

-- each takes a slot at least
slot : (t : JavaType) → 1 ≤ slots_of_type t
slot Byte = omega arith
slot Char = omega arith
slot Double = omega arith
slot Float = omega arith
slot Int = omega arith
slot Long = omega arith
slot Short = omega arith
slot Boolean = omega arith
slot (Class name) = omega arith
slot (Array depth element) = omega arith

length_slots : (ts : List JavaType) → length ts ≤ slots_of ts
unfolding slots_of
length_slots [] = omega arith
length_slots (t ∷ ts) = omega (arith, slot t, length_slots ts)

drop_past : (k : ℕ) (ts : List JavaType) → length ts ≤ k → drop k ts ≡ []
drop_past zero [] h = refl
drop_past (suc k) [] h = refl
drop_past zero (t ∷ ts) h = absurd (omega arith)
drop_past (suc k) (t ∷ ts) h = drop_past k ts (omega arith)

drop_none : (k : ℕ) (ts : List JavaType) → slice_get ts k ≡ None → drop k ts ≡ []
drop_none zero [] h = refl
drop_none (suc k) [] h = refl
drop_none zero (t ∷ ts) h = absurd cc
drop_none (suc k) (t ∷ ts) h = drop_none k ts h

drop_some : (k : ℕ) (ts : List JavaType) (t : JavaType) → slice_get ts k ≡ Some t → drop k ts ≡ t ∷ drop (suc k) ts
drop_some k [] t h = absurd cc
drop_some zero (u ∷ ts) t h = cc
drop_some (suc k) (u ∷ ts) t h = drop_some k ts t h

at_end : (types : List VType) (rest all : List JavaType) → rest ≡ [] → types ++ map vtype_of rest ≡ map vtype_of all → types ≡ map vtype_of all
at_end types rest all e h = sym (append-nil types) ∙ (ap (λ (ts : List JavaType). types ++ map vtype_of ts) (sym e) ∙ h)

module _ (types : List VType) (k : ℕ) (ts : List JavaType) (h : types ++ map vtype_of (drop k ts) ≡ map vtype_of ts) where
  pub types_none : slice_get ts k ≡ None → types ≡ map vtype_of ts
  types_none e = at_end types (drop k ts) ts (drop_none k ts e) h

  pub types_all : slots_of ts ≤ k → types ≡ map vtype_of ts
  types_all le = at_end types (drop k ts) ts (drop_past k ts (omega (arith, length_slots ts))) h

  pub types_more : (t : JavaType) (more : List VType) → slice_get ts k ≡ Some t → more ≡ types ++ vtype_of t ∷ [] → more ++ map vtype_of (drop (k + 1) ts) ≡ map vtype_of ts
  types_more t more e m =
      rw (m, add-one) (append_assoc types (vtype_of t ∷ []) (map vtype_of (drop (suc k) ts)) ∙ (ap (λ (us : List JavaType). types ++ map vtype_of us) (sym (drop_some k ts t e)) ∙ h))

pub length_types : (ts : List JavaType) (types : List VType) → types ≡ map vtype_of ts → length types ≡ length ts
length_types ts types e = simp length-map at (ap length e)
