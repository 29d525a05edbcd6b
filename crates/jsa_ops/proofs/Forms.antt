-- The operands of the forms that are of one size, and rules of the whole table.
use Rattle.std.proofs.Common.{◌≡◌, ℕ, zero, suc, ℤ, pos, negsuc, ◌%◌, ◌^◌, ◌<◌, Bool, true, false, not, ◌||◌, ◌&&◌, List, [], ◌∷◌, ◌++◌, Option, Some, refl, ap, ◌∙◌, arith, inl, inr}
use Rattle.std.proofs.lemmas.Bool.{eqb-true}
use Rattle.std.proofs.lemmas.Bool.Decides.{eqb_tells}
use Rattle.std.proofs.lemmas.List.{length-replicate}
use Rattle.std.specs.Prelude.{FitsSigned, replicate, ◌==◌}
use Rattle.std.specs.Int.{w8, w16, w32, cast_unsigned}
use Rattle.jsa_base.specs.Reading.{IsBytes, u1_at, u2_at, u4_at, pair_at}
use Rattle.jsa_base.specs.Spelling.{u1, u2, u4, s1, s2, s4, Fits1, Fits2, Fits4}
use Rattle.jsa_ops.specs.declared.form.Form.{Form}
use Rattle.jsa_ops.specs.declared.form.Form.TheVariants as forms
use Rattle.jsa_ops.specs.Opcodes.{form_of}
use Rattle.jsa_ops.specs.Spelling.{padding, index_text, distance_text}
use Rattle.jsa_ops.specs.Places.{IsPadding}
use Rattle.jsa_ops.specs.Reading.{s1_at, s2_at, s4_at, range_at, count_at, iinc_at, call_at, dimensions_at}
use Rattle.jsa_ops.proofs.Parts.{Part, u1_part, u2_part, u4_part, s1_part, s2_part, s4_part, pair_part}

-- ---- a rule of the whole table, from a test that is computed over it

all_below : ℕ → (ℕ → Bool) → Bool
all_below zero test = true
all_below (suc n) test = test n && all_below n test

both : (a b : Bool) → a && b ≡ true → (a ≡ true) × (b ≡ true)
both true true e = (refl, refl)
both true false e = absurd cc
both false b e = absurd cc

each_below : (n : ℕ) (test : ℕ → Bool) → all_below n test ≡ true → (k : ℕ) → k < n → test k ≡ true
unfolding all_below
each_below zero test all k h = absurd (omega arith)
each_below (suc n) test all k h =
    let here = both (test n) (all_below n test) all in
    elim (eqb_tells k n) [ inl e ↦ ap test e.1 ∙ here.0 | inr ne ↦ each_below n test here.1 k (omega (arith, ne.1)) ]

abbrev is_iinc : Option Form → Bool
is_iinc (Some forms.Iinc) = true
is_iinc _ = false

abbrev one_iinc : ℕ → Bool
one_iinc code = not (is_iinc (form_of code)) || (code == 0x84)

only_iinc : all_below 256 one_iinc ≡ true
unfolding all_below form_of
only_iinc = refl

-- iinc alone has its form
pub iinc_is : (code : ℕ) → code < 256 → form_of code ≡ Some forms.Iinc → code ≡ 0x84
iinc_is code small is =
    let h : not (is_iinc (form_of code)) || (code == 0x84) ≡ true = each_below 256 one_iinc only_iinc code small in
    let k : (code == 0x84) ≡ true = (rw is at h) in
    eqb-true code 0x84 k

-- ---- padding

pub zeros_are_bytes : (n : ℕ) → IsBytes (replicate n 0)
zeros_are_bytes zero = tt
zeros_are_bytes (suc n) = (omega arith, zeros_are_bytes n)

abbrev pub zeros : ℕ → List ℕ
zeros pc = replicate (padding pc) 0

pub zeros_pad : (pc : ℕ) → IsPadding pc (zeros pc)
zeros_pad pc = (length-replicate (padding pc) 0, zeros_are_bytes (padding pc))

-- ---- numbers that fit where they are written

pub low_byte : (n : ℕ) → n < 256 → n % 256 ≡ n
low_byte n h = omega arith

narrow_byte : (z : ℤ) → FitsSigned w8 z → cast_unsigned w16 z % 256 ≡ cast_unsigned w8 z
narrow_byte (pos n) fits = omega (arith, fits.sfits)
narrow_byte (negsuc n) fits = omega (arith, fits.sfits)

narrow_short : (z : ℤ) → FitsSigned w16 z → cast_unsigned w32 z % 65536 ≡ cast_unsigned w16 z
narrow_short (pos n) fits = omega (arith, fits.sfits)
narrow_short (negsuc n) fits = omega (arith, fits.sfits)

pub near_text : (op i : ℕ) → form_of op ≡ Some forms.NearConstant → i < 256 → index_text (form_of op) i ≡ u1 i
near_text op i is fits = ap (λ (f : Option Form). index_text f i) is ∙ ap u1 (low_byte i fits)

pub far_index : (op i : ℕ) → form_of op ≡ Some forms.Constant → index_text (form_of op) i ≡ u2 i
far_index op i is = ap (λ (f : Option Form). index_text f i) is

pub near_distance : (op : ℕ) (d : ℤ) → form_of op ≡ Some forms.Branch → FitsSigned w16 d → distance_text (form_of op) d ≡ s2 d
near_distance op d is fits = ap (λ (f : Option Form). distance_text f d) is ∙ ap u2 (narrow_short d fits)

pub far_distance : (op : ℕ) (d : ℤ) → form_of op ≡ Some forms.FarBranch → distance_text (form_of op) d ≡ s4 d
far_distance op d is = ap (λ (f : Option Form). distance_text f d) is

pub iinc_text : (n : ℕ) (v : ℤ) → n < 256 → FitsSigned w8 v → u1 (n % 256) ++ u1 (cast_unsigned w16 v % 256) ≡ u1 n ++ s1 v
iinc_text n v small fits = ap (λ (m : ℕ). m ∷ (cast_unsigned w16 v % 256) ∷ []) (low_byte n small) ∙ ap (λ (m : ℕ). n ∷ m ∷ []) (narrow_byte v fits)

-- ---- operands of several parts

abbrev pub iinc_spelled : ℕ × ℤ → List ℕ
iinc_spelled p = u1 p.0 ++ s1 p.1

abbrev pub IincFits : ℕ × ℤ → Type 0
IincFits p = (p.0 < 256) × FitsSigned w8 p.1

pub iinc_part : Part iinc_at iinc_spelled IincFits 2
iinc_part = pair_part u1_at s1_at u1 s1 Fits1 (FitsSigned w8) 1 1 u1_part s1_part

abbrev pub wide_spelled : ℕ × ℤ → List ℕ
wide_spelled p = u2 p.0 ++ s2 p.1

abbrev pub WideFits : ℕ × ℤ → Type 0
WideFits p = (p.0 < 65536) × FitsSigned w16 p.1

pub wide_part : Part (pair_at u2_at s2_at) wide_spelled WideFits 4
wide_part = pair_part u2_at s2_at u2 s2 Fits2 (FitsSigned w16) 2 2 u2_part s2_part

abbrev pub call_spelled : ℕ × (ℕ × ℕ) → List ℕ
call_spelled p = u2 p.0 ++ (u1 p.1.0 ++ u1 p.1.1)

abbrev pub CallFits : ℕ × (ℕ × ℕ) → Type 0
CallFits p = (p.0 < 65536) × ((p.1.0 < 256) × (p.1.1 < 256))

pub call_part : Part call_at call_spelled CallFits 4
call_part = pair_part u2_at (pair_at u1_at u1_at) u2 (λ (p : ℕ × ℕ). u1 p.0 ++ u1 p.1) Fits2 (λ (p : ℕ × ℕ). (p.0 < 256) × (p.1 < 256)) 2 2 u2_part (pair_part u1_at u1_at u1 u1 Fits1 Fits1 1 1 u1_part u1_part)

abbrev pub dimensions_spelled : ℕ × ℕ → List ℕ
dimensions_spelled p = u2 p.0 ++ u1 p.1

abbrev pub DimensionsFit : ℕ × ℕ → Type 0
DimensionsFit p = (p.0 < 65536) × (p.1 < 256)

pub dimensions_part : Part dimensions_at dimensions_spelled DimensionsFit 3
dimensions_part = pair_part u2_at u1_at u2 u1 Fits2 Fits1 2 1 u2_part u1_part

abbrev pub range_spelled : ℤ × (ℤ × ℤ) → List ℕ
range_spelled p = s4 p.0 ++ (s4 p.1.0 ++ s4 p.1.1)

abbrev pub RangeFits : ℤ × (ℤ × ℤ) → Type 0
RangeFits p = FitsSigned w32 p.0 × (FitsSigned w32 p.1.0 × FitsSigned w32 p.1.1)

pub range_part : Part range_at range_spelled RangeFits 12
range_part = pair_part s4_at (pair_at s4_at s4_at) s4 (λ (p : ℤ × ℤ). s4 p.0 ++ s4 p.1) (FitsSigned w32) (λ (p : ℤ × ℤ). FitsSigned w32 p.0 × FitsSigned w32 p.1) 4 8 s4_part (pair_part s4_at s4_at s4 s4 (FitsSigned w32) (FitsSigned w32) 4 4 s4_part s4_part)

abbrev pub count_spelled : ℤ × ℕ → List ℕ
count_spelled p = s4 p.0 ++ u4 p.1

abbrev pub CountFits : ℤ × ℕ → Type 0
CountFits p = FitsSigned w32 p.0 × (p.1 < 2 ^ 32)

pub count_part : Part count_at count_spelled CountFits 8
count_part = pair_part s4_at u4_at s4 u4 (FitsSigned w32) Fits4 4 4 s4_part u4_part
