-- What stands behind the end of a code.
use Rattle.std.proofs.Common.{◌≡◌, ℕ, ℤ, ◌+◌, ◌-◌, ◌^◌, ◌<◌, ◌≤◌, List, [], ◌∷◌, ◌++◌, length, drop, Option, Some, None, Result, Ok, Err, refl, ap, ◌∙◌, append_assoc, arith, inl, inr}
use Rattle.std.proofs.lemmas.List.{length-append, length-drop, length-replicate, drop-append-le}
use Rattle.std.proofs.lemmas.Int.{ints}
use Rattle.std.specs.Prelude.{FitsSigned, replicate}
use Rattle.std.specs.Int.{w32}
use Rattle.jsa_base.specs.Reading.{IsBytes}
use Rattle.jsa_base.specs.Spelling.{u4, s4}
use Rattle.jsa_base.proofs.Codecs.{append-IsBytes}
use Rattle.jsa_ops.specs.declared.fault.OpFault.{OpFault}
use Rattle.jsa_ops.specs.declared.fault.OpFault.TheVariants.{BadOpcode, Cut, BadOperand}
use Rattle.jsa_ops.specs.declared.form.Form.{Form}
use Rattle.jsa_ops.specs.declared.form.Form.TheVariants as forms
use Rattle.jsa_ops.specs.Opcodes.{form_of}
use Rattle.jsa_ops.specs.Instruction.{Instruction}
use Rattle.jsa_ops.specs.Spelling.{opcode, operands, span}
use Rattle.jsa_ops.specs.Reading.{instruction_at, placed, decoded}
use Rattle.jsa_ops.specs.Places.{Begins, NoneBehindWide, NamesNone, TableFront, PairsFront, width, wide_width, CutBehindWide, PassesEnd, IsCut, IsBadOperand, Causes, BehindIsUnread, CutGoesOn}
use Rattle.jsa_ops.proofs.Forms.{zeros_are_bytes}
use Rattle.jsa_ops.proofs.Found.{has_cause}
use Rattle.jsa_ops.proofs.Back.{is_answered}
use Rattle.jsa_ops.proofs.Placed.{IsBytes-drop, begins_size, exactly}

-- ---- each cause but that of Cut holds of longer bytes

more_table : (pc : ℕ) (bytes behind : List ℕ) → TableFront pc bytes → TableFront pc (bytes ++ behind)
more_table pc bytes behind t =
    record { pad = t.pad; other = t.other; low = t.low; high = t.high; rest = t.rest ++ behind; aligned = t.aligned; fits = t.fits; parts = ap (λ (b : List ℕ). b ++ behind) t.parts ∙ append_assoc t.pad (s4 t.other ++ (s4 t.low ++ (s4 t.high ++ t.rest))) behind }

more_pairs : (pc : ℕ) (bytes behind : List ℕ) → PairsFront pc bytes → PairsFront pc (bytes ++ behind)
more_pairs pc bytes behind p =
    record { pad = p.pad; other = p.other; count = p.count; rest = p.rest ++ behind; aligned = p.aligned; fits = p.fits; parts = ap (λ (b : List ℕ). b ++ behind) p.parts ∙ append_assoc p.pad (s4 p.other ++ (u4 p.count ++ p.rest)) behind }

more_bad : (pc : ℕ) (bytes behind : List ℕ) → IsBadOperand pc bytes → IsBadOperand pc (bytes ++ behind)
unfolding more_table more_pairs
more_bad pc [] behind h = absurd h
more_bad pc (op ∷ rest) behind (inl h) = inl (h.0, more_table pc rest behind h.1, h.2)
more_bad pc (op ∷ rest) behind (inr (is, p, inl many)) = inr (is, more_pairs pc rest behind p, inl many)
more_bad pc (op ∷ rest) behind (inr (is, p, inr k)) =
    inr (is, more_pairs pc rest behind p, inr (k.0, k.1 ++ behind, ap (λ (b : List ℕ). b ++ behind) k.2 ∙ append_assoc k.0 k.1 behind, k.3, k.4))

more_behind_wide : (byte : ℕ) (rest behind : List ℕ) → NoneBehindWide byte rest → NoneBehindWide byte (rest ++ behind)
more_behind_wide byte [] behind h = absurd h
more_behind_wide byte (code ∷ rest) behind h = h

more_none : (byte : ℕ) (bytes behind : List ℕ) → NamesNone byte bytes → NamesNone byte (bytes ++ behind)
more_none byte [] behind h = absurd h
more_none byte (op ∷ rest) behind (inl h) = inl h
more_none byte (op ∷ rest) behind (inr h) = inr (h.0, more_behind_wide byte rest behind h.1)

more_begins : (pc : ℕ) (bytes behind : List ℕ) (i : Instruction) (rest : List ℕ) → Begins pc bytes i rest → Begins pc (bytes ++ behind) i (rest ++ behind)
more_begins pc bytes behind i rest b =
    record { pad = b.pad; aligned = b.aligned; parts = ap (λ (l : List ℕ). l ++ behind) b.parts ∙ ap (λ (l : List ℕ). opcode i ∷ l) (append_assoc (operands b.pad i) rest behind); fits = b.fits }

-- ---- so the answer is the same

longer : (code behind : List ℕ) (pc : ℕ) → pc ≤ length code → (r : Result (Instruction × List ℕ) OpFault) → instruction_at pc (drop pc code) ≡ r → Causes pc (drop pc code) r → (decoded code pc ≡ Err Cut → ⊥)
    → placed (length (code ++ behind)) (instruction_at pc (drop pc code ++ behind)) ≡ placed (length code) r
longer code behind pc at (Ok x) e h uncut =
    let bytes = drop pc code in
    let size = begins_size code pc x.0 x.1 h in
    let next : length (code ++ behind) - length (x.1 ++ behind) ≡ length code - length x.1 = simp length-append (omega (arith, size)) in
    ap (placed (length (code ++ behind))) (is_answered pc (bytes ++ behind) (Ok (x.0, x.1 ++ behind)) (more_begins pc bytes behind x.0 x.1 h)) ∙ ap (λ (n : ℕ). Ok (x.0, n)) next
longer code behind pc at (Err (BadOpcode byte)) e h uncut =
    ap (placed (length (code ++ behind))) (is_answered pc (drop pc code ++ behind) (Err (BadOpcode byte)) (more_none byte (drop pc code) behind h))
longer code behind pc at (Err Cut) e h uncut = absurd (uncut (ap (placed (length code)) e))
longer code behind pc at (Err BadOperand) e h uncut =
    ap (placed (length (code ++ behind))) (is_answered pc (drop pc code ++ behind) (Err BadOperand) (more_bad pc (drop pc code) behind h))

pub unread : BehindIsUnread
unread code behind pc fits at uncut =
    let r = instruction_at pc (drop pc code) in
    ap (λ (b : List ℕ). placed (length (code ++ behind)) (instruction_at pc b)) (drop-append-le pc code behind at)
    ∙ longer code behind pc at r refl (has_cause pc (drop pc code) (IsBytes-drop pc code fits)) uncut

-- ---- enough bytes

span_small : (low high : ℤ) → FitsSigned w32 low → FitsSigned w32 high → span low high < 2 ^ 33
span_small low high fl fh = omega (arith, ints, fl.sfits, fh.sfits)

width_small : (pc : ℕ) (form : Form) → width pc form < 16
width_small pc forms.Plain = omega arith
width_small pc forms.Byte = omega arith
width_small pc forms.Short = omega arith
width_small pc forms.NearConstant = omega arith
width_small pc forms.Constant = omega arith
width_small pc forms.Local = omega arith
width_small pc forms.Iinc = omega arith
width_small pc forms.Branch = omega arith
width_small pc forms.FarBranch = omega arith
width_small pc forms.Member = omega arith
width_small pc forms.Interface = omega arith
width_small pc forms.Dynamic = omega arith
width_small pc forms.ClassOf = omega arith
width_small pc forms.NewArray = omega arith
width_small pc forms.MultiArray = omega arith
width_small pc forms.TableSwitch = omega arith
width_small pc forms.LookupSwitch = omega arith
width_small pc forms.Wide = omega arith

wide_small : (form : Option Form) → wide_width form < 16
wide_small (Some forms.Local) = omega arith
wide_small (Some forms.Iinc) = omega arith
wide_small (Some forms.Plain) = omega arith
wide_small (Some forms.Byte) = omega arith
wide_small (Some forms.Short) = omega arith
wide_small (Some forms.NearConstant) = omega arith
wide_small (Some forms.Constant) = omega arith
wide_small (Some forms.Branch) = omega arith
wide_small (Some forms.FarBranch) = omega arith
wide_small (Some forms.Member) = omega arith
wide_small (Some forms.Interface) = omega arith
wide_small (Some forms.Dynamic) = omega arith
wide_small (Some forms.ClassOf) = omega arith
wide_small (Some forms.NewArray) = omega arith
wide_small (Some forms.MultiArray) = omega arith
wide_small (Some forms.TableSwitch) = omega arith
wide_small (Some forms.LookupSwitch) = omega arith
wide_small (Some forms.Wide) = omega arith
wide_small None = omega arith

table_size : (pc : ℕ) (bytes : List ℕ) (t : TableFront pc bytes) → length bytes < 16 + length t.rest
table_size pc bytes t =
    let len : length bytes ≡ length t.pad + (12 + length t.rest) = ap length t.parts ∙ length-append t.pad (s4 t.other ++ (s4 t.low ++ (s4 t.high ++ t.rest))) ∙ ap (λ (n : ℕ). length t.pad + n) (omega arith) in
    omega (arith, len, t.aligned.0)

pairs_size : (pc : ℕ) (bytes : List ℕ) (p : PairsFront pc bytes) → length bytes < 16 + length p.rest
pairs_size pc bytes p =
    let len : length bytes ≡ length p.pad + (8 + length p.rest) = ap length p.parts ∙ length-append p.pad (s4 p.other ++ (u4 p.count ++ p.rest)) ∙ ap (λ (n : ℕ). length p.pad + n) (omega arith) in
    omega (arith, len, p.aligned.0)

wide_rest : (rest : List ℕ) → CutBehindWide rest → length rest < 17
wide_rest [] h = absurd h
wide_rest (code ∷ rest) h = let small = wide_small (form_of code) in omega (arith, h, small)

-- What passes the end is short.
passes_short : (pc op : ℕ) (rest : List ℕ) → PassesEnd pc op rest → length rest < 2 ^ 36
passes_short pc op rest (inl h) = let small = width_small pc h.0 in omega (arith, h.2, small)
passes_short pc op rest (inr (inl h)) = let short = wide_rest rest h.1 in omega (arith, short)
passes_short pc op rest (inr (inr (inl h))) =
    let size = table_size pc rest h.1 in
    let small = span_small h.1.low h.1.high h.1.fits.1 h.1.fits.2 in
    omega (arith, size, small, h.3)
passes_short pc op rest (inr (inr (inr h))) = let size = pairs_size pc rest h.1 in omega (arith, size, h.2, h.3)

cut_short : (pc : ℕ) (bytes : List ℕ) → IsCut pc bytes → length bytes < 2 ^ 37
cut_short pc [] h = omega arith
cut_short pc (op ∷ rest) h = let short = passes_short pc op rest h in omega (arith, short)

-- bytes of any length
enough : (n : ℕ) → (more : List ℕ) × IsBytes more × (length more ≡ n)
enough n = (replicate n 0, zeros_are_bytes n, length-replicate n 0)

not_cut : (code more : List ℕ) (pc : ℕ) → IsBytes code → pc ≤ length code → IsBytes more → length more ≡ 2 ^ 37 → decoded (code ++ more) pc ≡ Err Cut → ⊥
not_cut code more pc fits at bytes many e =
    let h : IsCut pc (drop pc (code ++ more)) = (exactly (code ++ more) pc (append-IsBytes code more fits bytes) (Err Cut)).0 e in
    let short = cut_short pc (drop pc (code ++ more)) h in
    let size : length (drop pc (code ++ more)) ≡ length code + length more - pc = length-drop pc (code ++ more) ∙ ap (λ (n : ℕ). n - pc) (length-append code more) in
    omega (arith, short, size, many, at)

pub goes_on : CutGoesOn
goes_on code pc fits at =
    let m = enough (2 ^ 37) in
    (m.0, m.1, not_cut code m.0 pc fits at m.1 m.2)
