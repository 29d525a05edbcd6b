-- What has its cause is what reading answers.
use Rattle.std.proofs.Common.{◌≡◌, ℕ, ℤ, ◌+◌, ◌*◌, ◌/◌, ◌%◌, ◌^◌, ◌<◌, ◌≤◌, Bool, true, false, cond, List, [], ◌∷◌, ◌++◌, length, Option, Some, None, Result, Ok, Err, refl, ap, ◌∙◌, append_assoc, arith, inl, inr, ◌⊎◌}
use Rattle.std.proofs.lemmas.Bool.{le-leb, lt-leb}
use Rattle.std.specs.Prelude.{FitsSigned, int_lt, nat_le}
use Rattle.std.specs.Int.{w8, w16, w32, cast_unsigned}
use Rattle.jsa_base.specs.Reading.{Read, IsBytes, u1_at, u2_at, bytes_at, pair_at}
use Rattle.jsa_base.specs.Spelling.{u1, u2, u4, s1, s2, s4, Fits1, Fits2}
use Rattle.jsa_ops.specs.declared.fault.OpFault.{OpFault}
use Rattle.jsa_ops.specs.declared.fault.OpFault.TheVariants.{BadOpcode, Cut, BadOperand}
use Rattle.jsa_ops.specs.declared.form.Form.{Form}
use Rattle.jsa_ops.specs.declared.form.Form.TheVariants as forms
use Rattle.jsa_ops.specs.Opcodes.{form_of, widens}
use Rattle.jsa_ops.specs.Instruction.{Instruction, Plain, Byte, Short, Constant, Local, Iinc, Wide, WideIinc, Branch, Member, Interface, Dynamic, ClassOf, NewArray, MultiArray, TableSwitch, LookupSwitch}
use Rattle.jsa_ops.specs.Spelling.{Fits, opcode, operands, padding, span, index_text, distance_text}
use Rattle.jsa_ops.specs.Reading.{then_at, of_part, s1_at, s2_at, s4_at, range_at, count_at, iinc_at, call_at, dimensions_at, widened, wide_at, distances_at, table_switch_at, pairs_at, if_ascending, lookup_switch_at, operands_at, behind, instruction_at}
use Rattle.jsa_ops.specs.Places.{IsPadding, TableFront, PairsFront, NamesNone, IsCut, CutBehindWide, IsBadOperand, KeysFall, wide_width, width, Causes}
use Rattle.jsa_ops.proofs.Parts.{Part, too_few, behind_size, bytes_again, u1_part, u2_part, s1_part, s2_part, s4_part, bytes_part}
use Rattle.jsa_ops.proofs.Forms.{low_byte, near_text, far_index, near_distance, far_distance, iinc_text, iinc_spelled, IincFits, iinc_part, wide_spelled, WideFits, wide_part, call_spelled, CallFits, call_part, dimensions_spelled, DimensionsFit, dimensions_part, range_part, count_part}

Answer : Type 0
Answer = Result (Instruction × List ℕ) OpFault

-- an opcode of a form, and what its operands give
by_form : (pc op : ℕ) (form : Form) (text : List ℕ) (r : Result (Instruction × List ℕ) OpFault) → form_of op ≡ Some form → operands_at pc op form text ≡ r → instruction_at pc (op ∷ text) ≡ r
unfolding instruction_at behind
by_form pc op form text r is e = ap (λ (f : Option Form). behind pc op f text) is ∙ e

-- ---- the operands of one size

remade : {A : Type 0} (make : A → Instruction) (read : List ℕ → Read A) (s : A → List ℕ) (F : A → Type 0) (n : ℕ) → Part read s F n → (x : A) (rest : List ℕ) → F x → of_part make read (s x ++ rest) ≡ Ok (make x, rest)
remade {A} make read s F n p x rest fits = ap (λ (r : Read A). then_at r (λ y more. Ok (make y, more))) (p.codec.again x rest fits)

short : {A : Type 0} (make : A → Instruction) (read : List ℕ → Read A) (s : A → List ℕ) (F : A → Type 0) (n : ℕ) → Part read s F n → (bytes : List ℕ) → length bytes < n → of_part make read bytes ≡ Err Cut
short {A} make read s F n p bytes few = ap (λ (r : Read A). then_at r (λ y more. Ok (make y, more))) (too_few n bytes (read bytes) (p.size bytes) few)

-- ---- wide

wide_again : (pc op code n : ℕ) (rest : List ℕ) → form_of op ≡ Some forms.Wide → form_of code ≡ Some forms.Local → n < 65536 → instruction_at pc (op ∷ ((u1 code ++ u2 n) ++ rest)) ≡ Ok (Wide op code n, rest)
unfolding operands_at wide_at widened
wide_again pc op code n rest is local fits =
    by_form pc op forms.Wide (code ∷ (u2 n ++ rest)) (Ok (Wide op code n, rest)) is
    (ap (λ (f : Option Form). widened op code f (u2 n ++ rest)) local ∙ remade (Wide op code) u2_at u2 Fits2 2 u2_part n rest fits)

wide_iinc_again : (pc op n : ℕ) (v : ℤ) (rest : List ℕ) → form_of op ≡ Some forms.Wide → n < 65536 → FitsSigned w16 v → instruction_at pc (op ∷ ((u1 0x84 ++ (u2 n ++ s2 v)) ++ rest)) ≡ Ok (WideIinc op n v, rest)
unfolding operands_at wide_at widened form_of
wide_iinc_again pc op n v rest is small fits =
    by_form pc op forms.Wide (0x84 ∷ ((u2 n ++ s2 v) ++ rest)) (Ok (WideIinc op n v, rest)) is (remade (λ (p : ℕ × ℤ). WideIinc op p.0 p.1) (pair_at u2_at s2_at) wide_spelled WideFits 4 wide_part (n, v) rest (small, fits))

wide_cut : (op code : ℕ) (rest : List ℕ) (form : Option Form) → form_of code ≡ form → length rest < wide_width form → widened op code form rest ≡ Err Cut
unfolding widened
wide_cut op code rest (Some forms.Local) is few = short (Wide op code) u2_at u2 Fits2 2 u2_part rest few
wide_cut op code rest (Some forms.Iinc) is few = short (λ (p : ℕ × ℤ). WideIinc op p.0 p.1) (pair_at u2_at s2_at) wide_spelled WideFits 4 wide_part rest few
wide_cut op code rest (Some forms.Plain) is few = absurd (omega (arith, few))
wide_cut op code rest (Some forms.Byte) is few = absurd (omega (arith, few))
wide_cut op code rest (Some forms.Short) is few = absurd (omega (arith, few))
wide_cut op code rest (Some forms.NearConstant) is few = absurd (omega (arith, few))
wide_cut op code rest (Some forms.Constant) is few = absurd (omega (arith, few))
wide_cut op code rest (Some forms.Branch) is few = absurd (omega (arith, few))
wide_cut op code rest (Some forms.FarBranch) is few = absurd (omega (arith, few))
wide_cut op code rest (Some forms.Member) is few = absurd (omega (arith, few))
wide_cut op code rest (Some forms.Interface) is few = absurd (omega (arith, few))
wide_cut op code rest (Some forms.Dynamic) is few = absurd (omega (arith, few))
wide_cut op code rest (Some forms.ClassOf) is few = absurd (omega (arith, few))
wide_cut op code rest (Some forms.NewArray) is few = absurd (omega (arith, few))
wide_cut op code rest (Some forms.MultiArray) is few = absurd (omega (arith, few))
wide_cut op code rest (Some forms.TableSwitch) is few = absurd (omega (arith, few))
wide_cut op code rest (Some forms.LookupSwitch) is few = absurd (omega (arith, few))
wide_cut op code rest (Some forms.Wide) is few = absurd (omega (arith, few))
wide_cut op code rest None is few = absurd (omega (arith, few))

wide_behind_cut : (op : ℕ) (rest : List ℕ) → CutBehindWide rest → wide_at op rest ≡ Err Cut
unfolding wide_at
wide_behind_cut op [] h = absurd h
wide_behind_cut op (code ∷ rest) h = wide_cut op code rest (form_of code) refl h

wide_none : (op code : ℕ) (rest : List ℕ) (form : Option Form) → widens form ≡ false → widened op code form rest ≡ Err (BadOpcode code)
unfolding widened
wide_none op code rest (Some forms.Local) h = absurd cc
wide_none op code rest (Some forms.Iinc) h = absurd cc
wide_none op code rest (Some forms.Plain) h = refl
wide_none op code rest (Some forms.Byte) h = refl
wide_none op code rest (Some forms.Short) h = refl
wide_none op code rest (Some forms.NearConstant) h = refl
wide_none op code rest (Some forms.Constant) h = refl
wide_none op code rest (Some forms.Branch) h = refl
wide_none op code rest (Some forms.FarBranch) h = refl
wide_none op code rest (Some forms.Member) h = refl
wide_none op code rest (Some forms.Interface) h = refl
wide_none op code rest (Some forms.Dynamic) h = refl
wide_none op code rest (Some forms.ClassOf) h = refl
wide_none op code rest (Some forms.NewArray) h = refl
wide_none op code rest (Some forms.MultiArray) h = refl
wide_none op code rest (Some forms.TableSwitch) h = refl
wide_none op code rest (Some forms.LookupSwitch) h = refl
wide_none op code rest (Some forms.Wide) h = refl
wide_none op code rest None h = refl

-- ---- the switches, behind their front

table_front : (pc op : ℕ) (bytes : List ℕ) (t : TableFront pc bytes) → table_switch_at op pc bytes ≡ distances_at op t.other t.low t.high t.rest
unfolding table_switch_at
table_front pc op bytes t =
    ap (table_switch_at op pc) t.parts
    ∙ ap (λ (r : Read (List ℕ)). then_at r (λ pad rest. then_at (range_at rest) (λ x more. distances_at op x.0 x.1.0 x.1.1 more))) (bytes_again (padding pc) t.pad (s4 t.other ++ (s4 t.low ++ (s4 t.high ++ t.rest))) t.aligned.0)
    ∙ ap (λ (r : Read (ℤ × (ℤ × ℤ))). then_at r (λ x more. distances_at op x.0 x.1.0 x.1.1 more)) (range_part.codec.again (t.other, (t.low, t.high)) t.rest (t.fits.0, (t.fits.1, t.fits.2)))

pairs_front : (pc op : ℕ) (bytes : List ℕ) (p : PairsFront pc bytes) → lookup_switch_at op pc bytes ≡ pairs_at op p.other p.count p.rest
unfolding lookup_switch_at
pairs_front pc op bytes p =
    ap (lookup_switch_at op pc) p.parts
    ∙ ap (λ (r : Read (List ℕ)). then_at r (λ pad rest. then_at (count_at rest) (λ x more. pairs_at op x.0 x.1 more))) (bytes_again (padding pc) p.pad (s4 p.other ++ (u4 p.count ++ p.rest)) p.aligned.0)
    ∙ ap (λ (r : Read (ℤ × ℕ)). then_at r (λ x more. pairs_at op x.0 x.1 more)) (count_part.codec.again (p.other, p.count) p.rest (p.fits.0, p.fits.1))

distances_again : (op : ℕ) (other low high : ℤ) (distances rest : List ℕ) → int_lt high low ≡ false → length distances ≡ 4 * span low high → distances_at op other low high (distances ++ rest) ≡ Ok (TableSwitch op other low high distances, rest)
unfolding distances_at
distances_again op other low high distances rest order len = rw (order, bytes_again (4 * span low high) distances rest len) refl

distances_cut : (op : ℕ) (other low high : ℤ) (rest : List ℕ) → int_lt high low ≡ false → length rest < 4 * span low high → distances_at op other low high rest ≡ Err Cut
unfolding distances_at
distances_cut op other low high rest order few =
    let n = 4 * span low high in
    ap (λ (b : Bool). cond b (Err BadOperand) (of_part (TableSwitch op other low high) (bytes_at n) rest)) order
    ∙ short (TableSwitch op other low high) (bytes_at n) (λ bytes. bytes) (λ bytes. (length bytes ≡ n) × IsBytes bytes) n (bytes_part n) rest few

distances_bad : (op : ℕ) (other low high : ℤ) (rest : List ℕ) → int_lt high low ≡ true → distances_at op other low high rest ≡ Err BadOperand
unfolding distances_at
distances_bad op other low high rest order = ap (λ (b : Bool). cond b (Err BadOperand) (of_part (TableSwitch op other low high) (bytes_at (4 * span low high)) rest)) order

-- the pairs where their number isn't negative
pairs_by : (op : ℕ) (other : ℤ) (count : ℕ) (rest : List ℕ) → count < 2147483648 → pairs_at op other count rest ≡ then_at (bytes_at (8 * count) rest) (λ pairs more. if_ascending (LookupSwitch op other pairs) pairs more)
unfolding pairs_at
pairs_by op other count rest few =
    let small : nat_le 2147483648 count ≡ false = lt-leb _ _ few in
    ap (λ (b : Bool). cond b (Err BadOperand) (then_at (bytes_at (8 * count) rest) (λ pairs more. if_ascending (LookupSwitch op other pairs) pairs more))) small

pairs_there : (op : ℕ) (other : ℤ) (count : ℕ) (pairs more : List ℕ) → count < 2147483648 → length pairs ≡ 8 * count → pairs_at op other count (pairs ++ more) ≡ if_ascending (LookupSwitch op other pairs) pairs more
pairs_there op other count pairs more few len =
    pairs_by op other count (pairs ++ more) few ∙ ap (λ (r : Read (List ℕ)). then_at r (λ pairs more. if_ascending (LookupSwitch op other pairs) pairs more)) (bytes_again (8 * count) pairs more len)

pairs_cut : (op : ℕ) (other : ℤ) (count : ℕ) (rest : List ℕ) → count < 2147483648 → length rest < 8 * count → pairs_at op other count rest ≡ Err Cut
pairs_cut op other count rest few less =
    let n = 8 * count in
    pairs_by op other count rest few ∙ ap (λ (r : Read (List ℕ)). then_at r (λ pairs more. if_ascending (LookupSwitch op other pairs) pairs more)) (too_few n rest (bytes_at n rest) ((bytes_part n).size rest) less)

pairs_negative : (op : ℕ) (other : ℤ) (count : ℕ) (rest : List ℕ) → 2147483648 ≤ count → pairs_at op other count rest ≡ Err BadOperand
unfolding pairs_at
pairs_negative op other count rest many =
    let big : nat_le 2147483648 count ≡ true = le-leb _ _ many in
    ap (λ (b : Bool). cond b (Err BadOperand) (then_at (bytes_at (8 * count) rest) (λ pairs more. if_ascending (LookupSwitch op other pairs) pairs more))) big

-- their number is negative, or they are all there and fall
pairs_fall : (op : ℕ) (other : ℤ) (count : ℕ) (rest : List ℕ) → KeysFall count rest → (b : Bool) → nat_le 2147483648 count ≡ b → pairs_at op other count rest ≡ Err BadOperand
unfolding pairs_at
pairs_fall op other count rest h true e = rw e refl
pairs_fall op other count rest h false e = rw (e, h.2, bytes_again (8 * count) h.0 h.1 h.3, h.4) refl

pairs_bad : (op : ℕ) (other : ℤ) (count : ℕ) (rest : List ℕ) → (2 ^ 31 ≤ count) ⊎ KeysFall count rest → pairs_at op other count rest ≡ Err BadOperand
pairs_bad op other count rest (inl many) = pairs_negative op other count rest many
pairs_bad op other count rest (inr h) = pairs_fall op other count rest h (nat_le 2147483648 count) refl

-- ---- the fronts of switches are cut

table_short : (pc op : ℕ) (bytes : List ℕ) → length bytes < padding pc + 12 → (r : Read (List ℕ)) → bytes_at (padding pc) bytes ≡ r
    → then_at r (λ pad rest. then_at (range_at rest) (λ x more. distances_at op x.0 x.1.0 x.1.1 more)) ≡ Err Cut
table_short pc op bytes few (Some y) e =
    let size = behind_size (padding pc) bytes (bytes_at (padding pc) bytes) y.0 y.1 ((bytes_part (padding pc)).size bytes) e in
    let less : length y.1 < 12 = omega (arith, few, size) in
    ap (λ (r : Read (ℤ × (ℤ × ℤ))). then_at r (λ x more. distances_at op x.0 x.1.0 x.1.1 more)) (too_few 12 y.1 (range_at y.1) (range_part.size y.1) less)
table_short pc op bytes few None e = refl

lookup_short : (pc op : ℕ) (bytes : List ℕ) → length bytes < padding pc + 8 → (r : Read (List ℕ)) → bytes_at (padding pc) bytes ≡ r
    → then_at r (λ pad rest. then_at (count_at rest) (λ x more. pairs_at op x.0 x.1 more)) ≡ Err Cut
lookup_short pc op bytes few (Some y) e =
    let size = behind_size (padding pc) bytes (bytes_at (padding pc) bytes) y.0 y.1 ((bytes_part (padding pc)).size bytes) e in
    let less : length y.1 < 8 = omega (arith, few, size) in
    ap (λ (r : Read (ℤ × ℕ)). then_at r (λ x more. pairs_at op x.0 x.1 more)) (too_few 8 y.1 (count_at y.1) (count_part.size y.1) less)
lookup_short pc op bytes few None e = refl

-- ---- each fault

cut_width : (pc op : ℕ) (bytes : List ℕ) (form : Form) → length bytes < width pc form → operands_at pc op form bytes ≡ Err Cut
unfolding operands_at table_switch_at lookup_switch_at wide_at
cut_width pc op bytes forms.Plain few = absurd (omega (arith, few))
cut_width pc op bytes forms.Byte few = short (Byte op) s1_at s1 (FitsSigned w8) 1 s1_part bytes few
cut_width pc op bytes forms.Short few = short (Short op) s2_at s2 (FitsSigned w16) 2 s2_part bytes few
cut_width pc op bytes forms.NearConstant few = short (Constant op) u1_at u1 Fits1 1 u1_part bytes few
cut_width pc op bytes forms.Constant few = short (Constant op) u2_at u2 Fits2 2 u2_part bytes few
cut_width pc op bytes forms.Local few = short (Local op) u1_at u1 Fits1 1 u1_part bytes few
cut_width pc op bytes forms.Iinc few = short (λ (p : ℕ × ℤ). Iinc op p.0 p.1) iinc_at iinc_spelled IincFits 2 iinc_part bytes few
cut_width pc op bytes forms.Branch few = short (Branch op) s2_at s2 (FitsSigned w16) 2 s2_part bytes few
cut_width pc op bytes forms.FarBranch few = short (Branch op) s4_at s4 (FitsSigned w32) 4 s4_part bytes few
cut_width pc op bytes forms.Member few = short (Member op) u2_at u2 Fits2 2 u2_part bytes few
cut_width pc op bytes forms.Interface few = short (λ (p : ℕ × (ℕ × ℕ)). Interface op p.0 p.1.0 p.1.1) call_at call_spelled CallFits 4 call_part bytes few
cut_width pc op bytes forms.Dynamic few = short (λ (p : ℕ × (ℕ × ℕ)). Dynamic op p.0 p.1.0 p.1.1) call_at call_spelled CallFits 4 call_part bytes few
cut_width pc op bytes forms.ClassOf few = short (ClassOf op) u2_at u2 Fits2 2 u2_part bytes few
cut_width pc op bytes forms.NewArray few = short (NewArray op) u1_at u1 Fits1 1 u1_part bytes few
cut_width pc op bytes forms.MultiArray few = short (λ (p : ℕ × ℕ). MultiArray op p.0 p.1) dimensions_at dimensions_spelled DimensionsFit 3 dimensions_part bytes few
cut_width pc op bytes forms.TableSwitch few = table_short pc op bytes few (bytes_at (padding pc) bytes) refl
cut_width pc op bytes forms.LookupSwitch few = lookup_short pc op bytes few (bytes_at (padding pc) bytes) refl
cut_width pc op [] forms.Wide few = refl
cut_width pc op (code ∷ bytes) forms.Wide few = absurd (omega (arith, few))

cut : (pc : ℕ) (bytes : List ℕ) → IsCut pc bytes → instruction_at pc bytes ≡ Err Cut
unfolding instruction_at operands_at
cut pc [] h = refl
cut pc (op ∷ rest) (inl h) = by_form pc op h.0 rest (Err Cut) h.1 (cut_width pc op rest h.0 h.2)
cut pc (op ∷ rest) (inr (inl h)) = by_form pc op forms.Wide rest (Err Cut) h.0 (wide_behind_cut op rest h.1)
cut pc (op ∷ rest) (inr (inr (inl h))) = by_form pc op forms.TableSwitch rest (Err Cut) h.0 (table_front pc op rest h.1 ∙ distances_cut op h.1.other h.1.low h.1.high h.1.rest h.2 h.3)
cut pc (op ∷ rest) (inr (inr (inr h))) = by_form pc op forms.LookupSwitch rest (Err Cut) h.0 (pairs_front pc op rest h.1 ∙ pairs_cut op h.1.other h.1.count h.1.rest h.2 h.3)

bad_operand : (pc : ℕ) (bytes : List ℕ) → IsBadOperand pc bytes → instruction_at pc bytes ≡ Err BadOperand
unfolding operands_at
bad_operand pc [] h = absurd h
bad_operand pc (op ∷ rest) (inl h) = by_form pc op forms.TableSwitch rest (Err BadOperand) h.0 (table_front pc op rest h.1 ∙ distances_bad op h.1.other h.1.low h.1.high h.1.rest h.2)
bad_operand pc (op ∷ rest) (inr h) = by_form pc op forms.LookupSwitch rest (Err BadOperand) h.0 (pairs_front pc op rest h.1 ∙ pairs_bad op h.1.other h.1.count h.1.rest h.2)

names_none : (pc byte : ℕ) (bytes : List ℕ) → NamesNone byte bytes → instruction_at pc bytes ≡ Err (BadOpcode byte)
unfolding instruction_at behind operands_at wide_at
names_none pc byte [] h = absurd h
names_none pc byte (op ∷ rest) (inl h) = ap (λ (f : Option Form). behind pc op f rest) h.1 ∙ ap (λ (n : ℕ). Err (BadOpcode n)) h.0
names_none pc byte (op ∷ []) (inr h) = absurd h.1
names_none pc byte (op ∷ code ∷ rest) (inr h) = ap (λ (f : Option Form). behind pc op f (code ∷ rest)) h.0 ∙ wide_none op code rest (form_of code) h.1.1 ∙ ap (λ (n : ℕ). Err (BadOpcode n)) h.1.0

-- ---- each instruction

-- other bytes that are the same
as_text : (pc op : ℕ) (t u : List ℕ) (i : Instruction) (rest : List ℕ) → t ≡ u → instruction_at pc (op ∷ (u ++ rest)) ≡ Ok (i, rest) → instruction_at pc (op ∷ (t ++ rest)) ≡ Ok (i, rest)
as_text pc op t u i rest e h = ap (λ (x : List ℕ). instruction_at pc (op ∷ (x ++ rest))) e ∙ h

-- operands of one size right behind the opcode
part_again : (pc op : ℕ) (form : Form) → form_of op ≡ Some form → {A : Type 0} (make : A → Instruction) (read : List ℕ → Read A) (s : A → List ℕ) (F : A → Type 0) (n : ℕ) → Part read s F n → (x : A) (rest : List ℕ) → F x
    → (operands_at pc op form (s x ++ rest) ≡ of_part make read (s x ++ rest)) → instruction_at pc (op ∷ (s x ++ rest)) ≡ Ok (make x, rest)
part_again pc op form is make read s F n p x rest fits e = by_form pc op form (s x ++ rest) (Ok (make x, rest)) is (e ∙ remade make read s F n p x rest fits)

table_again : (pc op : ℕ) (other low high : ℤ) (pad distances rest : List ℕ) → IsPadding pc pad → Fits (TableSwitch op other low high distances)
    → instruction_at pc (op ∷ ((pad ++ (s4 other ++ (s4 low ++ (s4 high ++ distances)))) ++ rest)) ≡ Ok (TableSwitch op other low high distances, rest)
unfolding operands_at
table_again pc op other low high pad distances rest al fits =
    let text = (pad ++ (s4 other ++ (s4 low ++ (s4 high ++ distances)))) ++ rest in
    let t : TableFront pc text = record { pad = pad; other = other; low = low; high = high; rest = distances ++ rest; aligned = al; fits = (fits.1, fits.2, fits.3); parts = append_assoc pad (s4 other ++ (s4 low ++ (s4 high ++ distances))) rest } in
    by_form pc op forms.TableSwitch text (Ok (TableSwitch op other low high distances, rest)) fits.0 (table_front pc op text t ∙ distances_again op other low high distances rest fits.4 fits.5)

lookup_again : (pc op : ℕ) (other : ℤ) (pad pairs rest : List ℕ) → IsPadding pc pad → Fits (LookupSwitch op other pairs)
    → instruction_at pc (op ∷ ((pad ++ (s4 other ++ (u4 (length pairs / 8 % 4294967296) ++ pairs))) ++ rest)) ≡ Ok (LookupSwitch op other pairs, rest)
unfolding operands_at
lookup_again pc op other pad pairs rest al fits =
    let count = length pairs / 8 % 4294967296 in
    let short : length pairs < 8 * 2 ^ 31 = fits.2 in
    let whole : length pairs % 8 ≡ 0 = fits.3 in
    let small : count < 2 ^ 32 = omega arith in
    let few : count < 2147483648 = omega arith in
    let len : length pairs ≡ 8 * count = omega arith in
    let text = (pad ++ (s4 other ++ (u4 count ++ pairs))) ++ rest in
    let p : PairsFront pc text = record { pad = pad; other = other; count = count; rest = pairs ++ rest; aligned = al; fits = (fits.1, small); parts = append_assoc pad (s4 other ++ (u4 count ++ pairs)) rest } in
    by_form pc op forms.LookupSwitch text (Ok (LookupSwitch op other pairs, rest)) fits.0
    (pairs_front pc op text p ∙ pairs_there op other count pairs rest few len ∙ ap (λ (b : Bool). cond {A = Result (Instruction × List ℕ) OpFault} b (Ok (LookupSwitch op other pairs, rest)) (Err BadOperand)) fits.4)

pub again : (pc : ℕ) (pad : List ℕ) (i : Instruction) (rest : List ℕ) → IsPadding pc pad → Fits i → instruction_at pc (opcode i ∷ (operands pad i ++ rest)) ≡ Ok (i, rest)
unfolding operands_at
again pc pad (Plain op) rest al fits = by_form pc op forms.Plain rest (Ok (Plain op, rest)) fits refl
again pc pad (Byte op v) rest al fits = part_again pc op forms.Byte fits.0 (Byte op) s1_at s1 (FitsSigned w8) 1 s1_part v rest fits.1 refl
again pc pad (Short op v) rest al fits = part_again pc op forms.Short fits.0 (Short op) s2_at s2 (FitsSigned w16) 2 s2_part v rest fits.1 refl
again pc pad (Constant op i) rest al (inl fits) =
    as_text pc op (index_text (form_of op) i) (u1 i) (Constant op i) rest (near_text op i fits.0 fits.1) (part_again pc op forms.NearConstant fits.0 (Constant op) u1_at u1 Fits1 1 u1_part i rest fits.1 refl)
again pc pad (Constant op i) rest al (inr fits) =
    as_text pc op (index_text (form_of op) i) (u2 i) (Constant op i) rest (far_index op i fits.0) (part_again pc op forms.Constant fits.0 (Constant op) u2_at u2 Fits2 2 u2_part i rest fits.1 refl)
again pc pad (Local op n) rest al fits =
    as_text pc op (u1 (n % 256)) (u1 n) (Local op n) rest (ap u1 (low_byte n fits.1)) (part_again pc op forms.Local fits.0 (Local op) u1_at u1 Fits1 1 u1_part n rest fits.1 refl)
again pc pad (Iinc op n v) rest al fits =
    as_text pc op (u1 (n % 256) ++ u1 (cast_unsigned w16 v % 256)) (u1 n ++ s1 v) (Iinc op n v) rest (iinc_text n v fits.1 fits.2)
    (part_again pc op forms.Iinc fits.0 (λ (p : ℕ × ℤ). Iinc op p.0 p.1) iinc_at iinc_spelled IincFits 2 iinc_part (n, v) rest (fits.1, fits.2) refl)
again pc pad (Wide op code n) rest al fits = wide_again pc op code n rest fits.0 fits.1 fits.2
again pc pad (WideIinc op n v) rest al fits = wide_iinc_again pc op n v rest fits.0 fits.1 fits.2
again pc pad (Branch op d) rest al (inl fits) =
    as_text pc op (distance_text (form_of op) d) (s2 d) (Branch op d) rest (near_distance op d fits.0 fits.1) (part_again pc op forms.Branch fits.0 (Branch op) s2_at s2 (FitsSigned w16) 2 s2_part d rest fits.1 refl)
again pc pad (Branch op d) rest al (inr fits) =
    as_text pc op (distance_text (form_of op) d) (s4 d) (Branch op d) rest (far_distance op d fits.0) (part_again pc op forms.FarBranch fits.0 (Branch op) s4_at s4 (FitsSigned w32) 4 s4_part d rest fits.1 refl)
again pc pad (Member op i) rest al fits = part_again pc op forms.Member fits.0 (Member op) u2_at u2 Fits2 2 u2_part i rest fits.1 refl
again pc pad (Interface op i a b) rest al fits =
    part_again pc op forms.Interface fits.0 (λ (p : ℕ × (ℕ × ℕ)). Interface op p.0 p.1.0 p.1.1) call_at call_spelled CallFits 4 call_part (i, (a, b)) rest (fits.1, (fits.2, fits.3)) refl
again pc pad (Dynamic op i a b) rest al fits =
    part_again pc op forms.Dynamic fits.0 (λ (p : ℕ × (ℕ × ℕ)). Dynamic op p.0 p.1.0 p.1.1) call_at call_spelled CallFits 4 call_part (i, (a, b)) rest (fits.1, (fits.2, fits.3)) refl
again pc pad (ClassOf op i) rest al fits = part_again pc op forms.ClassOf fits.0 (ClassOf op) u2_at u2 Fits2 2 u2_part i rest fits.1 refl
again pc pad (NewArray op code) rest al fits = part_again pc op forms.NewArray fits.0 (NewArray op) u1_at u1 Fits1 1 u1_part code rest fits.1 refl
again pc pad (MultiArray op i d) rest al fits =
    part_again pc op forms.MultiArray fits.0 (λ (p : ℕ × ℕ). MultiArray op p.0 p.1) dimensions_at dimensions_spelled DimensionsFit 3 dimensions_part (i, d) rest (fits.1, fits.2) refl
again pc pad (TableSwitch op other low high distances) rest al fits = table_again pc op other low high pad distances rest al fits
again pc pad (LookupSwitch op other pairs) rest al fits = lookup_again pc op other pad pairs rest al fits

pub is_answered : (pc : ℕ) (bytes : List ℕ) (r : Result (Instruction × List ℕ) OpFault) → Causes pc bytes r → instruction_at pc bytes ≡ r
is_answered pc bytes (Ok x) h = ap (instruction_at pc) h.parts ∙ again pc h.pad x.0 x.1 h.aligned h.fits
is_answered pc bytes (Err (BadOpcode byte)) h = names_none pc byte bytes h
is_answered pc bytes (Err Cut) h = cut pc bytes h
is_answered pc bytes (Err BadOperand) h = bad_operand pc bytes h
