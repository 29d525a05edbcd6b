-- What reading answers has its cause.
use Rattle.std.proofs.Common.{◌≡◌, ℕ, ℤ, ◌+◌, ◌*◌, ◌/◌, ◌%◌, ◌^◌, ◌<◌, Bool, true, false, cond, List, [], ◌∷◌, ◌++◌, length, Option, Some, None, Ok, Err, refl, sym, ap, subst, ◌∙◌, append_assoc, arith, inl, inr}
use Rattle.std.proofs.lemmas.Bool.{leb-true, leb-false}
use Rattle.std.specs.Prelude.{FitsSigned, int_lt, nat_le}
use Rattle.std.specs.Int.{w8, w16, w32}
use Rattle.jsa_base.specs.Reading.{Read, IsBytes, u1_at, u2_at, bytes_at, pair_at}
use Rattle.jsa_base.specs.Spelling.{u1, u2, u4, s1, s2, s4, Fits1, Fits2}
use Rattle.jsa_base.specs.Codec.{Took}
use Rattle.jsa_ops.specs.declared.fault.OpFault.TheVariants.{BadOperand}
use Rattle.jsa_ops.specs.declared.form.Form.{Form}
use Rattle.jsa_ops.specs.declared.form.Form.TheVariants as forms
use Rattle.jsa_ops.specs.Opcodes.{form_of, widens}
use Rattle.jsa_ops.specs.Instruction.{Instruction, Byte, Short, Constant, Local, Iinc, Wide, WideIinc, Branch, Member, Interface, Dynamic, ClassOf, NewArray, MultiArray, TableSwitch, LookupSwitch}
use Rattle.jsa_ops.specs.Spelling.{Fits, opcode, operands, padding, span, keys, ascend}
use Rattle.jsa_ops.specs.Reading.{then_at, of_part, s1_at, s2_at, s4_at, range_at, count_at, iinc_at, call_at, dimensions_at, widened, wide_at, distances_at, table_switch_at, pairs_at, if_ascending, lookup_switch_at, operands_at, behind, instruction_at}
use Rattle.jsa_ops.specs.Places.{TableFront, PairsFront, IsCut, wide_width, width, Causes}
use Rattle.jsa_ops.proofs.Parts.{Part, none_is_few, behind_size, u1_part, u2_part, s1_part, s2_part, s4_part, bytes_part}
use Rattle.jsa_ops.proofs.Forms.{iinc_is, zeros, zeros_pad, low_byte, near_text, far_index, near_distance, far_distance, iinc_text, iinc_spelled, IincFits, iinc_part, wide_spelled, WideFits, wide_part, call_spelled, CallFits, call_part, dimensions_spelled, DimensionsFit, dimensions_part, range_part, count_part}

-- ---- operands of one size, behind a front

record Fine (pc op : ℕ) (i : Instruction) (text : List ℕ) : Type 0 where
  named : opcode i ≡ op
  spelled : operands (zeros pc) i ≡ text
  fits : Fits i

part_is : (pc op : ℕ) {A : Type 0} (make : A → Instruction) (read : List ℕ → Read A) (s : A → List ℕ) (F : A → Type 0) (n : ℕ) → Part read s F n → (front bytes : List ℕ) → IsBytes bytes
    → ((x : A) → F x → Fine pc op (make x) (front ++ s x)) → (length bytes < n → IsCut pc (op ∷ (front ++ bytes)))
    → (r : Read A) → read bytes ≡ r → Causes pc (op ∷ (front ++ bytes)) (then_at r (λ x rest. Ok (make x, rest)))
part_is pc op make read s F n p front bytes fits fine cut (Some y) e =
    let x = y.0 in
    let more = y.1 in
    let t = p.codec.takes bytes x more fits e in
    let g = fine x t.fits in
    let parts : op ∷ (front ++ bytes) ≡ opcode (make x) ∷ (operands (zeros pc) (make x) ++ more) =
    ap (λ (b : List ℕ). op ∷ (front ++ b)) t.parts ∙ ap (λ (b : List ℕ). op ∷ b) (sym (append_assoc front (s x) more)) ∙ ap (λ (b : List ℕ). op ∷ (b ++ more)) (sym g.spelled) ∙ ap (λ (o : ℕ). o ∷ (operands (zeros pc) (make x) ++ more)) (sym g.named) in
    record { pad = zeros pc; aligned = zeros_pad pc; parts = parts; fits = g.fits }
part_is pc op make read s F n p front bytes fits fine cut None e = cut (none_is_few n bytes (read bytes) (p.size bytes) e)

-- right behind the opcode
form_is : (pc op : ℕ) (form : Form) → form_of op ≡ Some form → {A : Type 0} (make : A → Instruction) (read : List ℕ → Read A) (s : A → List ℕ) (F : A → Type 0) → Part read s F (width pc form) → (bytes : List ℕ) → IsBytes bytes
    → ((x : A) → F x → Fine pc op (make x) (s x)) → Causes pc (op ∷ bytes) (of_part make read bytes)
form_is pc op form is make read s F p bytes fits fine = part_is pc op make read s F (width pc form) p [] bytes fits fine (λ few. inl (form, is, few)) (read bytes) refl

-- ---- wide

widened_is : (pc op code : ℕ) (bytes : List ℕ) → code < 256 → IsBytes bytes → form_of op ≡ Some forms.Wide → (form : Option Form) → form_of code ≡ form → Causes pc (op ∷ code ∷ bytes) (widened op code form bytes)
unfolding widened
widened_is pc op code bytes small fits is (Some forms.Local) local =
    part_is pc op (Wide op code) u2_at u2 Fits2 2 u2_part (code ∷ []) bytes fits (λ n h. record { named = refl; spelled = refl; fits = (is, local, h) })
    (λ few. inr (inl (is, subst (λ (f : Option Form). length bytes < wide_width f) (sym local) few))) (u2_at bytes) refl
widened_is pc op code bytes small fits is (Some forms.Iinc) iinc =
    let c = iinc_is code small iinc in
    part_is pc op (λ (p : ℕ × ℤ). WideIinc op p.0 p.1) (pair_at u2_at s2_at) wide_spelled WideFits 4 wide_part (code ∷ []) bytes fits
    (λ p h. record { named = refl; spelled = ap (λ (o : ℕ). o ∷ wide_spelled p) (sym c); fits = (is, h.0, h.1) })
    (λ few. inr (inl (is, subst (λ (f : Option Form). length bytes < wide_width f) (sym iinc) few))) (pair_at u2_at s2_at bytes) refl
widened_is pc op code bytes small fits is (Some forms.Plain) other = inr (is, (refl, ap widens other))
widened_is pc op code bytes small fits is (Some forms.Byte) other = inr (is, (refl, ap widens other))
widened_is pc op code bytes small fits is (Some forms.Short) other = inr (is, (refl, ap widens other))
widened_is pc op code bytes small fits is (Some forms.NearConstant) other = inr (is, (refl, ap widens other))
widened_is pc op code bytes small fits is (Some forms.Constant) other = inr (is, (refl, ap widens other))
widened_is pc op code bytes small fits is (Some forms.Branch) other = inr (is, (refl, ap widens other))
widened_is pc op code bytes small fits is (Some forms.FarBranch) other = inr (is, (refl, ap widens other))
widened_is pc op code bytes small fits is (Some forms.Member) other = inr (is, (refl, ap widens other))
widened_is pc op code bytes small fits is (Some forms.Interface) other = inr (is, (refl, ap widens other))
widened_is pc op code bytes small fits is (Some forms.Dynamic) other = inr (is, (refl, ap widens other))
widened_is pc op code bytes small fits is (Some forms.ClassOf) other = inr (is, (refl, ap widens other))
widened_is pc op code bytes small fits is (Some forms.NewArray) other = inr (is, (refl, ap widens other))
widened_is pc op code bytes small fits is (Some forms.MultiArray) other = inr (is, (refl, ap widens other))
widened_is pc op code bytes small fits is (Some forms.TableSwitch) other = inr (is, (refl, ap widens other))
widened_is pc op code bytes small fits is (Some forms.LookupSwitch) other = inr (is, (refl, ap widens other))
widened_is pc op code bytes small fits is (Some forms.Wide) other = inr (is, (refl, ap widens other))
widened_is pc op code bytes small fits is None other = inr (is, (refl, ap widens other))

wide_is : (pc op : ℕ) (bytes : List ℕ) → IsBytes bytes → form_of op ≡ Some forms.Wide → Causes pc (op ∷ bytes) (wide_at op bytes)
unfolding wide_at
wide_is pc op [] fits is = let few : 0 < 1 = omega arith in inl (forms.Wide, is, few)
wide_is pc op (code ∷ bytes) fits is = widened_is pc op code bytes fits.0 fits.1 is (form_of code) refl

-- ---- tableswitch

list_is : (pc op : ℕ) (bytes : List ℕ) → form_of op ≡ Some forms.TableSwitch → (t : TableFront pc bytes) → IsBytes t.rest → int_lt t.high t.low ≡ false
    → (r : Read (List ℕ)) → bytes_at (4 * span t.low t.high) t.rest ≡ r → Causes pc (op ∷ bytes) (then_at r (λ x rest. Ok (TableSwitch op t.other t.low t.high x, rest)))
list_is pc op bytes is t fits order (Some y) e =
    let n = 4 * span t.low t.high in
    let k = (bytes_part n).codec.takes t.rest y.0 y.1 fits e in
    let regrouped : t.pad ++ (s4 t.other ++ (s4 t.low ++ (s4 t.high ++ (y.0 ++ y.1)))) ≡ (t.pad ++ (s4 t.other ++ (s4 t.low ++ (s4 t.high ++ y.0)))) ++ y.1 = sym (append_assoc t.pad (s4 t.other ++ (s4 t.low ++ (s4 t.high ++ y.0))) y.1) in
    let parts : bytes ≡ (t.pad ++ (s4 t.other ++ (s4 t.low ++ (s4 t.high ++ y.0)))) ++ y.1 = t.parts ∙ ap (λ (r : List ℕ). t.pad ++ (s4 t.other ++ (s4 t.low ++ (s4 t.high ++ r)))) k.parts ∙ regrouped in
    record { pad = t.pad; aligned = t.aligned; parts = ap (λ (b : List ℕ). op ∷ b) parts; fits = (is, t.fits.0, t.fits.1, t.fits.2, order, k.fits.0, k.fits.1) }
list_is pc op bytes is t fits order None e =
    let n = 4 * span t.low t.high in
    inr (inr (inl (is, t, order, none_is_few n t.rest (bytes_at n t.rest) ((bytes_part n).size t.rest) e)))

order_is : (pc op : ℕ) (bytes : List ℕ) → form_of op ≡ Some forms.TableSwitch → (t : TableFront pc bytes) → IsBytes t.rest → (b : Bool) → int_lt t.high t.low ≡ b
    → Causes pc (op ∷ bytes) (cond b (Err BadOperand) (of_part (TableSwitch op t.other t.low t.high) (bytes_at (4 * span t.low t.high)) t.rest))
order_is pc op bytes is t fits true e = inl (is, t, e)
order_is pc op bytes is t fits false e = list_is pc op bytes is t fits e (bytes_at (4 * span t.low t.high) t.rest) refl

range_is : (pc op : ℕ) (bytes pad rest : List ℕ) → form_of op ≡ Some forms.TableSwitch → Took (λ b. b) (λ b. (length b ≡ padding pc) × IsBytes b) bytes pad rest → length bytes ≡ padding pc + length rest
    → (r : Read (ℤ × (ℤ × ℤ))) → range_at rest ≡ r → Causes pc (op ∷ bytes) (then_at r (λ x more. distances_at op x.0 x.1.0 x.1.1 more))
unfolding distances_at
range_is pc op bytes pad rest is k size (Some y) e =
    let x = y.0 in
    let m = range_part.codec.takes rest x y.1 k.rest_bytes e in
    let parts : bytes ≡ pad ++ (s4 x.0 ++ (s4 x.1.0 ++ (s4 x.1.1 ++ y.1))) = k.parts ∙ ap (λ (b : List ℕ). pad ++ b) m.parts in
    let t : TableFront pc bytes = record { pad = pad; other = x.0; low = x.1.0; high = x.1.1; rest = y.1; aligned = k.fits; fits = (m.fits.0, m.fits.1.0, m.fits.1.1); parts = parts } in
    order_is pc op bytes is t m.rest_bytes (int_lt x.1.1 x.1.0) refl
range_is pc op bytes pad rest is k size None e =
    let few : length rest < 12 = none_is_few 12 rest (range_at rest) (range_part.size rest) e in
    let all : length bytes < padding pc + 12 = omega (arith, few, size) in
    inl (forms.TableSwitch, is, all)

table_pad : (pc op : ℕ) (bytes : List ℕ) → IsBytes bytes → form_of op ≡ Some forms.TableSwitch
    → (r : Read (List ℕ)) → bytes_at (padding pc) bytes ≡ r → Causes pc (op ∷ bytes) (then_at r (λ pad rest. then_at (range_at rest) (λ x more. distances_at op x.0 x.1.0 x.1.1 more)))
table_pad pc op bytes fits is (Some y) e =
    let p = bytes_part (padding pc) in
    range_is pc op bytes y.0 y.1 is (p.codec.takes bytes y.0 y.1 fits e) (behind_size (padding pc) bytes (bytes_at (padding pc) bytes) y.0 y.1 (p.size bytes) e) (range_at y.1) refl
table_pad pc op bytes fits is None e =
    let few : length bytes < padding pc = none_is_few (padding pc) bytes (bytes_at (padding pc) bytes) ((bytes_part (padding pc)).size bytes) e in
    let all : length bytes < padding pc + 12 = omega (arith, few) in
    inl (forms.TableSwitch, is, all)

table_is : (pc op : ℕ) (bytes : List ℕ) → IsBytes bytes → form_of op ≡ Some forms.TableSwitch → Causes pc (op ∷ bytes) (table_switch_at op pc bytes)
unfolding table_switch_at
table_is pc op bytes fits is = table_pad pc op bytes fits is (bytes_at (padding pc) bytes) refl

-- ---- lookupswitch

keys_are : (pc op : ℕ) (bytes : List ℕ) → form_of op ≡ Some forms.LookupSwitch → (p : PairsFront pc bytes) → p.count < 2147483648 → (pairs more : List ℕ) → Took (λ b. b) (λ b. (length b ≡ 8 * p.count) × IsBytes b) p.rest pairs more
    → (b : Bool) → ascend (keys pairs) ≡ b → Causes pc (op ∷ bytes) (cond b (Ok (LookupSwitch op p.other pairs, more)) (Err BadOperand))
keys_are pc op bytes is p few pairs more k true e =
    let len : length pairs ≡ 8 * p.count = k.fits.0 in
    let short : length pairs < 8 * 2 ^ 31 = omega arith in
    let whole : length pairs % 8 ≡ 0 = omega arith in
    let counted : length pairs / 8 % 4294967296 ≡ p.count = omega arith in
    let regrouped : p.pad ++ (s4 p.other ++ (u4 (length pairs / 8 % 4294967296) ++ (pairs ++ more))) ≡ (p.pad ++ (s4 p.other ++ (u4 (length pairs / 8 % 4294967296) ++ pairs))) ++ more = sym (append_assoc p.pad (s4 p.other ++ (u4 (length pairs / 8 % 4294967296) ++ pairs)) more) in
    let parts : bytes ≡ (p.pad ++ (s4 p.other ++ (u4 (length pairs / 8 % 4294967296) ++ pairs))) ++ more =
    p.parts ∙ ap (λ (n : ℕ). p.pad ++ (s4 p.other ++ (u4 n ++ p.rest))) (sym counted) ∙ ap (λ (r : List ℕ). p.pad ++ (s4 p.other ++ (u4 (length pairs / 8 % 4294967296) ++ r))) k.parts ∙ regrouped in
    record { pad = p.pad; aligned = p.aligned; parts = ap (λ (b : List ℕ). op ∷ b) parts; fits = (is, p.fits.0, short, whole, e, k.fits.1) }
keys_are pc op bytes is p few pairs more k false e = inr (is, p, inr (pairs, more, k.parts, k.fits.0, e))

pairs_are : (pc op : ℕ) (bytes : List ℕ) → form_of op ≡ Some forms.LookupSwitch → (p : PairsFront pc bytes) → IsBytes p.rest → p.count < 2147483648
    → (r : Read (List ℕ)) → bytes_at (8 * p.count) p.rest ≡ r → Causes pc (op ∷ bytes) (then_at r (λ pairs rest. if_ascending (LookupSwitch op p.other pairs) pairs rest))
pairs_are pc op bytes is p fits few (Some y) e =
    keys_are pc op bytes is p few y.0 y.1 ((bytes_part (8 * p.count)).codec.takes p.rest y.0 y.1 fits e) (ascend (keys y.0)) refl
pairs_are pc op bytes is p fits few None e =
    let n = 8 * p.count in
    inr (inr (inr (is, p, few, none_is_few n p.rest (bytes_at n p.rest) ((bytes_part n).size p.rest) e)))

sign_is : (pc op : ℕ) (bytes : List ℕ) → form_of op ≡ Some forms.LookupSwitch → (p : PairsFront pc bytes) → IsBytes p.rest → (b : Bool) → nat_le 2147483648 p.count ≡ b
    → Causes pc (op ∷ bytes) (cond b (Err BadOperand) (then_at (bytes_at (8 * p.count) p.rest) (λ pairs rest. if_ascending (LookupSwitch op p.other pairs) pairs rest)))
sign_is pc op bytes is p fits true e = inr (is, p, inl (leb-true _ _ e))
sign_is pc op bytes is p fits false e = pairs_are pc op bytes is p fits (leb-false _ _ e) (bytes_at (8 * p.count) p.rest) refl

count_is : (pc op : ℕ) (bytes pad rest : List ℕ) → form_of op ≡ Some forms.LookupSwitch → Took (λ b. b) (λ b. (length b ≡ padding pc) × IsBytes b) bytes pad rest → length bytes ≡ padding pc + length rest
    → (r : Read (ℤ × ℕ)) → count_at rest ≡ r → Causes pc (op ∷ bytes) (then_at r (λ x more. pairs_at op x.0 x.1 more))
unfolding pairs_at
count_is pc op bytes pad rest is k size (Some y) e =
    let x = y.0 in
    let m = count_part.codec.takes rest x y.1 k.rest_bytes e in
    let parts : bytes ≡ pad ++ (s4 x.0 ++ (u4 x.1 ++ y.1)) = k.parts ∙ ap (λ (b : List ℕ). pad ++ b) m.parts in
    let p : PairsFront pc bytes = record { pad = pad; other = x.0; count = x.1; rest = y.1; aligned = k.fits; fits = (m.fits.0, m.fits.1); parts = parts } in
    sign_is pc op bytes is p m.rest_bytes (nat_le 2147483648 x.1) refl
count_is pc op bytes pad rest is k size None e =
    let few : length rest < 8 = none_is_few 8 rest (count_at rest) (count_part.size rest) e in
    let all : length bytes < padding pc + 8 = omega (arith, few, size) in
    inl (forms.LookupSwitch, is, all)

lookup_pad : (pc op : ℕ) (bytes : List ℕ) → IsBytes bytes → form_of op ≡ Some forms.LookupSwitch
    → (r : Read (List ℕ)) → bytes_at (padding pc) bytes ≡ r → Causes pc (op ∷ bytes) (then_at r (λ pad rest. then_at (count_at rest) (λ x more. pairs_at op x.0 x.1 more)))
lookup_pad pc op bytes fits is (Some y) e =
    let p = bytes_part (padding pc) in
    count_is pc op bytes y.0 y.1 is (p.codec.takes bytes y.0 y.1 fits e) (behind_size (padding pc) bytes (bytes_at (padding pc) bytes) y.0 y.1 (p.size bytes) e) (count_at y.1) refl
lookup_pad pc op bytes fits is None e =
    let few : length bytes < padding pc = none_is_few (padding pc) bytes (bytes_at (padding pc) bytes) ((bytes_part (padding pc)).size bytes) e in
    let all : length bytes < padding pc + 8 = omega (arith, few) in
    inl (forms.LookupSwitch, is, all)

lookup_is : (pc op : ℕ) (bytes : List ℕ) → IsBytes bytes → form_of op ≡ Some forms.LookupSwitch → Causes pc (op ∷ bytes) (lookup_switch_at op pc bytes)
unfolding lookup_switch_at
lookup_is pc op bytes fits is = lookup_pad pc op bytes fits is (bytes_at (padding pc) bytes) refl

-- ---- each form

each : (pc op : ℕ) (bytes : List ℕ) → IsBytes bytes → (form : Form) → form_of op ≡ Some form → Causes pc (op ∷ bytes) (operands_at pc op form bytes)
unfolding operands_at
each pc op bytes fits forms.Plain is = record { pad = zeros pc; aligned = zeros_pad pc; parts = refl; fits = is }
each pc op bytes fits forms.Byte is = form_is pc op forms.Byte is (Byte op) s1_at s1 (FitsSigned w8) s1_part bytes fits (λ v h. record { named = refl; spelled = refl; fits = (is, h) })
each pc op bytes fits forms.Short is = form_is pc op forms.Short is (Short op) s2_at s2 (FitsSigned w16) s2_part bytes fits (λ v h. record { named = refl; spelled = refl; fits = (is, h) })
each pc op bytes fits forms.NearConstant is = form_is pc op forms.NearConstant is (Constant op) u1_at u1 Fits1 u1_part bytes fits (λ n h. record { named = refl; spelled = near_text op n is h; fits = inl (is, h) })
each pc op bytes fits forms.Constant is = form_is pc op forms.Constant is (Constant op) u2_at u2 Fits2 u2_part bytes fits (λ n h. record { named = refl; spelled = far_index op n is; fits = inr (is, h) })
each pc op bytes fits forms.Local is = form_is pc op forms.Local is (Local op) u1_at u1 Fits1 u1_part bytes fits (λ n h. record { named = refl; spelled = ap u1 (low_byte n h); fits = (is, h) })
each pc op bytes fits forms.Iinc is = form_is pc op forms.Iinc is (λ (p : ℕ × ℤ). Iinc op p.0 p.1) iinc_at iinc_spelled IincFits iinc_part bytes fits (λ p h. record { named = refl; spelled = iinc_text p.0 p.1 h.0 h.1; fits = (is, h.0, h.1) })
each pc op bytes fits forms.Branch is = form_is pc op forms.Branch is (Branch op) s2_at s2 (FitsSigned w16) s2_part bytes fits (λ d h. record { named = refl; spelled = near_distance op d is h; fits = inl (is, h) })
each pc op bytes fits forms.FarBranch is = form_is pc op forms.FarBranch is (Branch op) s4_at s4 (FitsSigned w32) s4_part bytes fits (λ d h. record { named = refl; spelled = far_distance op d is; fits = inr (is, h) })
each pc op bytes fits forms.Member is = form_is pc op forms.Member is (Member op) u2_at u2 Fits2 u2_part bytes fits (λ n h. record { named = refl; spelled = refl; fits = (is, h) })
each pc op bytes fits forms.Interface is = form_is pc op forms.Interface is (λ (p : ℕ × (ℕ × ℕ)). Interface op p.0 p.1.0 p.1.1) call_at call_spelled CallFits call_part bytes fits (λ p h. record { named = refl; spelled = refl; fits = (is, h.0, h.1.0, h.1.1) })
each pc op bytes fits forms.Dynamic is = form_is pc op forms.Dynamic is (λ (p : ℕ × (ℕ × ℕ)). Dynamic op p.0 p.1.0 p.1.1) call_at call_spelled CallFits call_part bytes fits (λ p h. record { named = refl; spelled = refl; fits = (is, h.0, h.1.0, h.1.1) })
each pc op bytes fits forms.ClassOf is = form_is pc op forms.ClassOf is (ClassOf op) u2_at u2 Fits2 u2_part bytes fits (λ n h. record { named = refl; spelled = refl; fits = (is, h) })
each pc op bytes fits forms.NewArray is = form_is pc op forms.NewArray is (NewArray op) u1_at u1 Fits1 u1_part bytes fits (λ n h. record { named = refl; spelled = refl; fits = (is, h) })
each pc op bytes fits forms.MultiArray is = form_is pc op forms.MultiArray is (λ (p : ℕ × ℕ). MultiArray op p.0 p.1) dimensions_at dimensions_spelled DimensionsFit dimensions_part bytes fits (λ p h. record { named = refl; spelled = refl; fits = (is, h.0, h.1) })
each pc op bytes fits forms.TableSwitch is = table_is pc op bytes fits is
each pc op bytes fits forms.LookupSwitch is = lookup_is pc op bytes fits is
each pc op bytes fits forms.Wide is = wide_is pc op bytes fits is

opcode_is : (pc op : ℕ) (bytes : List ℕ) → IsBytes bytes → (form : Option Form) → form_of op ≡ form → Causes pc (op ∷ bytes) (behind pc op form bytes)
unfolding behind
opcode_is pc op bytes fits None is = inl (refl, is)
opcode_is pc op bytes fits (Some form) is = each pc op bytes fits form is

pub has_cause : (pc : ℕ) (bytes : List ℕ) → IsBytes bytes → Causes pc bytes (instruction_at pc bytes)
unfolding instruction_at
has_cause pc [] fits = tt
has_cause pc (op ∷ bytes) fits = opcode_is pc op bytes fits.1 (form_of op) refl
