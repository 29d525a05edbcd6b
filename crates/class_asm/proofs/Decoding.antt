-- What a line adds to a code decodes to the line's instruction.
use Rattle.std.proofs.Common.{◌≡◌, ℕ, ℤ, pos, ◌+◌, ◌-◌, ◌*◌, ◌%◌, ◌^◌, ◌<◌, Bool, true, false, cond, List, [], ◌∷◌, ◌++◌, length, drop, Option, Some, None, Ok, ◌⊎◌, inl, inr, refl, sym, ap, subst, ◌∙◌, append_assoc, arith}
use Rattle.std.specs.Prelude.{⊤, FitsSigned, nat_lt, ◌+ℤ◌, ◌-ℤ◌, neg_ℤ, int_lt, int_le, ◌&&◌}
use Rattle.std.specs.Int.{w8, w16, w32}
use Rattle.std.specs.List.{AllByRecursion}
use Rattle.std.specs.Option.{option_map}
use Rattle.std.proofs.lemmas.Bool.{ltb-true, ltb-false}
use Rattle.std.proofs.lemmas.Int.{ints}
use Rattle.std.proofs.lemmas.List.{length-append, drop_at}
use Rattle.jsa_base.specs.Reading.{IsBytes}
use Rattle.jsa_base.proofs.Codecs.{append-IsBytes}
use Rattle.jsa_base.specs.Spelling.{s4}
use Rattle.class_tree.specs.declared.constant_pool.PoolEntry.{PoolEntry}
use Rattle.jsa_ops.specs.declared.form.Form.{Form}
use Rattle.jsa_ops.specs.declared.form.Form.TheVariants as forms
use Rattle.jsa_ops.specs.Opcodes.{form_of}
use Rattle.jsa_ops.specs.Instruction.{Instruction, Plain, Byte, Short, Constant, Local, Iinc, Wide, WideIinc, Branch, Member, Interface, ClassOf, NewArray, MultiArray, TableSwitch, LookupSwitch}
use Rattle.jsa_ops.specs.Spelling.{Fits, text_of, span}
use Rattle.jsa_ops.specs.Reading.{instruction_at, placed, decoded}
use Rattle.jsa_ops.proofs.Forms.{zeros, zeros_pad}
use Rattle.jsa_ops.proofs.Parts.{s4_part}
use Rattle.jsa_ops.proofs.Back.{again}
use Rattle.asm_text.specs.declared.statement.MemberKind.TheVariants as kinds
use Rattle.asm_text.specs.declared.statement.SwitchCase.{SwitchCase}
use Rattle.asm_text.specs.declared.statement.Operation.{Operation}
use Rattle.asm_text.specs.declared.statement.Operation.TheVariants as operation
use Rattle.pool_builder.specs.Needs.{class_needed}
use Rattle.class_asm.specs.Keys.{has_ascending_keys}
use Rattle.class_asm.specs.Needs.{member_needed, constant_needed}
use Rattle.class_asm.specs.declared.code_draft.CodeDraft.{CodeDraft}
use Rattle.class_asm.specs.Labels.{Label, place_of, is_near, is_near_form, is_far_form, fits_byte, size}
use Rattle.class_asm.specs.Code.{resolved, is_reached, distance_to, reach, far_to, distances_to, pairs_to, high_of, table_of, lookup_of, local_of, iinc_of, of_index, alone}
use Rattle.class_asm.specs.Laws.{LinesDecode}
use Rattle.class_asm.proofs.Keeping.{AllIn, bind_all, some_all}
use Rattle.class_asm.proofs.Formed.{map_all, any, choice_all, parts, KeyFits, Formed, formed}
use Rattle.class_asm.proofs.Indices.{Small, class_small, member_small, constant_small}
use Rattle.class_asm.proofs.Sizes.{distances_size, pairs_size}
use Rattle.class_asm.proofs.Standing.{adds}

-- ---- small steps

short : (n k : ℕ) → n ≡ 8 * k → k < 65536 → n < 8 * 2 ^ 31
short n k e few = omega (arith, e, few)

eighths : (n k : ℕ) → n ≡ 8 * k → n % 8 ≡ 0
eighths n k e = omega (arith, e)

few_cases : (n pad : ℕ) → 9 + pad + 8 * n < 65536 → n < 65536
few_cases n pad h = omega (arith, h)

-- ---- distances

reached_16 : (d : ℤ) → is_reached 0x8000 d ≡ true → FitsSigned w16 d
reached_16 d h = let p = parts (int_le (neg_ℤ (pos 0x8000)) d) (int_lt d (pos 0x8000)) h in omega (arith, ints, p.0, p.1)

reached_32 : (d : ℤ) → is_reached 0x8000_0000 d ≡ true → FitsSigned w32 d
reached_32 d h = let p = parts (int_le (neg_ℤ (pos 0x8000_0000)) d) (int_lt d (pos 0x8000_0000)) h in omega (arith, ints, p.0, p.1)

distance_reached : (half : ℕ) (labels : List Label) (from : ℕ) (name : List ℕ) → AllIn (distance_to half labels from name) (λ d. is_reached half d ≡ true)
unfolding distance_to
distance_reached half labels from name =
    bind_all (place_of labels name) _ (λ to. ⊤) (λ d. is_reached half d ≡ true) (any _)
    (λ to t. choice_all (is_reached half (pos to -ℤ pos from)) (Some (pos to -ℤ pos from)) (λ d. is_reached half d ≡ true) (λ h. some_all (pos to -ℤ pos from) (λ d. is_reached half d ≡ true) h))

far_fits : (labels : List Label) (from : ℕ) (name : List ℕ) → AllIn (far_to labels from name) (FitsSigned w32)
far_fits labels from name d e = reached_32 d (distance_reached 0x8000_0000 labels from name d e)

s4_bytes : (z : ℤ) → FitsSigned w32 z → IsBytes (s4 z)
s4_bytes z fits = s4_part.codec.bytes z fits

-- ---- branches

branch_fits : (op : ℕ) (labels : List Label) (place : ℕ) (label : List ℕ) → (form_of op ≡ Some forms.Branch) ⊎ (form_of op ≡ Some forms.FarBranch) → AllIn (distance_to (reach op) labels place label) (λ d. Fits (Branch op d))
branch_fits op labels place label (inl is) d e =
    let near : reach op ≡ 0x8000 = ap (λ (f : Option Form). cond (is_far_form f) 0x8000_0000 0x8000) is in
    inl (is, reached_16 d (distance_reached 0x8000 labels place label d (subst (λ (n : ℕ). distance_to n labels place label ≡ Some d) near e)))
branch_fits op labels place label (inr is) d e =
    let far : reach op ≡ 0x8000_0000 = ap (λ (f : Option Form). cond (is_far_form f) 0x8000_0000 0x8000) is in
    inr (is, reached_32 d (distance_reached 0x8000_0000 labels place label d (subst (λ (n : ℕ). distance_to n labels place label ≡ Some d) far e)))

-- ---- switches

distances_bytes : (labels : List Label) (from : ℕ) (names : List (List ℕ)) → AllIn (distances_to labels from names) IsBytes
unfolding distances_to
distances_bytes labels from [] = some_all [] IsBytes tt
distances_bytes labels from (name ∷ names) =
    bind_all (far_to labels from name) _ (FitsSigned w32) IsBytes (far_fits labels from name)
    (λ first h. bind_all (distances_to labels from names) _ IsBytes IsBytes (distances_bytes labels from names)
    (λ others b. some_all (s4 first ++ others) IsBytes (append-IsBytes (s4 first) others (s4_bytes first h) b)))

pairs_bytes : (labels : List Label) (from : ℕ) (cases : List SwitchCase) → AllByRecursion KeyFits cases → AllIn (pairs_to labels from cases) IsBytes
unfolding pairs_to
pairs_bytes labels from [] fits = some_all [] IsBytes tt
pairs_bytes labels from (c ∷ cases) fits =
    bind_all (far_to labels from c.label) _ (FitsSigned w32) IsBytes (far_fits labels from c.label)
    (λ first h. bind_all (pairs_to labels from cases) _ IsBytes IsBytes (pairs_bytes labels from cases fits.1)
    (λ others b. some_all ((s4 c.key ++ s4 first) ++ others) IsBytes (append-IsBytes (s4 c.key ++ s4 first) others (append-IsBytes (s4 c.key) (s4 first) (s4_bytes c.key fits.0) (s4_bytes first h)) b)))

-- the highest key of so many
record Highest (low : ℤ) (n : ℕ) (high : ℤ) : Type 0 where
  pub fits : FitsSigned w32 high
  pub above : int_lt high low ≡ false
  pub many : span low high ≡ n

not_lower : (low : ℤ) (k : ℕ) (b : Bool) → int_lt (low +ℤ pos k) low ≡ b → b ≡ false
not_lower low k true e = absurd (omega (arith, ints, e))
not_lower low k false e = refl

highest : (low : ℤ) (n : ℕ) → FitsSigned w32 low → 0 < n → AllIn (high_of low n) (Highest low n)
highest low n fits some_of =
    choice_all (int_lt (low +ℤ pos (n - 1)) (pos 0x8000_0000)) (Some (low +ℤ pos (n - 1))) (Highest low n)
    (λ h. some_all (low +ℤ pos (n - 1)) (Highest low n) (record {
      fits = omega (arith, ints, fits, h);
      above = not_lower low (n - 1) (int_lt (low +ℤ pos (n - 1)) low) refl;
      many = omega (arith, ints, some_of);
    }))

table_fits : (labels : List Label) (place op : ℕ) (low : ℤ) (other : List ℕ) (targets : List (List ℕ)) → Formed (operation.TableSwitch op low other targets) → AllIn (table_of labels place op low other targets) Fits
table_fits labels place op low other targets f =
    bind_all (high_of low (length targets)) _ (Highest low (length targets)) Fits (highest low (length targets) f.1 f.2)
    (λ high h. bind_all (far_to labels place other) _ (FitsSigned w32) Fits (far_fits labels place other)
    (λ d g. bind_all (distances_to labels place targets) _ (λ text. (length text ≡ 4 * length targets) × IsBytes text) Fits (λ text e. (distances_size labels place targets text e, distances_bytes labels place targets text e))
    (λ text t. some_all (TableSwitch op d low high text) Fits (f.0, g, f.1, h.fits, h.above, t.0 ∙ ap (λ (n : ℕ). 4 * n) (sym h.many), t.1))))

-- It fits where its keys ascend.
abbrev FitsInOrder : Instruction → Type 0
FitsInOrder i = has_ascending_keys i ≡ true → Fits i

lookup_fits : (labels : List Label) (place op : ℕ) (other : List ℕ) (cases : List SwitchCase) → Formed (operation.LookupSwitch op other cases) → length cases < 65536 → AllIn (lookup_of labels place op other cases) FitsInOrder
lookup_fits labels place op other cases f few =
    bind_all (far_to labels place other) _ (FitsSigned w32) FitsInOrder (far_fits labels place other)
    (λ d g. bind_all (pairs_to labels place cases) _ (λ text. (length text ≡ 8 * length cases) × IsBytes text) FitsInOrder (λ text e. (pairs_size labels place cases text e, pairs_bytes labels place cases f.1 text e))
    (λ text t. some_all (LookupSwitch op d text) FitsInOrder (λ ordered. (f.0, g, short (length text) (length cases) t.0 few, eighths (length text) (length cases) t.0, ordered, t.1))))

-- ---- all operations

alone_fits : (pool : List PoolEntry) (made : Option Instruction) (P : Instruction → Type 0) → AllIn made P → AllIn (alone pool made) (λ x. P x.0)
alone_fits pool made P fits = map_all (λ i. (i, pool)) made P (λ x. P x.0) fits (λ i h. h)

of_index_fits : (make : ℕ → Instruction) (need : Option (ℕ × List PoolEntry)) → AllIn need Small → ((i : ℕ) → i < 65536 → Fits (make i)) → AllIn (of_index make need) (λ x. Fits x.0)
of_index_fits make need small each = bind_all need (λ i. Some (make i.0, i.1)) Small (λ x. Fits x.0) small (λ i s. some_all (make i.0, i.1) (λ x. Fits x.0) (each i.0 s.0))

abbrev one : Instruction → List PoolEntry → Instruction × List PoolEntry
one i pool = (i, pool)

-- An index behind ldc has one byte.
load_fits : (op : ℕ) (x : ℕ × List PoolEntry) → (form_of op ≡ Some forms.NearConstant) ⊎ (form_of op ≡ Some forms.Constant) → x.0 < 65536 → (passes : Bool) → (is_near op && nat_lt 255 x.0) ≡ passes → AllIn (cond passes None (Some (one (Constant op x.0) x.1))) (λ y. Fits y.0)
load_fits op x f few true e = λ y h. absurd cc
load_fits op x (inl is) few false e =
    let near : is_near op ≡ true = ap is_near_form is in
    let fits : nat_lt 255 x.0 ≡ false = sym (ap (λ (b : Bool). b && nat_lt 255 x.0) near) ∙ e in
    some_all (one (Constant op x.0) x.1) (λ y. Fits y.0) (inl (is, let k = ltb-false 255 x.0 fits in omega (arith, k)))
load_fits op x (inr is) few false e = some_all (one (Constant op x.0) x.1) (λ y. Fits y.0) (inr (is, few))

wide_is : form_of 0xc4 ≡ Some forms.Wide
unfolding form_of
wide_is = refl

local_fits : (op n : ℕ) → form_of op ≡ Some forms.Local → n < 65536 → (near : Bool) → nat_lt n 256 ≡ near → Fits (cond near (Local op n) (Wide 0xc4 op n))
local_fits op n is few true e = (is, ltb-true n 256 e)
local_fits op n is few false e = (wide_is, is, few)

byte_fits : (z : ℤ) → fits_byte z ≡ true → FitsSigned w8 z
byte_fits z h = let p = parts (int_le (neg_ℤ (pos 0x80)) z) (int_lt z (pos 0x80)) h in omega (arith, ints, p.0, p.1)

iinc_fits : (op n : ℕ) (by : ℤ) → form_of op ≡ Some forms.Iinc → n < 65536 → FitsSigned w16 by → (near : Bool) → (nat_lt n 256 && fits_byte by) ≡ near → Fits (cond near (Iinc op n by) (WideIinc 0xc4 n by))
iinc_fits op n by is few fits true e = let p = parts (nat_lt n 256) (fits_byte by) e in (is, ltb-true n 256 p.0, byte_fits by p.1)
iinc_fits op n by is few fits false e = (wide_is, few, fits)

-- What fits, fits where its keys ascend.
in_order : (o : Option (Instruction × List PoolEntry)) → AllIn o (λ x. Fits x.0) → AllIn o (λ x. FitsInOrder x.0)
in_order o fits x e ordered = fits x e

resolved_fits : (labels : List Label) (place : ℕ) (o : Operation) (pool : List PoolEntry) → Formed o → length pool < 65536 → size place o < 65536 → AllIn (resolved labels place o pool) (λ x. FitsInOrder x.0)
unfolding resolved size
resolved_fits labels place (operation.Plain op) pool f few bound =
    in_order _ (some_all (one (Plain op) pool) (λ x. Fits x.0) f)
resolved_fits labels place (operation.Byte op n) pool f few bound =
    in_order _ (some_all (one (Byte op n) pool) (λ x. Fits x.0) f)
resolved_fits labels place (operation.Short op n) pool f few bound =
    in_order _ (some_all (one (Short op n) pool) (λ x. Fits x.0) f)
resolved_fits labels place (operation.Load op k) pool f few bound =
    in_order _ (bind_all (constant_needed k pool) _ Small (λ x. Fits x.0) (constant_small k pool few) (λ x s. load_fits op x f s.0 (is_near op && nat_lt 255 x.0) refl))
resolved_fits labels place (operation.Local op n) pool f few bound =
    in_order _ (some_all (one (local_of op n) pool) (λ x. Fits x.0) (local_fits op n f.0 f.1 (nat_lt n 256) refl))
resolved_fits labels place (operation.Iinc op n by) pool f few bound =
    in_order _ (some_all (one (iinc_of op n by) pool) (λ x. Fits x.0) (iinc_fits op n by f.0 f.1 f.2 (nat_lt n 256 && fits_byte by) refl))
resolved_fits labels place (operation.Branch op label) pool f few bound =
    in_order _ (alone_fits pool (option_map (Branch op) (distance_to (reach op) labels place label)) Fits (map_all (Branch op) (distance_to (reach op) labels place label) (λ d. Fits (Branch op d)) Fits (branch_fits op labels place label f) (λ d h. h)))
resolved_fits labels place (operation.Member op kind m) pool f few bound =
    in_order _ (of_index_fits (Member op) (member_needed kind m pool) (member_small kind m pool few) (λ i h. (f, h)))
resolved_fits labels place (operation.Interface op m slots) pool f few bound =
    in_order _ (of_index_fits (λ i. Interface op i slots 0) (member_needed kinds.InterfaceMethod m pool) (member_small kinds.InterfaceMethod m pool few) (λ i h. (f.0, h, f.1, omega arith)))
resolved_fits labels place (operation.ClassOf op name) pool f few bound =
    in_order _ (of_index_fits (ClassOf op) (class_needed name pool) (class_small name pool few) (λ i h. (f, h)))
resolved_fits labels place (operation.NewArray op code) pool f few bound =
    in_order _ (some_all (one (NewArray op code) pool) (λ x. Fits x.0) f)
resolved_fits labels place (operation.MultiArray op name dimensions) pool f few bound =
    in_order _ (of_index_fits (λ i. MultiArray op i dimensions) (class_needed name pool) (class_small name pool few) (λ i h. (f.0, h, f.1)))
resolved_fits labels place (operation.TableSwitch op low other targets) pool f few bound =
    in_order _ (alone_fits pool (table_of labels place op low other targets) Fits (table_fits labels place op low other targets f))
resolved_fits labels place (operation.LookupSwitch op other cases) pool f few bound =
    alone_fits pool (lookup_of labels place op other cases) FitsInOrder (lookup_fits labels place op other cases f (few_cases (length cases) _ bound))

-- ---- what fits is read again

read_again : (pc : ℕ) (i : Instruction) (old behind : List ℕ) → length old ≡ pc → Fits i → decoded ((old ++ text_of pc i) ++ behind) pc ≡ Ok (i, length (old ++ text_of pc i))
read_again pc i old behind at fits =
    let text = text_of pc i in
    let whole = (old ++ text) ++ behind in
    let here : drop pc whole ≡ text ++ behind = ap (drop pc) (append_assoc old text behind) ∙ drop_at old (text ++ behind) pc at in
    let read : instruction_at pc (text ++ behind) ≡ Ok (i, behind) = again pc (zeros pc) i behind (zeros_pad pc) fits in
    let count : length whole - length behind ≡ length (old ++ text) = ap (λ (n : ℕ). n - length behind) (length-append (old ++ text) behind) ∙ omega arith in
    ap (λ (b : List ℕ). placed (length whole) (instruction_at pc b)) here ∙ ap (placed (length whole)) read ∙ ap (λ (n : ℕ). Ok (i, n)) count

pub lines_decode : LinesDecode
lines_decode word operands o code after line few e =
    let pc = length code.bytes in
    let a = adds o code after e in
    let text = text_of pc a.instruction in
    let bound : size pc o < 65536 = omega (arith, a.grows, a.few) in
    let fits = resolved_fits code.labels pc o code.method.class.pool (formed word operands o line) few bound (a.instruction, a.pool) a.means in
    let bytes : after.bytes ≡ code.bytes ++ text = ap (λ (c : CodeDraft). c.bytes) (sym a.is) in
    record {
      instruction = a.instruction;
      pool = a.pool;
      means = a.means;
      spelled = bytes;
      decodes = λ ordered behind. ap (λ (b : List ℕ). decoded (b ++ behind) pc) bytes ∙ read_again pc a.instruction code.bytes behind refl (fits ordered) ∙ ap (λ (b : List ℕ). Ok (a.instruction, length b)) (sym bytes);
    }
