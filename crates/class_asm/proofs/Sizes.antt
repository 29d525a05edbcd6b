-- How many bytes the instruction of an operation takes.
use Rattle.std.proofs.Common.{◌≡◌, ℕ, ℤ, suc, ◌+◌, ◌*◌, ◌/◌, ◌%◌, Bool, true, false, cond, Option, Some, None, List, [], ◌∷◌, ◌++◌, length, replicate, refl, ap, subst, arith, length-append}
use Rattle.std.specs.Prelude.{nat_lt, ◌&&◌}
use Rattle.std.specs.Option.{option_map}
use Rattle.std.proofs.lemmas.List.{length-replicate}
use Rattle.jsa_base.specs.Reading.{◌>>=◌}
use Rattle.jsa_base.specs.Spelling.{u4, s4}
use Rattle.jsa_base.proofs.Codecs.{bind_some, some_is}
use Rattle.class_tree.specs.declared.constant_pool.PoolEntry.{PoolEntry}
use Rattle.jsa_ops.specs.declared.form.Form.{Form}
use Rattle.jsa_ops.specs.declared.form.Form.TheVariants as forms
use Rattle.jsa_ops.specs.Opcodes.{form_of}
use Rattle.jsa_ops.specs.Instruction.{Instruction, Plain, Byte, Short, Constant, Local, Iinc, Wide, WideIinc, Branch, Member, Interface, ClassOf, NewArray, MultiArray, TableSwitch, LookupSwitch}
use Rattle.jsa_ops.specs.Spelling.{text_of, padding, index_text, distance_text}
use Rattle.asm_text.specs.declared.statement.MemberKind.TheVariants as kinds
use Rattle.asm_text.specs.declared.statement.SwitchCase.{SwitchCase}
use Rattle.asm_text.specs.declared.statement.Operation.TheVariants as operation
use Rattle.pool_builder.specs.Needs.{class_needed}
use Rattle.class_asm.specs.Needs.{constant_needed, member_needed}
use Rattle.class_asm.specs.Labels.{Label, is_near, is_near_form, is_far, is_far_form, fits_byte, size}
use Rattle.class_asm.specs.Code.{resolved, far_to, distance_to, reach, distances_to, pairs_to, high_of, table_of, lookup_of, local_of, iinc_of, of_index, alone}
use Rattle.class_asm.specs.Laws.{SizesStand}

abbrev some : {A : Type 0} → A → Option A
some x = Some x

abbrev Sized : ℕ → ℕ → Instruction → Type 0
Sized place n i = length (text_of place i) ≡ n

-- the size of the instruction that was made
at : (place n : ℕ) (made i : Instruction) (p q : List PoolEntry) → some {A = Instruction × List PoolEntry} (made, p) ≡ Some (i, q) → Sized place n made → Sized place n i
at place n made i p q e h = subst (λ (x : Instruction × List PoolEntry). Sized place n x.0) (some_is {A = Instruction × List PoolEntry} (made, p) (i, q) e) h

of_index_at : (place n : ℕ) (make : ℕ → Instruction) (need : Option (ℕ × List PoolEntry)) (i : Instruction) (after : List PoolEntry) → ((k : ℕ) → Sized place n (make k)) → of_index make need ≡ Some (i, after) → Sized place n i
of_index_at place n make None i after each e = absurd cc
of_index_at place n make (Some x) i after each e = at place n (make x.0) i x.1 after e (each x.0)

alone_at : (place n : ℕ) (pool : List PoolEntry) (made : Option Instruction) (i : Instruction) (after : List PoolEntry) → ((m : Instruction) → made ≡ Some m → Sized place n m) → alone pool made ≡ Some (i, after) → Sized place n i
alone_at place n pool None i after each e = absurd cc
alone_at place n pool (Some m) i after each e = at place n m i pool after e (each m refl)

-- ---- indices of one byte or two, distances of two or four

index_size : (form : Option Form) (k : ℕ) → length (index_text form k) ≡ cond (is_near_form form) 1 2
index_size None k = refl
index_size (Some form) k = elim form as (λ f. length (index_text (Some f) k) ≡ cond (is_near_form (Some f)) 1 2) [
  | forms.Plain ↦ refl
  | forms.Byte ↦ refl
  | forms.Short ↦ refl
  | forms.NearConstant ↦ refl
  | forms.Constant ↦ refl
  | forms.Local ↦ refl
  | forms.Iinc ↦ refl
  | forms.Branch ↦ refl
  | forms.FarBranch ↦ refl
  | forms.Member ↦ refl
  | forms.Interface ↦ refl
  | forms.Dynamic ↦ refl
  | forms.ClassOf ↦ refl
  | forms.NewArray ↦ refl
  | forms.MultiArray ↦ refl
  | forms.TableSwitch ↦ refl
  | forms.LookupSwitch ↦ refl
  | forms.Wide ↦ refl
]

distance_size : (form : Option Form) (d : ℤ) → length (distance_text form d) ≡ cond (is_far_form form) 4 2
distance_size None d = refl
distance_size (Some form) d = elim form as (λ f. length (distance_text (Some f) d) ≡ cond (is_far_form (Some f)) 4 2) [
  | forms.Plain ↦ refl
  | forms.Byte ↦ refl
  | forms.Short ↦ refl
  | forms.NearConstant ↦ refl
  | forms.Constant ↦ refl
  | forms.Local ↦ refl
  | forms.Iinc ↦ refl
  | forms.Branch ↦ refl
  | forms.FarBranch ↦ refl
  | forms.Member ↦ refl
  | forms.Interface ↦ refl
  | forms.Dynamic ↦ refl
  | forms.ClassOf ↦ refl
  | forms.NewArray ↦ refl
  | forms.MultiArray ↦ refl
  | forms.TableSwitch ↦ refl
  | forms.LookupSwitch ↦ refl
  | forms.Wide ↦ refl
]

one_more : (b : Bool) (m n k : ℕ) → k ≡ cond b m n → suc k ≡ cond b (suc m) (suc n)
one_more true m n k e = ap suc e
one_more false m n k e = ap suc e

constant_at : (place op : ℕ) (x : ℕ × List PoolEntry) (i : Instruction) (after : List PoolEntry) (passes : Bool) → cond passes None (some {A = Instruction × List PoolEntry} (Constant op x.0, x.1)) ≡ Some (i, after) → Sized place (cond (is_near op) 2 3) i
constant_at place op x i after true e = absurd cc
constant_at place op x i after false e = at place (cond (is_near op) 2 3) (Constant op x.0) i x.1 after e (one_more (is_near op) 1 2 _ (index_size (form_of op) x.0))

-- ---- wide

local_size : (place op n : ℕ) (near : Bool) → length (text_of place (cond near (Local op n) (Wide 0xc4 op n))) ≡ cond near 2 4
local_size place op n true = refl
local_size place op n false = refl

iinc_size : (place op n : ℕ) (by : ℤ) (near : Bool) → length (text_of place (cond near (Iinc op n by) (WideIinc 0xc4 n by))) ≡ cond near 3 6
iinc_size place op n by true = refl
iinc_size place op n by false = refl

-- ---- switches

pub distances_size : (labels : List Label) (from : ℕ) (names : List (List ℕ)) (text : List ℕ) → distances_to labels from names ≡ Some text → length text ≡ 4 * length names
unfolding distances_to
distances_size labels from [] text e = let none : List ℕ = [] in subst (λ (t : List ℕ). length t ≡ 0) (some_is none text e) refl
distances_size labels from (name ∷ names) text e =
    let a = bind_some (far_to labels from name) (λ first. distances_to labels from names >>= λ others. Some (s4 first ++ others)) text e in
    let b = bind_some (distances_to labels from names) (λ others. Some (s4 a.0 ++ others)) text a.2 in
    let more = distances_size labels from names b.0 b.1 in
    subst (λ (t : List ℕ). length t ≡ 4 * length (name ∷ names)) (some_is (s4 a.0 ++ b.0) text b.2) (omega (arith, more))

pub pairs_size : (labels : List Label) (from : ℕ) (cases : List SwitchCase) (text : List ℕ) → pairs_to labels from cases ≡ Some text → length text ≡ 8 * length cases
unfolding pairs_to
pairs_size labels from [] text e = let none : List ℕ = [] in subst (λ (t : List ℕ). length t ≡ 0) (some_is none text e) refl
pairs_size labels from (c ∷ cases) text e =
    let a = bind_some (far_to labels from c.label) (λ first. pairs_to labels from cases >>= λ others. Some ((s4 c.key ++ s4 first) ++ others)) text e in
    let b = bind_some (pairs_to labels from cases) (λ others. Some ((s4 c.key ++ s4 a.0) ++ others)) text a.2 in
    let more = pairs_size labels from cases b.0 b.1 in
    subst (λ (t : List ℕ). length t ≡ 8 * length (c ∷ cases)) (some_is ((s4 c.key ++ s4 a.0) ++ b.0) text b.2) (omega (arith, more))

padded : (pad : ℕ) (fixed : List ℕ) (items : List ℕ) (n : ℕ) → length items ≡ n → length (0 ∷ (replicate pad 0 ++ (fixed ++ items))) ≡ 1 + pad + length fixed + n
padded pad fixed items n e = rw (length-append, length-replicate, length-append) (omega (arith, e))

table_size : (labels : List Label) (place op : ℕ) (low : ℤ) (other : List ℕ) (targets : List (List ℕ)) (i : Instruction) → table_of labels place op low other targets ≡ Some i → Sized place (13 + padding place + 4 * length targets) i
table_size labels place op low other targets i e =
    let h = bind_some (high_of low (length targets)) (λ high. far_to labels place other >>= λ d. distances_to labels place targets >>= λ distances. Some (TableSwitch op d low high distances)) i e in
    let d = bind_some (far_to labels place other) (λ d. distances_to labels place targets >>= λ distances. Some (TableSwitch op d low h.0 distances)) i h.2 in
    let t = bind_some (distances_to labels place targets) (λ distances. Some (TableSwitch op d.0 low h.0 distances)) i d.2 in
    let n = padded (padding place) (s4 d.0 ++ (s4 low ++ s4 h.0)) t.0 (4 * length targets) (distances_size labels place targets t.0 t.1) in
    subst (λ (x : Instruction). Sized place (13 + padding place + 4 * length targets) x) (some_is (TableSwitch op d.0 low h.0 t.0) i t.2) (omega (arith, n))

lookup_size : (labels : List Label) (place op : ℕ) (other : List ℕ) (cases : List SwitchCase) (i : Instruction) → lookup_of labels place op other cases ≡ Some i → Sized place (9 + padding place + 8 * length cases) i
lookup_size labels place op other cases i e =
    let d = bind_some (far_to labels place other) (λ d. pairs_to labels place cases >>= λ pairs. Some (LookupSwitch op d pairs)) i e in
    let t = bind_some (pairs_to labels place cases) (λ pairs. Some (LookupSwitch op d.0 pairs)) i d.2 in
    let n = padded (padding place) (s4 d.0 ++ u4 (length t.0 / 8 % 4294967296)) t.0 (8 * length cases) (pairs_size labels place cases t.0 t.1) in
    subst (λ (x : Instruction). Sized place (9 + padding place + 8 * length cases) x) (some_is (LookupSwitch op d.0 t.0) i t.2) (omega (arith, n))

-- ---- all operations

pub sizes_stand : SizesStand
unfolding resolved size
sizes_stand labels place (operation.Plain op) pool after i e = at place 1 (Plain op) i pool after e refl
sizes_stand labels place (operation.Byte op n) pool after i e = at place 2 (Byte op n) i pool after e refl
sizes_stand labels place (operation.Short op n) pool after i e = at place 3 (Short op n) i pool after e refl
sizes_stand labels place (operation.Load op k) pool after i e =
    let x = bind_some (constant_needed k pool) (λ (x : ℕ × List PoolEntry). cond (is_near op && nat_lt 255 x.0) None (some {A = Instruction × List PoolEntry} (Constant op x.0, x.1))) (i, after) e in
    constant_at place op x.0 i after (is_near op && nat_lt 255 x.0.0) x.2
sizes_stand labels place (operation.Local op n) pool after i e = at place (cond (nat_lt n 256) 2 4) (local_of op n) i pool after e (local_size place op n (nat_lt n 256))
sizes_stand labels place (operation.Iinc op n by) pool after i e = at place (cond (nat_lt n 256 && fits_byte by) 3 6) (iinc_of op n by) i pool after e (iinc_size place op n by (nat_lt n 256 && fits_byte by))
sizes_stand labels place (operation.Branch op label) pool after i e = alone_at place (cond (is_far op) 5 3) pool (option_map (Branch op) (distance_to (reach op) labels place label)) i after (branch (distance_to (reach op) labels place label)) e where
  branch : (d : Option ℤ) (m : Instruction) → option_map (Branch op) d ≡ Some m → Sized place (cond (is_far op) 5 3) m
  branch None m e = absurd cc
  branch (Some d) m e = subst (λ (x : Instruction). Sized place (cond (is_far op) 5 3) x) (some_is (Branch op d) m e) (one_more (is_far op) 4 2 _ (distance_size (form_of op) d))
sizes_stand labels place (operation.Member op kind m) pool after i e = of_index_at place 3 (Member op) (member_needed kind m pool) i after (λ k. refl) e
sizes_stand labels place (operation.Interface op m slots) pool after i e = of_index_at place 5 (λ k. Interface op k slots 0) (member_needed kinds.InterfaceMethod m pool) i after (λ k. refl) e
sizes_stand labels place (operation.ClassOf op name) pool after i e = of_index_at place 3 (ClassOf op) (class_needed name pool) i after (λ k. refl) e
sizes_stand labels place (operation.NewArray op code) pool after i e = at place 2 (NewArray op code) i pool after e refl
sizes_stand labels place (operation.MultiArray op name dimensions) pool after i e = of_index_at place 4 (λ k. MultiArray op k dimensions) (class_needed name pool) i after (λ k. refl) e
sizes_stand labels place (operation.TableSwitch op low other targets) pool after i e =
    alone_at place (13 + padding place + 4 * length targets) pool (table_of labels place op low other targets) i after (table_size labels place op low other targets) e
sizes_stand labels place (operation.LookupSwitch op other cases) pool after i e =
    alone_at place (9 + padding place + 8 * length cases) pool (lookup_of labels place op other cases) i after (lookup_size labels place op other cases) e
