-- Which class a `new` names: what stands behind its opcode.
use Rattle.std.proofs.Common.{◌≡◌, ℕ, ℤ, ◌-◌, ◌*◌, ◌^◌, Bool, true, false, cond, List, length, Option, None, Some, refl, ap, ◌∙◌}
use Rattle.std.specs.Prelude.{Result, Ok, nat_le, int_lt, ◌==◌, MatchOption}
use Rattle.jsa_base.specs.Reading.{Read, Reads, u1_at, u2_at, bytes_at, pair_at}
use Rattle.jsa_ops.specs.declared.form.Form.{Form}
use Rattle.jsa_ops.specs.declared.form.Form.TheVariants as forms
use Rattle.jsa_ops.specs.declared.fault.OpFault.{OpFault}
use Rattle.jsa_ops.specs.Opcodes.{form_of}
use Rattle.jsa_ops.specs.Instruction.{Instruction, Byte, Short, Constant, Local, Iinc, Wide, WideIinc, Branch, Member, Interface, Dynamic, ClassOf, NewArray, MultiArray, TableSwitch, LookupSwitch}
use Rattle.jsa_ops.specs.Spelling.{padding, span, keys, ascend}
use Rattle.jsa_ops.specs.Reading.{placed, then_at, of_part, behind, operands_at, instruction_at, wide_at, widened, table_switch_at, distances_at, lookup_switch_at, pairs_at, if_ascending, s1_at, s2_at, s4_at, range_at, count_at, iinc_at, call_at, dimensions_at}
use Rattle.class_tree.specs.WellFormed.{class_name}
use Rattle.verify_rules.specs.Env.{Env, pool_of}
use Rattle.verify_rules.specs.Calls.{class_in}

module _ (e : Env) (size : ℕ) where
  abbrev class_of : Result (Instruction × List ℕ) OpFault → Option (List ℕ)
  class_of read = class_in e (placed size read)

  on_part : {A : Type 0} (next : A → List ℕ → Result (Instruction × List ℕ) OpFault) (r : Read A) → ((x : A) (rest : List ℕ) → class_of (next x rest) ≡ None) → class_of (then_at r next) ≡ None
  on_part next (Some x) h = h x.0 x.1
  on_part next None h = refl

  on_of : {A : Type 0} (make : A → Instruction) (read : List ℕ → Read A) (bytes : List ℕ) → ((x : A) (next : ℕ) → class_in e (Ok (make x, next)) ≡ None) → class_of (of_part make read bytes) ≡ None
  on_of make read bytes h = on_part (λ x rest. Ok (make x, rest)) (read bytes) (λ x rest. h x (size - length rest))

  on_if : (b : Bool) (one other : Result (Instruction × List ℕ) OpFault) → class_of one ≡ None → class_of other ≡ None → class_of (cond b one other) ≡ None
  on_if true one other h k = h
  on_if false one other h k = k

  on_widened : (op code : ℕ) (form : Option Form) (bytes : List ℕ) → class_of (widened op code form bytes) ≡ None
  unfolding widened
  on_widened op code None bytes = refl
  on_widened op code (Some forms.Plain) bytes = refl
  on_widened op code (Some forms.Byte) bytes = refl
  on_widened op code (Some forms.Short) bytes = refl
  on_widened op code (Some forms.NearConstant) bytes = refl
  on_widened op code (Some forms.Constant) bytes = refl
  on_widened op code (Some forms.Local) bytes = on_of (Wide op code) u2_at bytes (λ x n. refl)
  on_widened op code (Some forms.Iinc) bytes = on_of {A = ℕ × ℤ} (λ p. WideIinc op p.0 p.1) (pair_at u2_at s2_at) bytes (λ x n. refl)
  on_widened op code (Some forms.Branch) bytes = refl
  on_widened op code (Some forms.FarBranch) bytes = refl
  on_widened op code (Some forms.Member) bytes = refl
  on_widened op code (Some forms.Interface) bytes = refl
  on_widened op code (Some forms.Dynamic) bytes = refl
  on_widened op code (Some forms.ClassOf) bytes = refl
  on_widened op code (Some forms.NewArray) bytes = refl
  on_widened op code (Some forms.MultiArray) bytes = refl
  on_widened op code (Some forms.TableSwitch) bytes = refl
  on_widened op code (Some forms.LookupSwitch) bytes = refl
  on_widened op code (Some forms.Wide) bytes = refl

  on_wide : (op : ℕ) (bytes : List ℕ) → class_of (wide_at op bytes) ≡ None
  unfolding wide_at
  on_wide op bytes = on_part (λ code rest. widened op code (form_of code) rest) (u1_at bytes) (λ code rest. on_widened op code (form_of code) rest)

  on_distances : (op : ℕ) (other low high : ℤ) (bytes : List ℕ) → class_of (distances_at op other low high bytes) ≡ None
  unfolding distances_at
  on_distances op other low high bytes =
      on_if (int_lt high low) _ _ refl (on_of (TableSwitch op other low high) (bytes_at (4 * span low high)) bytes (λ x n. refl))

  on_table : (pc op : ℕ) (bytes : List ℕ) → class_of (table_switch_at op pc bytes) ≡ None
  unfolding table_switch_at
  on_table pc op bytes =
      on_part (λ (pad : List ℕ) rest. then_at (range_at rest) (λ r more. distances_at op r.0 r.1.0 r.1.1 more)) (bytes_at (padding pc) bytes)
      (λ pad rest. on_part {A = ℤ × (ℤ × ℤ)} (λ r more. distances_at op r.0 r.1.0 r.1.1 more) (range_at rest) (λ r more. on_distances op r.0 r.1.0 r.1.1 more))

  on_pairs : (op : ℕ) (other : ℤ) (count : ℕ) (bytes : List ℕ) → class_of (pairs_at op other count bytes) ≡ None
  unfolding pairs_at
  on_pairs op other count bytes =
      on_if (nat_le (2 ^ 31) count) _ _ refl
      (on_part (λ (pairs : List ℕ) rest. if_ascending (LookupSwitch op other pairs) pairs rest) (bytes_at (8 * count) bytes) (λ pairs rest. on_if (ascend (keys pairs)) _ _ refl refl))

  on_lookup : (pc op : ℕ) (bytes : List ℕ) → class_of (lookup_switch_at op pc bytes) ≡ None
  unfolding lookup_switch_at
  on_lookup pc op bytes =
      on_part (λ (pad : List ℕ) rest. then_at (count_at rest) (λ c more. pairs_at op c.0 c.1 more)) (bytes_at (padding pc) bytes)
      (λ pad rest. on_part {A = ℤ × ℕ} (λ c more. pairs_at op c.0 c.1 more) (count_at rest) (λ c more. on_pairs op c.0 c.1 more))

  -- an instruction of another opcode names none
  on_other : (pc op : ℕ) (form : Option Form) (bytes : List ℕ) → (op == 0xbb) ≡ false → class_of (behind pc op form bytes) ≡ None
  unfolding behind operands_at
  on_other pc op None bytes h = refl
  on_other pc op (Some forms.Plain) bytes h = refl
  on_other pc op (Some forms.Byte) bytes h = on_of (Byte op) s1_at bytes (λ x n. refl)
  on_other pc op (Some forms.Short) bytes h = on_of (Short op) s2_at bytes (λ x n. refl)
  on_other pc op (Some forms.NearConstant) bytes h = on_of (Constant op) u1_at bytes (λ x n. refl)
  on_other pc op (Some forms.Constant) bytes h = on_of (Constant op) u2_at bytes (λ x n. refl)
  on_other pc op (Some forms.Local) bytes h = on_of (Local op) u1_at bytes (λ x n. refl)
  on_other pc op (Some forms.Iinc) bytes h = on_of {A = ℕ × ℤ} (λ p. Iinc op p.0 p.1) iinc_at bytes (λ x n. refl)
  on_other pc op (Some forms.Branch) bytes h = on_of (Branch op) s2_at bytes (λ x n. refl)
  on_other pc op (Some forms.FarBranch) bytes h = on_of (Branch op) s4_at bytes (λ x n. refl)
  on_other pc op (Some forms.Member) bytes h = on_of (Member op) u2_at bytes (λ x n. refl)
  on_other pc op (Some forms.Interface) bytes h = on_of {A = ℕ × (ℕ × ℕ)} (λ p. Interface op p.0 p.1.0 p.1.1) call_at bytes (λ x n. refl)
  on_other pc op (Some forms.Dynamic) bytes h = on_of {A = ℕ × (ℕ × ℕ)} (λ p. Dynamic op p.0 p.1.0 p.1.1) call_at bytes (λ x n. refl)
  on_other pc op (Some forms.ClassOf) bytes h = on_of (ClassOf op) u2_at bytes (λ x n. ap (λ (b : Bool). cond b (class_name (pool_of e) x) None) h)
  on_other pc op (Some forms.NewArray) bytes h = on_of (NewArray op) u1_at bytes (λ x n. refl)
  on_other pc op (Some forms.MultiArray) bytes h = on_of {A = ℕ × ℕ} (λ p. MultiArray op p.0 p.1) dimensions_at bytes (λ x n. refl)
  on_other pc op (Some forms.TableSwitch) bytes h = on_table pc op bytes
  on_other pc op (Some forms.LookupSwitch) bytes h = on_lookup pc op bytes
  on_other pc op (Some forms.Wide) bytes h = on_wide op bytes

  pub made_of_nothing : (pc : ℕ) (bytes : List ℕ) → u1_at bytes ≡ None → class_in e (placed size (instruction_at pc bytes)) ≡ None
  unfolding instruction_at
  made_of_nothing pc bytes h = ap (λ (r : Read ℕ). class_of (then_at r (λ op rest. behind pc op (form_of op) rest))) h

  pub made_of_other : (pc op : ℕ) (bytes rest : List ℕ) → u1_at bytes ≡ Some (op, rest) → (op == 0xbb) ≡ false → class_in e (placed size (instruction_at pc bytes)) ≡ None
  unfolding instruction_at
  made_of_other pc op bytes rest h o = ap (λ (r : Read ℕ). class_of (then_at r (λ op rest. behind pc op (form_of op) rest))) h ∙ on_other pc op (form_of op) rest o

  on_new : (pc : ℕ) (bytes : List ℕ) → class_of (behind pc 0xbb (form_of 0xbb) bytes) ≡ class_of (then_at (u2_at bytes) (λ k rest. Ok (ClassOf 0xbb k, rest)))
  unfolding behind operands_at form_of
  on_new pc bytes = refl

  new_is : (pc : ℕ) (bytes rest : List ℕ) → u1_at bytes ≡ Some (0xbb, rest) → class_of (instruction_at pc bytes) ≡ class_of (then_at (u2_at rest) (λ k more. Ok (ClassOf 0xbb k, more)))
  unfolding instruction_at
  new_is pc bytes rest h = ap (λ (r : Read ℕ). class_of (then_at r (λ op rest. behind pc op (form_of op) rest))) h ∙ on_new pc rest

  pub made_of_new : (pc : ℕ) (bytes rest new : List ℕ) (k : Option ℕ) → u1_at bytes ≡ Some (0xbb, rest) → Reads (λ (n : ℕ). n) k rest new (u2_at rest)
      → MatchOption k (class_in e (placed size (instruction_at pc bytes)) ≡ None) (λ i. class_in e (placed size (instruction_at pc bytes)) ≡ class_name (pool_of e) i)
  made_of_new pc bytes rest new None h r = new_is pc bytes rest h ∙ ap (λ (r : Read ℕ). class_of (then_at r (λ k more. Ok (ClassOf 0xbb k, more)))) r.0
  made_of_new pc bytes rest new (Some k) h r = new_is pc bytes rest h ∙ ap (λ (r : Read ℕ). class_of (then_at r (λ k more. Ok (ClassOf 0xbb k, more)))) r
