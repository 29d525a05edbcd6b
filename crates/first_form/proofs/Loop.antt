-- Reading instructions one after the other to the end of the bytes, as a loop does.
use Rattle.std.proofs.Common.{◌≡◌, ℕ, suc, length, ◌-◌, ◌+◌, ◌≤◌, ◌<◌, List, [], ◌∷◌, ◌++◌, Option, Some, None, Err, refl, sym, ap, ◌∙◌, append_assoc, arith}
use Rattle.std.proofs.lemmas.List.{append-nil}
use Rattle.jsa_base.specs.Reading.{◌>>=◌}
use Rattle.first_form.specs.declared.fault.FormFault.{FormFault}
use Rattle.first_form.specs.declared.fault.FormFault.TheVariants.{NotFirstForm, Memory}
use Rattle.class_tree.specs.declared.tree.ClassTree.{ClassTree}
use Rattle.first_form.specs.declared.program.Instruction.{Instruction}
use Rattle.first_form.specs.Outcomes.{Gives, Yields}
use Rattle.first_form.specs.Program.{instruction_at, instructions_in}

-- what was read before, and what is still read
abbrev pub whole_with_front : List Instruction → Option (List Instruction) → Option (List Instruction)
whole_with_front front read = read >>= λ x. Some (front ++ x)

whole_regroup : (front : List Instruction) (n : Instruction) (read : Option (List Instruction)) → whole_with_front front (read >>= λ x. Some (n ∷ x)) ≡ whole_with_front (front ++ n ∷ []) read
whole_regroup front n (Some x) = ap (λ (ns : List Instruction). Some ns) (simp append_assoc)
whole_regroup front n None = refl

pub instructions_go_on : (p : ClassTree) (front : List Instruction) (count i : ℕ) (bytes : List ℕ) (n : Instruction) (after : List ℕ) (total : Option (List Instruction)) → i < count → 0 < length bytes → instruction_at p bytes ≡ Some (n, after)
    → whole_with_front front (instructions_in p (count - i) bytes) ≡ total → whole_with_front (front ++ n ∷ []) (instructions_in p (count - (i + 1)) after) ≡ total
instructions_go_on p front count i [] n after total lt some h so_far = absurd (omega arith)
instructions_go_on p front count i (b ∷ bytes) n after total lt some h so_far =
    let k : count - i ≡ suc (count - (i + 1)) = omega arith in
    let one : whole_with_front front (instructions_in p (count - i) (b ∷ bytes)) ≡ whole_with_front (front ++ n ∷ []) (instructions_in p (count - (i + 1)) after) = rw (k, h) (whole_regroup front n (instructions_in p (count - (i + 1)) after)) in
    sym one ∙ so_far

pub instructions_end : (p : ClassTree) (e : FormFault) (front : List Instruction) (count i : ℕ) (bytes after : List ℕ) (total : Option (List Instruction)) → i < count → 0 < length bytes → Gives {A = Instruction} (Err e) after (instruction_at p bytes)
    → whole_with_front front (instructions_in p (count - i) bytes) ≡ total → Yields {A = List Instruction} (Err e) total
instructions_end p Memory front count i bytes after total lt some h so_far = tt
instructions_end p NotFirstForm front count i [] after total lt some h so_far = absurd (omega arith)
instructions_end p NotFirstForm front count i (b ∷ bytes) after total lt some h so_far =
    let k : count - i ≡ suc (count - (i + 1)) = omega arith in
    let one : whole_with_front front (instructions_in p (count - i) (b ∷ bytes)) ≡ None = rw (k, h) refl in
    sym so_far ∙ one

pub instructions_are_done : (p : ClassTree) (front : List Instruction) (n : ℕ) (bytes : List ℕ) (total : Option (List Instruction)) → length bytes ≡ 0 → whole_with_front front (instructions_in p n bytes) ≡ total → total ≡ Some front
instructions_are_done p front n [] total le so_far = sym so_far ∙ ap (λ (ns : List Instruction). Some ns) (append-nil front)
instructions_are_done p front n (b ∷ bytes) total le so_far = absurd (omega arith)

pub instructions_are_cut : (p : ClassTree) (front : List Instruction) (count i : ℕ) (bytes : List ℕ) (total : Option (List Instruction)) → count ≤ i → 0 < length bytes → whole_with_front front (instructions_in p (count - i) bytes) ≡ total → total ≡ None
instructions_are_cut p front count i [] total le some so_far = absurd (omega arith)
instructions_are_cut p front count i (b ∷ bytes) total le some so_far =
    let k : count - i ≡ 0 = omega arith in
    let one : whole_with_front front (instructions_in p (count - i) (b ∷ bytes)) ≡ None = rw k refl in
    sym so_far ∙ one
