-- Instructions at places of a code.
use Rattle.std.proofs.Common.{◌≡◌, ℕ, zero, suc, ◌+◌, ◌-◌, ◌<◌, ◌≤◌, List, [], ◌∷◌, length, take, drop, Result, Ok, Err, sym, ap, subst, ◌∙◌, arith}
use Rattle.std.proofs.lemmas.List.{length-append, length-drop, take_all}
use Rattle.std.specs.Prelude.{◌↔◌}
use Rattle.jsa_base.specs.Reading.{IsBytes}
use Rattle.jsa_ops.specs.declared.fault.OpFault.{OpFault}
use Rattle.jsa_ops.specs.Instruction.{Instruction}
use Rattle.jsa_ops.specs.Spelling.{operands}
use Rattle.jsa_ops.specs.Reading.{instruction_at, placed, decoded}
use Rattle.jsa_ops.specs.Places.{Begins, Causes, Answers, AnswersExactly}
use Rattle.jsa_ops.proofs.Found.{has_cause}
use Rattle.jsa_ops.proofs.Back.{is_answered}

pub IsBytes-drop : (n : ℕ) (bytes : List ℕ) → IsBytes bytes → IsBytes (drop n bytes)
IsBytes-drop zero bytes h = h
IsBytes-drop (suc n) [] h = h
IsBytes-drop (suc n) (b ∷ bytes) h = IsBytes-drop n bytes h.1

-- how many bytes an instruction takes
pub begins_size : (code : List ℕ) (pc : ℕ) (i : Instruction) (rest : List ℕ) → (b : Begins pc (drop pc code) i rest) → length code - pc ≡ 1 + length (operands b.pad i) + length rest
begins_size code pc i rest b =
    let len : length (drop pc code) ≡ suc (length (operands b.pad i) + length rest) = ap length b.parts ∙ ap suc (length-append (operands b.pad i) rest) in
    let left : length (drop pc code) ≡ length code - pc = length-drop pc code in
    omega (arith, len, left)

-- what was read has its cause, and so has the answer
placed_is : (code : List ℕ) (pc : ℕ) (r : Result (Instruction × List ℕ) OpFault) → Causes pc (drop pc code) r → Answers code pc (placed (length code) r)
placed_is code pc (Ok x) h =
    let size = begins_size code pc x.0 x.1 h in
    let next : length code - length x.1 + length x.1 ≡ length code = omega (arith, size) in
    (x.1, h, next)
placed_is code pc (Err fault) h = h

pub answers_are : (code : List ℕ) (pc : ℕ) → IsBytes code → Answers code pc (decoded code pc)
answers_are code pc fits = placed_is code pc (instruction_at pc (drop pc code)) (has_cause pc (drop pc code) (IsBytes-drop pc code fits))

pub answered : (code : List ℕ) (pc : ℕ) (answer : Result (Instruction × ℕ) OpFault) → Answers code pc answer → decoded code pc ≡ answer
answered code pc (Ok y) h =
    let next : length code - length h.0 ≡ y.1 = omega (arith, h.2) in
    ap (placed (length code)) (is_answered pc (drop pc code) (Ok (y.0, h.0)) h.1) ∙ ap (λ (n : ℕ). Ok (y.0, n)) next
answered code pc (Err fault) h = ap (placed (length code)) (is_answered pc (drop pc code) (Err fault) h)

pub exactly : AnswersExactly
exactly code pc fits answer = (λ e. subst (Answers code pc) e (answers_are code pc fits), answered code pc answer)

-- ---- the same of what a cursor read

whole : (code : List ℕ) (pc : ℕ) → take (length code - pc) (drop pc code) ≡ drop pc code
whole code pc = take_all (length code - pc) (drop pc code) (omega (arith, length-drop pc code))

pub cursor_read : (code : List ℕ) (pc : ℕ) (i : Instruction) (rest : List ℕ) (left next : ℕ) → instruction_at pc (take (length code - pc) (drop pc code)) ≡ Ok (i, rest) → left ≡ length rest → next ≡ length code - left → decoded code pc ≡ Ok (i, next)
cursor_read code pc i rest left next e l n =
    let at : length code - length rest ≡ next = omega (arith, l, n) in
    ap (placed (length code)) (ap (instruction_at pc) (sym (whole code pc)) ∙ e) ∙ ap (λ (k : ℕ). Ok (i, k)) at

pub cursor_failed : (code : List ℕ) (pc : ℕ) (fault : OpFault) → instruction_at pc (take (length code - pc) (drop pc code)) ≡ Err fault → decoded code pc ≡ Err fault
cursor_failed code pc fault e = ap (placed (length code)) (ap (instruction_at pc) (sym (whole code pc)) ∙ e)

pub answer_is : (code : List ℕ) (pc : ℕ) (shown : Result (Instruction × ℕ) OpFault) → IsBytes code → decoded code pc ≡ shown → (answer : Result (Instruction × ℕ) OpFault) → (shown ≡ answer) ↔ Answers code pc answer
answer_is code pc shown fits e answer = subst (λ (s : Result (Instruction × ℕ) OpFault). (s ≡ answer) ↔ Answers code pc answer) e (exactly code pc fits answer)

-- The next place lies behind the place, in the code.
pub next_is : (code : List ℕ) (pc : ℕ) (i : Instruction) (next : ℕ) → IsBytes code → decoded code pc ≡ Ok (i, next) → (pc < next) × (next ≤ length code)
next_is code pc i next fits e =
    let h : Answers code pc (Ok (i, next)) = (exactly code pc fits (Ok (i, next))).0 e in
    let size = begins_size code pc i h.0 h.1 in
    let all : next + length h.0 ≡ length code = h.2 in
    (omega (arith, size, all), omega (arith, all))
