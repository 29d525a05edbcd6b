-- What was written is read again.
use Rattle.std.proofs.Common.{◌≡◌, ℕ, ◌-◌, List, [], ◌∷◌, ◌++◌, length, drop, Ok, refl, sym, ap, subst, ◌∙◌, append_assoc, arith}
use Rattle.std.proofs.lemmas.List.{length-append, drop_at}
use Rattle.jsa_ops.specs.Instruction.{Instruction}
use Rattle.jsa_ops.specs.Spelling.{Fits, opcode, operands, text_of}
use Rattle.jsa_ops.specs.Reading.{instruction_at, placed}
use Rattle.jsa_ops.specs.Places.{Answers, IsDecoded, DecodesAgain}
use Rattle.jsa_ops.proofs.Forms.{zeros, zeros_pad}
use Rattle.jsa_ops.proofs.Back.{again}
use Rattle.jsa_ops.proofs.Placed.{exactly}

-- what some bytes decode to fits
pub fits_is : (i : Instruction) → IsDecoded i → Fits i
fits_is i d =
    let h : Answers d.0 d.1 (Ok (i, d.2)) = (exactly d.0 d.1 d.3 (Ok (i, d.2))).0 d.4 in
    h.1.fits

placed_again : (pc : ℕ) (i : Instruction) (old : List ℕ) → length old ≡ pc → DecodesAgain i old (old ++ text_of pc i)
placed_again pc i old at d behind =
    let text = text_of pc i in
    let whole = (old ++ text) ++ behind in
    let here : drop (length old) whole ≡ text ++ behind = ap (drop (length old)) (append_assoc old text behind) ∙ drop_at old (text ++ behind) (length old) refl in
    let read : instruction_at pc (text ++ behind) ≡ Ok (i, behind) = again pc (zeros pc) i behind (zeros_pad pc) (fits_is i d) in
    let size : length whole - length behind ≡ length (old ++ text) = ap (λ (n : ℕ). n - length behind) (length-append (old ++ text) behind) ∙ omega arith in
    ap (λ (b : List ℕ). placed (length whole) (instruction_at (length old) b)) here
    ∙ ap (λ (n : ℕ). placed (length whole) (instruction_at n (text ++ behind))) at
    ∙ ap (placed (length whole)) read ∙ ap (λ (n : ℕ). Ok (i, n)) size

pub written : (pc op : ℕ) (i : Instruction) (old mid new : List ℕ) → op ≡ opcode i → mid ≡ old ++ (op ∷ []) → new ≡ mid ++ operands (zeros pc) i → length old ≡ pc → DecodesAgain i old new
written pc op i old mid new named e h at =
    let first : mid ≡ old ++ (opcode i ∷ []) = e ∙ ap (λ (n : ℕ). old ++ (n ∷ [])) named in
    let all : new ≡ old ++ text_of pc i = h ∙ ap (λ (m : List ℕ). m ++ operands (zeros pc) i) first ∙ append_assoc old (opcode i ∷ []) (operands (zeros pc) i) in
    subst (λ (n : List ℕ). DecodesAgain i old n) (sym all) (placed_again pc i old at)
