-- The pieces of a quoted text, one after the other.
use Rattle.std.proofs.Common.{◌≡◌, ℕ, suc, ◌+◌, ◌-◌, ◌<◌, ◌≤◌, List, true, false, Option, Some, None, refl, sym, ◌∙◌, arith}
use Rattle.asm_text.specs.declared.fault.LineFault.{LineFault}
use Rattle.asm_text.specs.declared.fault.LineFault.TheVariants as faults
use Rattle.asm_text.specs.Outcome.{Refuses}
use Rattle.asm_text.specs.Quoted.{closes, piece, put_after, pieces}

pub ends : (m i : ℕ) (text bytes : List ℕ) (total : Option (List ℕ)) → i < m → closes bytes ≡ true → pieces (m - i) text bytes ≡ total → total ≡ Some text
unfolding pieces
ends m i text bytes total lt h so_far =
    let k : m - i ≡ suc (m - (i + 1)) = omega arith in
    let one : pieces (m - i) text bytes ≡ Some text = rw (k, h) refl in
    sym so_far ∙ one

pub goes : (m i : ℕ) (text bytes more after : List ℕ) (total : Option (List ℕ)) → i < m → closes bytes ≡ false → put_after text (piece bytes) ≡ Some (after, more) → pieces (m - i) text bytes ≡ total → pieces (m - (i + 1)) more after ≡ total
unfolding pieces
goes m i text bytes more after total lt h g so_far =
    let k : m - i ≡ suc (m - (i + 1)) = omega arith in
    let one : pieces (m - i) text bytes ≡ pieces (m - (i + 1)) more after = rw (k, h, g) refl in
    sym one ∙ so_far

pub stops : (e : LineFault) (m i : ℕ) (text bytes : List ℕ) (total : Option (List ℕ)) → i < m → closes bytes ≡ false → Refuses e (put_after text (piece bytes)) → pieces (m - i) text bytes ≡ total → Refuses e total
unfolding pieces
stops faults.Memory m i text bytes total lt h g so_far = tt
stops faults.Outside m i text bytes total lt h g so_far =
    let k : m - i ≡ suc (m - (i + 1)) = omega arith in
    let one : pieces (m - i) text bytes ≡ None = rw (k, h, g) refl in
    sym so_far ∙ one

pub no_more : (m i : ℕ) (text bytes : List ℕ) (total : Option (List ℕ)) → m ≤ i → pieces (m - i) text bytes ≡ total → total ≡ None
unfolding pieces
no_more m i text bytes total le so_far =
    let k : m - i ≡ 0 = omega arith in
    let one : pieces (m - i) text bytes ≡ None = rw k refl in
    sym so_far ∙ one
