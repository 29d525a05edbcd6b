-- One byte at a time.
use Rattle.std.proofs.Common.{◌≡◌, ℕ, ◌+◌, ◌<◌, ◌≤◌, List, length, get_or, drop, refl, drop-cons, add-one}
use Rattle.std.proofs.lemmas.List.{drop_all}
use Rattle.asm_text.specs.declared.tokens.Cutting.{Cutting}
use Rattle.asm_text.specs.Lines.{taken, cut}

pub cut_on : (s : Cutting) (line : List ℕ) (i : ℕ) → i < length line → cut s (drop i line) ≡ cut (taken (get_or line i 0) s) (drop (i + 1) line)
unfolding cut
cut_on s line i h = rw (add-one, drop-cons line i 0) refl

pub cut_done : (s : Cutting) (line : List ℕ) (i : ℕ) → length line ≤ i → cut s (drop i line) ≡ s
unfolding cut
cut_done s line i h = rw (drop_all i line h) refl
