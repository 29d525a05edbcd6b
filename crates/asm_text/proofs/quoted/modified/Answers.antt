use Rattle.std.proofs.Common.{◌≡◌, refl, Bool, true, false}
use Rattle.std.specs.Str.{is_utf8}
use Rattle.std.proofs.lemmas.Str.{is_utf8-from_IsUtf8, IsUtf8-from_is_utf8}
use Rattle.asm_text.specs.Quoted.{modified}
use Rattle.asm_text.proofs.quoted.modified.Goals as goal

test_false : (b : Bool) → (b ≡ true → ⊥) → b ≡ false
test_false true h = absurd (h refl)
test_false false h = refl

pub returns-in_ok-modified-in-Ok : goal.returns-in_ok-modified-in-Ok
unfolding modified
returns-in_ok-modified-in-Ok c =
    let u = is_utf8-from_IsUtf8 c.args.line.now c.in-Ok.ensures.cases.1 in
    rw (u, c.in_ok-modified-in-Ok.ensures.bytes, c.in-Ok.ensures.cases.0) refl

pub returns-in-Err : goal.returns-in-Err
unfolding modified
returns-in-Err c =
    let u = test_false (is_utf8 c.args.line.now) (λ t. c.in-Err.ensures.cases.0 (IsUtf8-from_is_utf8 c.args.line.now t)) in
    rw u refl
