use Rattle.std.proofs.Common.{◌≡◌, ◌+◌, ◌-◌, ◌<◌, length, arith, get_or, ℕ, subst}
use Rattle.std.proofs.lemmas.Option.{slice_get-get_or}
use Rattle.verify_rules.specs.Walking.{Numbers}
use Rattle.type_verifier.proofs.Numbering.{none_numbered, one_numbered}
use Rattle.type_verifier.proofs.declared.numbered.Goals as goal

pub loop-k-init : goal.loop-k-init
loop-k-init c = rw c.new-numbers.ensures (none_numbered c.args.frames.now _ (omega arith))

pub loop-k-preserved : goal.loop-k-preserved
loop-k-preserved c =
    let frames = c.args.frames.now in
    let k = c.loop-k.k - 1 in
    let e : c.loop-k.k ≡ k + 1 = omega arith in
    let d = c.index-frames-k.result in
    let within : k < length frames = omega arith in
    one_numbered frames k (get_or frames k d) c.loop-k.numbers c.put.new.numbers (slice_get-get_or frames k d within) (subst (λ (n : ℕ). Numbers frames n c.loop-k.numbers) e c.loop-k.invariant) c.in_ok-put.ensures
