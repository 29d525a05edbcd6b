use Rattle.std.proofs.Common.{◌≡◌, ◌-◌, length, sym, ◌∙◌, ap, arith, inl, inr}
use Rattle.std.proofs.lemmas.List.{length-set}
use Rattle.verify_types.proofs.Marked.{walk_on, walk_stops, walk_ends, walked_knows}
use Rattle.verify_types.proofs.places.walked.Goals as goal

pub returns-then-place-code : goal.returns-then-place-code
returns-then-place-code c =
    walked_knows _ c.requires.bytes c.requires.short _ _ _ (walk_ends _ _ _ _ _ c.loop.place _ (inr c.if-place-code.true) c.loop.invariant.1)

pub returns-in_default : goal.returns-in_default
returns-in_default c =
    let e = sym c.in_default.ensures.decoded in
    walked_knows _ c.requires.bytes c.requires.short _ _ _ (walk_stops _ _ _ _ _ c.loop.place _ c.loop.counter _ c.loop-test.true c.if-place-code.false e c.loop.invariant.1)

pub loop-preserved : goal.loop-preserved
loop-preserved c =
    let e = sym c.in-Ok.ensures.decoded in
    let w = walk_on _ _ _ _ _ c.loop.place _ c.loop.counter _ c.in-Ok.next c.loop-test.true c.if-place-code.false e c.loop.invariant.1 in
    (ap length c.set.ensures ∙ length-set _ _ _ ∙ c.loop.invariant.0, rw (c.set.ensures, c.mark_of.ensures, c.in_ok-push.ensures.ok) w)

pub returns : goal.returns
returns c =
    let e : length c.args.code.now - c.loop.counter ≡ 0 = omega arith in
    walked_knows _ c.requires.bytes c.requires.short _ _ _ (walk_ends _ _ _ _ _ c.loop.place _ (inl e) c.loop.invariant.1)
