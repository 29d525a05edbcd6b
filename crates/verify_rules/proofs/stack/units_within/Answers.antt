use Rattle.std.proofs.Common.{◌≡◌, ℕ, ◌+◌, ◌<◌, true, false, leb, Some, refl, ap, arith}
use Rattle.std.proofs.lemmas.Bool.{le-leb, lt-leb}
use Rattle.verify_rules.specs.Types.{units, size}
use Rattle.verify_rules.proofs.Units.{units_on, units_done, units_past}
use Rattle.verify_rules.proofs.stack.units_within.Goals as goal

pub returns-then-room-taken : goal.returns-then-room-taken
returns-then-room-taken c =
    let more : c.args.room < c.loop-t.taken + size c.t-item.result = omega (arith, c.size-size.ensures.value) in
    let past = units_past c.loop-t.taken c.args.room c.args.types.now c.loop-t.t-index c.t-item.result _ c.loop-t-test.true c.t-item.is more c.loop-t.invariant.0 in
    let e : leb (units c.args.types.now) c.args.room ≡ false = lt-leb _ _ past in
    rw e refl

pub loop-t-preserved : goal.loop-t-preserved
loop-t-preserved c =
    let more : c.loop-t.taken + c.size-size.result ≡ c.loop-t.taken + size c.t-item.result = ap (λ (n : ℕ). c.loop-t.taken + n) c.size-size.ensures.value in
    (units_on c.loop-t.taken _ c.args.types.now c.loop-t.t-index c.t-item.result _ c.loop-t-test.true c.t-item.is more c.loop-t.invariant.0, omega arith)

pub returns : goal.returns
returns c =
    let all : c.loop-t.taken ≡ units c.args.types.now = units_done c.loop-t.taken c.args.types.now c.loop-t.t-index _ c.loop-t-test.false c.loop-t.invariant.0 in
    let e : leb (units c.args.types.now) c.args.room ≡ true = le-leb _ _ (omega arith) in
    rw e (ap (λ (n : ℕ). Some n) all)
