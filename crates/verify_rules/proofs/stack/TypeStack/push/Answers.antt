use Rattle.std.proofs.Common.{refl, ap, arith}
use Rattle.std.proofs.lemmas.Bool.{le-leb, lt-leb}
use Rattle.verify_rules.specs.Types.{units}
use Rattle.verify_rules.proofs.Tops.{units_seen, units_pushed, top_pushed}
use Rattle.verify_rules.proofs.stack.TypeStack.push.Goals as goal

pub returns-then-from : goal.returns-then-from
returns-then-from c =
    let u = units_seen c.self.inside.items c.args.self.now c.self.view_is in
    (lt-leb _ _ (omega (arith, c.size-size.ensures.value)), refl)

pub invariant_of-self-2 : goal.invariant_of-self-2
invariant_of-self-2 c =
    let u = units_pushed c.self.inside.items c.args.t in
    let e = ap units c.in_ok-push.ensures.ok in
    omega (arith, c.size-size.ensures.value)

pub returns : goal.returns
returns c =
    let u = units_seen c.self.inside.items c.args.self.now c.self.view_is in
    (le-leb _ _ (omega (arith, c.size-size.ensures.value)), top_pushed c.self.inside.items c.push.new.self c.args.self.now c.args.t c.in_ok-push.ensures.ok c.self.view_is)
