use Rattle.std.proofs.Common.{sym, ◌∙◌, ap, arith}
use Rattle.verify_rules.specs.Types.{units, top_first}
use Rattle.verify_rules.proofs.Tops.{units_pushed, top_first-append}
use Rattle.verify_rules.proofs.stack.TypeStack.pop.Goals as goal

pub overflow_sub-self : goal.overflow_sub-self
overflow_sub-self c =
    let u = units_pushed c.pop.new.self c.in_ok-t.t in
    let e = ap units c.in_ok-t.ensures in
    omega (arith, c.size.ensures.value)

pub invariant_of-self-2 : goal.invariant_of-self-2
invariant_of-self-2 c =
    let u = units_pushed c.pop.new.self c.in_ok-t.t in
    let e = ap units c.in_ok-t.ensures in
    omega (arith, c.size.ensures.value)

pub returns : goal.returns
returns c = sym c.self.view_is ∙ ap top_first c.in_ok-t.ensures ∙ top_first-append c.pop.new.self c.in_ok-t.t
