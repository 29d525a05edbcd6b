use Rattle.std.proofs.Common.{ℕ, List, sym, ◌∙◌, ap, arith, add-one}
use Rattle.verify_rules.specs.declared.types.VType.{VType}
use Rattle.verify_rules.specs.Types.{units}
use Rattle.verify_rules.specs.Steps.{turned_at}
use Rattle.verify_rules.proofs.Turning.{turned_before, none_turned, turned_more, all_turned, units_turned}
use Rattle.verify_rules.proofs.copies.turn_locals.Goals as goal

pub loop-at-init : goal.loop-at-init
loop-at-init c = sym (none_turned c.args.old c.args.new.now c.args.locals.now)

pub returns-in_err-turn_at-clause-units : goal.returns-in_err-turn_at-clause-units
returns-in_err-turn_at-clause-units c one =
    ap units (c.in_err-turn_at.ensures.err ∙ c.loop-at.invariant) ∙ units_turned c.args.old c.args.new.now c.loop-at.at c.args.locals.now one

pub loop-at-preserved : goal.loop-at-preserved
loop-at-preserved c =
    c.in_ok-turn_at.ensures.ok
    ∙ ap (λ (ts : List VType). turned_at c.args.old c.args.new.now ts c.loop-at.at) c.loop-at.invariant
    ∙ turned_more c.args.old c.args.new.now c.loop-at.at c.args.locals.now
    ∙ ap (λ (n : ℕ). turned_before c.args.old c.args.new.now n c.args.locals.now) (sym (add-one c.loop-at.at))

pub returns-clause-turned : goal.returns-clause-turned
returns-clause-turned c = c.loop-at.invariant ∙ all_turned c.args.old c.args.new.now c.loop-at.at c.args.locals.now (omega arith)

pub returns-clause-units : goal.returns-clause-units
returns-clause-units c one = ap units c.loop-at.invariant ∙ units_turned c.args.old c.args.new.now c.loop-at.at c.args.locals.now one
