use Rattle.std.proofs.Common.{ap, sym, ◌∙◌, ◌+◌}
use Rattle.jsa_files.specs.Plans.{due}
use Rattle.jsa_files.proofs.PlanEntries.{failing_at}
use Rattle.jsa_files.proofs.plan.CallPlan.begin.Goals as goal

pub returns-then-self-clause-due : goal.returns-then-self-clause-due
returns-then-self-clause-due c = rw (← c.self.view_is, c.if-self.true) (sym c.self.invariant)

pub returns-clause-due : goal.returns-clause-due
returns-clause-due c = c.copied.ensures ∙ c.get.ensures.value ∙ sym (failing_at c.self.inside.failing.entries (c.self.inside.made + 1)) ∙ ap due c.self.view_is
