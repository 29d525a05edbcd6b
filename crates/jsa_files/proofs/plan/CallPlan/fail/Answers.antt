use Rattle.std.proofs.Common.{ap, arith}
use Rattle.jsa_files.specs.Plans.{Plan, with_failure}
use Rattle.jsa_files.proofs.PlanEntries.{failing_insert, failing_end}
use Rattle.jsa_files.proofs.plan.CallPlan.fail.Goals.{in-Ok, in-Err}
use Rattle.jsa_files.proofs.plan.CallPlan.fail.Goals as goal

pub invariant_of-self : goal.invariant_of-self
invariant_of-self c = elim c.match-insert.branch [
  | in-Ok w ↦ rw w.in-Ok.ensures.entries (failing_end c.self.inside.failing.entries c.args.call c.args.kept (omega arith) c.self.invariant)
  | in-Err w ↦ rw w.in-Err.ensures.err c.self.invariant
]

pub returns-clause-ok : goal.returns-clause-ok
returns-clause-ok c = elim c.match-insert.branch [
  | in-Ok w ↦ rw (w.result-is, w.in-Ok.ensures.entries, failing_insert c.self.inside.failing.entries c.args.call c.args.kept) (ap (λ (p : Plan). with_failure p c.args.call c.args.kept) c.self.view_is)
  | in-Err w ↦ rw w.result-is tt
]
