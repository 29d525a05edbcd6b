use Rattle.std.proofs.Common.{subst}
use Rattle.jsa_files.specs.Plans.{FailsLater}
use Rattle.jsa_files.proofs.PlanEntries.{none_fails}
use Rattle.jsa_files.proofs.memory_sink.MemorySink.new.Goals as goal

pub returns-clause-can_fail : goal.returns-clause-can_fail
returns-clause-can_fail c = λ later. none_fails (subst FailsLater c.new-2.ensures later)
