use Rattle.std.proofs.Common.{◌≡◌, length}
use Rattle.asm_text.specs.Operations.{cases_of}
use Rattle.asm_text.proofs.Each.{with_front}
use Rattle.asm_text.proofs.operations.cases_of.Given as goal

abbrev pub invariant-loop-rest : goal.invariant-loop-rest
invariant-loop-rest l = with_front l.cases (cases_of l.rest) ≡ cases_of l.fn.rest

abbrev pub decreases-loop-rest : goal.decreases-loop-rest
decreases-loop-rest l = length l.rest
