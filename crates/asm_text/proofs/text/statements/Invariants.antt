use Rattle.std.proofs.Common.{◌≡◌, ◌+◌, ◌≤◌, ◌++◌, length, map}
use Rattle.asm_text.specs.Lines.{lines}
use Rattle.asm_text.specs.Grammar.{line_statement}
use Rattle.asm_text.proofs.text.statements.Given as goal

abbrev pub invariant-loop-rest : goal.invariant-loop-rest
invariant-loop-rest l = record { few : length l.statements + length l.rest ≤ length l.text; value : l.statements ++ map line_statement (lines l.rest) ≡ map line_statement (lines l.text) }

abbrev pub decreases-loop-rest : goal.decreases-loop-rest
decreases-loop-rest l = length l.rest
