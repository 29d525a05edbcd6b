use Rattle.std.proofs.Common.{◌≡◌, ◌-◌, ◌≤◌, length}
use Rattle.first_form.specs.Program.{instructions_in}
use Rattle.first_form.proofs.Loop.{whole_with_front}
use Rattle.first_form.proofs.instructions.instructions.Given as goal

abbrev pub invariant-loop : goal.invariant-loop
invariant-loop l = record {
  read : whole_with_front l.instructions (instructions_in l.t (length l.code - l.counter) l.cursor) ≡ instructions_in l.t (length l.code) l.code;
  few : length l.instructions ≤ l.counter;
}
