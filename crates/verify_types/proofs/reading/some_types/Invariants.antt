use Rattle.std.proofs.Common.{◌≡◌, ◌-◌}
use Rattle.jsa_base.specs.Reading.{times}
use Rattle.verify_rules.specs.Table.{type_at}
use Rattle.jsa_base.proofs.Loops.{with_front}
use Rattle.verify_types.proofs.reading.some_types.Given as goal

abbrev pub invariant-loop : goal.invariant-loop
invariant-loop l = with_front l.types (times type_at (l.count - l.counter) l.cursor) ≡ times type_at l.count l.fn.cursor
