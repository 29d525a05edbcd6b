use Rattle.std.proofs.Common.{◌≡◌, ◌-◌}
use Rattle.jsa_base.specs.Reading.{times}
use Rattle.plain_classes.specs.Records.{class_at}
use Rattle.jsa_base.proofs.Loops.{with_front}
use Rattle.plain_classes.proofs.reading.some_classes.Given as goal

abbrev pub invariant-loop : goal.invariant-loop
invariant-loop l = with_front l.classes (times class_at (l.count - l.counter) l.cursor) ≡ times class_at l.count l.fn.cursor
