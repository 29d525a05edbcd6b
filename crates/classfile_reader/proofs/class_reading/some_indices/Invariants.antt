use Rattle.std.proofs.Common.{◌≡◌, ◌-◌}
use Rattle.jsa_base.specs.Reading.{times, u2_at}
use Rattle.jsa_base.proofs.Loops.{with_front}
use Rattle.classfile_reader.proofs.class_reading.some_indices.Given as goal

abbrev pub invariant-loop : goal.invariant-loop
invariant-loop l = with_front l.indices (times u2_at (l.count - l.counter) l.cursor) ≡ times u2_at l.count l.fn.cursor
