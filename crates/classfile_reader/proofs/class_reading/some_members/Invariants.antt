use Rattle.std.proofs.Common.{◌≡◌, ◌-◌}
use Rattle.jsa_base.specs.Reading.{times}
use Rattle.class_tree.specs.ClassReading.{member_at}
use Rattle.jsa_base.proofs.Loops.{with_front}
use Rattle.classfile_reader.proofs.class_reading.some_members.Given as goal

abbrev pub invariant-loop : goal.invariant-loop
invariant-loop l = with_front l.members (times member_at (l.count - l.counter) l.cursor) ≡ times member_at l.count l.fn.cursor
