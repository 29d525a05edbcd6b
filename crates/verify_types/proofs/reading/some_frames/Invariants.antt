use Rattle.std.proofs.Common.{◌≡◌, ◌-◌}
use Rattle.jsa_base.specs.Reading.{times}
use Rattle.verify_rules.specs.Table.{frame_at}
use Rattle.jsa_base.proofs.Loops.{with_front}
use Rattle.verify_types.proofs.reading.some_frames.Given as goal

abbrev pub invariant-loop : goal.invariant-loop
invariant-loop l = with_front l.frames (times frame_at (l.count - l.counter) l.cursor) ≡ times frame_at l.count l.fn.cursor
