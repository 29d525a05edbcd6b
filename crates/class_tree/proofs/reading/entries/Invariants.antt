use Rattle.std.proofs.Common.{◌≡◌, true, ◌-◌}
use Rattle.class_tree.specs.Reading.{entries_at}
use Rattle.jsa_base.proofs.Loops.{with_front}
use Rattle.class_tree.proofs.reading.entries.Given as goal

abbrev pub invariant-loop : goal.invariant-loop
invariant-loop l = with_front l.entries (entries_at l.unusable (l.count - l.counter) l.cursor) ≡ entries_at true l.count l.fn.cursor
