use Rattle.std.proofs.Common.{◌≡◌, None}
use Rattle.jsa_files.specs.Sinks.{GrowsBy}
use Rattle.first_form.specs.Machine.{IsAt, state_after, start}
use Rattle.first_form.proofs.running.run.Given as goal

abbrev pub invariant-loop : goal.invariant-loop
invariant-loop g l = record {
  at : IsAt (state_after l.program l.counter start) l.machine None;
  turns : l.machine.turns ≡ l.counter;
  out : GrowsBy (g.O.Sink.taken l.fn.out) (g.O.Sink.taken l.out) (state_after l.program l.counter start).out;
  stays : g.O.Sink.can_fail l.out → g.O.Sink.can_fail l.fn.out;
  quiet : g.O.Sink.faults l.out ≡ g.O.Sink.faults l.fn.out;
}
