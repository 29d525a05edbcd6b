use Rattle.std.proofs.Common.{◌-◌, ◌^◌}
use Rattle.jsa_files.proofs.WholeReads.{HasSeen}
use Rattle.jsa_files.proofs.disk.count_rest.Given as goal

abbrev pub invariant-loop-size : goal.invariant-loop-size
invariant-loop-size g l = HasSeen (g.F.Read.remaining l.fn.file) (g.F.Read.remaining l.file) l.before l.size

abbrev pub decreases-loop-size : goal.decreases-loop-size
decreases-loop-size g l = 2 ^ 64 - 1 - l.size
