use Rattle.std.proofs.Common.{◌-◌}
use Rattle.jsa_files.specs.declared.TheConstants.{MAX_FILE}
use Rattle.jsa_files.proofs.WholeReads.{HasHashed}
use Rattle.jsa_files.proofs.disk.digest_whole.Given as goal

abbrev pub invariant-loop-taken : goal.invariant-loop-taken
invariant-loop-taken g l = HasHashed (g.F.Read.remaining l.fn.file) (g.F.Read.remaining l.file) l.hasher l.size

abbrev pub decreases-loop-taken : goal.decreases-loop-taken
decreases-loop-taken g l = MAX_FILE - l.size
