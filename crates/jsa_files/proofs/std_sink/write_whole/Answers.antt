use Rattle.jsa_files.proofs.WholeWrites.{wrote_more}
use Rattle.jsa_files.proofs.std_sink.write_whole.Goals as goal

pub loop-rest-preserved : goal.loop-rest-preserved
loop-rest-preserved g c = wrote_more _ _ _ _ c.loop-rest.rest.now c.in-Ok.count c.loop-rest.invariant c.in-Ok.ensures.bytes
