use Rattle.jsa_files.proofs.WholeReads.{seen_more}
use Rattle.jsa_files.proofs.disk.count_rest.Goals as goal

pub loop-size-preserved : goal.loop-size-preserved
loop-size-preserved g c =
    let made = c.in_ok-more.ensures in
    seen_more _ _ _ c.read_some.new.buffer _ _ c.in_ok-more.more _ c.loop-size.invariant made.bytes.0 made.bound.0 c.saturating_add-size.ensures
