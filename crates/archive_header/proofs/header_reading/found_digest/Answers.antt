use Rattle.std.proofs.Common.{arith}
use Rattle.std.proofs.lemmas.List.{length-take-le}
use Rattle.archive_header.proofs.header_reading.found_digest.Goals as goal

pub slice_bounds-digest-end : goal.slice_bounds-digest-end
slice_bounds-digest-end c = omega (arith, length-take-le 224 c.args.bytes.now (omega (arith, c.requires)))
