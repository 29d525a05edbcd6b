use Rattle.verify_types.proofs.Marked.{long_knows}
use Rattle.verify_types.proofs.places.Places.new.Goals as goal

pub invariant_of-result : goal.invariant_of-result
invariant_of-result c = rw (c.new-then-code-gt65535.ensures, c.new-then-code-gt65535-2.ensures) (long_knows _ (rw c.new.ensures at c.are_bytes.ensures) c.if-code-gt65535.true)
