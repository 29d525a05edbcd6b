use Rattle.std.proofs.Common.{◌≡◌, ◌+◌, length, IsTrue}
use Rattle.plain_classes.specs.Records.{classes_text, have_short_texts}
use Rattle.plain_classes.proofs.class.classes_size.Given as goal

abbrev pub invariant-loop-rest : goal.invariant-loop-rest
invariant-loop-rest l = (l.size + length (classes_text l.rest) ≡ length (classes_text l.fn.classes)) × IsTrue (have_short_texts l.rest)

abbrev pub decreases-loop-rest : goal.decreases-loop-rest
decreases-loop-rest l = length l.rest
