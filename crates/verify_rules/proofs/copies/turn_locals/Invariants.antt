use Rattle.std.proofs.Common.{◌≡◌}
use Rattle.verify_rules.proofs.Turning.{turned_before}
use Rattle.verify_rules.proofs.copies.turn_locals.Given as goal

abbrev pub invariant-loop-at : goal.invariant-loop-at
invariant-loop-at l = l.locals ≡ turned_before l.old l.new l.at l.fn.locals
