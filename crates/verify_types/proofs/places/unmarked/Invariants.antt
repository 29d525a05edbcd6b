use Rattle.std.proofs.Common.{◌≡◌, replicate}
use Rattle.verify_types.specs.declared.places.Mark.TheVariants.{Inside}
use Rattle.verify_types.proofs.places.unmarked.Given as goal

abbrev pub invariant-loop : goal.invariant-loop
invariant-loop l = l.marks ≡ replicate l.counter Inside
