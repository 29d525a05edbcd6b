use Rattle.std.proofs.Common.{◌≡◌, ◌++◌, replicate}
use Rattle.verify_rules.specs.declared.types.VType.TheVariants.{Top}
use Rattle.verify_types.proofs.frames.push_tops.Given as goal

abbrev pub invariant-loop : goal.invariant-loop
invariant-loop l = l.all ≡ l.fn.all ++ replicate l.counter Top
